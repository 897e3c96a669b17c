-- Document 01, "Names", "Ceilings" and rows 2, 4 and 5 of "What is answered" ("name unknown, declared twice, of the wrong kind", ..): worked examples on both sides of the rules, computed.
-- Each is a small tree: true where the model is lawful, false where it is not.
use Rattle.std.specs.Prelude.{ℕ, zero, suc, ◌≡◌, refl, Bool, true, false, List, [], ◌∷◌, replicate}
use Rattle.std.proofs.Math.Option.{Option, none, some}
use Rattle.base_bytes.specs.Lists.{same}
use Rattle.spec_text.specs.Formats.{format_from}
use Rattle.spec_text.specs.Names.{pid}
use Rattle.base_kinds.specs.Kinds.{bytes}
use Rattle.spec_grammar.specs.Marks.{k_len, k_bang, k_ask}
use Rattle.spec_grammar.specs.Tree.{Name, Expr, plain, indexed, num, get, query, unary, binary, choice, into, equal, exactly}
use Rattle.spec_grammar.specs.Tree.{action, sequence, Tree, leaf, express, assign, increment, decrement, send, receive, print, skip, goto, break, else, run, set_run, select, loop, bare, labelled, end, then, over, option}
use Rattle.spec_grammar.specs.Tree.{Value, unset, set_name, set_channel, Declaration, declare, group, body, idle, once, Part, mtypes, global, process, init}
use Rattle.spec_grammar.specs.Tree as tree
use Rattle.spec_rules.specs.Senses.{sense_in, fresh, sense_of}
use Rattle.legal_rules.specs.Expressions.{usable, named, lawful}
use Rattle.legal_rules.specs.Statements.{apart, runs, formats, allowed}
use Rattle.legal_rules.specs.Units.{joins, variables, declarations, body_lawful, parts_lawful, model_lawful}

-- to unfold this is to unfold all that the examples compute with
unfoldable judging : Unit {0}
unfolding
    same format_from sense_in fresh sense_of usable named lawful apart runs formats allowed joins variables declarations body_lawful parts_lawful model_lawful
judging = tt

-- ## names, types, and what the small models share
abbrev a : Name
a = bytes "a"

abbrev c : Name
c = bytes "c"

abbrev d : Name
d = bytes "d"

abbrev m : Name
m = bytes "m"

abbrev p : Name
p = bytes "p"

abbrev q : Name
q = bytes "q"

abbrev x : Name
x = bytes "x"

abbrev y : Name
y = bytes "y"

abbrev L : Name
L = bytes "L"

abbrev mtype : ℕ
mtype = 41

abbrev chan : ℕ
chan = 43

abbrev int : ℕ
int = 45

-- one name of a type, with a size and a value
abbrev name : ℕ → Name → Option ℕ → Value → Declaration
name k w s v = declare k (tree.variable w s v ∷ [])

abbrev scalar : Name → Declaration
scalar w = name int w none unset

abbrev one : Tree action → Tree sequence
one s = then (bare s) end

-- `init{skip}`
abbrev rest : Part
rest = init (body [] (one (leaf skip)))

-- `DECLARATION init{skip}`, and `init{DECLARATION;skip}`
abbrev outside : Declaration → Bool
outside k = model_lawful (global k ∷ rest ∷ [])

abbrev inside : Declaration → Bool
inside k = model_lawful (init (body (k ∷ []) (one (leaf skip))) ∷ [])

-- `mtype={m};int x,a[2];chan c=[1] of{int},d[2];proctype p(int y){skip} init{DECLARATIONS;STATEMENTS} proctype q(){skip}`
abbrev bodied : List Declaration → Tree sequence → Bool
bodied ds s =
    model_lawful
    (mtypes (m ∷ []) ∷ global (declare int (tree.variable x none unset ∷ tree.variable a (some 2) unset ∷ []))
    ∷ global (declare chan (tree.variable c none (set_channel 1 (int ∷ [])) ∷ tree.variable d (some 2) unset ∷ []))
    ∷ process idle p (group int (y ∷ []) ∷ []) (body [] (one (leaf skip))) ∷ init (body ds s) ∷ process idle q [] (body [] (one (leaf skip))) ∷ [])

abbrev says : Tree action → Bool
says s = bodied [] (one s)

abbrev asks : Expr → Bool
asks e = says (leaf (express e))

abbrev var : Name → Expr
var w = get (plain w)

-- ## "array 1 to 32; message fields 1 to 4; capacity 1 to 8"
array_1_to_32 : (outside (name int x (some 1) unset) ≡ true) × (outside (name int x (some 32) unset) ≡ true) × (outside (name int x (some 0) unset) ≡ false)
    × (outside (name int x (some 33) unset) ≡ false)
unfolding judging
array_1_to_32 = (refl, refl, refl, refl)

local_array_1_to_32 : (inside (name int x (some 1) unset) ≡ true) × (inside (name int x (some 32) unset) ≡ true) × (inside (name int x (some 0) unset) ≡ false)
    × (inside (name int x (some 33) unset) ≡ false)
unfolding judging
local_array_1_to_32 = (refl, refl, refl, refl)

capacity_1_to_8 : (outside (name chan c none (set_channel 1 (int ∷ []))) ≡ true) × (outside (name chan c none (set_channel 8 (int ∷ []))) ≡ true)
    × (outside (name chan c none (set_channel 0 (int ∷ []))) ≡ false) × (outside (name chan c none (set_channel 9 (int ∷ []))) ≡ false)
unfolding judging
capacity_1_to_8 = (refl, refl, refl, refl)

fields_4 : (outside (name chan c none (set_channel 1 (replicate 4 int))) ≡ true) × (inside (name chan c none (set_channel 1 (replicate 4 int))) ≡ true)
    × (outside (name chan c none (set_channel 1 (replicate 5 int))) ≡ false) × (inside (name chan c none (set_channel 1 (replicate 5 int))) ≡ false)
unfolding judging
fields_4 = (refl, refl, refl, refl)

-- ## "globals, mtype names and proctypes share one space, each declared once"
two_globals : (model_lawful (global (scalar x) ∷ global (scalar y) ∷ rest ∷ []) ≡ true) × (model_lawful (global (scalar x) ∷ global (scalar x) ∷ rest ∷ []) ≡ false)
unfolding judging
two_globals = (refl, refl)

two_in_a_list : (outside (declare int (tree.variable x none unset ∷ tree.variable y none unset ∷ [])) ≡ true)
    × (outside (declare int (tree.variable x none unset ∷ tree.variable x none unset ∷ [])) ≡ false)
unfolding judging
two_in_a_list = (refl, refl)

mtype_name_twice : (model_lawful (mtypes (m ∷ x ∷ []) ∷ rest ∷ []) ≡ true) × (model_lawful (mtypes (m ∷ m ∷ []) ∷ rest ∷ []) ≡ false)
unfolding judging
mtype_name_twice = (refl, refl)

mtype_name_and_global : (model_lawful (mtypes (m ∷ []) ∷ global (scalar x) ∷ rest ∷ []) ≡ true) × (model_lawful (mtypes (m ∷ []) ∷ global (scalar m) ∷ rest ∷ []) ≡ false)
unfolding judging
mtype_name_and_global = (refl, refl)

proctype_and_global : (model_lawful (global (scalar x) ∷ process once p [] (body [] (one (leaf skip))) ∷ []) ≡ true)
    × (model_lawful (global (scalar p) ∷ process once p [] (body [] (one (leaf skip))) ∷ []) ≡ false)
    × (model_lawful (process once p [] (body [] (one (leaf skip))) ∷ global (scalar p) ∷ []) ≡ false)
unfolding judging
proctype_and_global = (refl, refl, refl)

two_proctypes : (model_lawful (process once p [] (body [] (one (leaf skip))) ∷ process once q [] (body [] (one (leaf skip))) ∷ []) ≡ true)
    × (model_lawful (process once p [] (body [] (one (leaf skip))) ∷ process once p [] (body [] (one (leaf skip))) ∷ []) ≡ false)
unfolding judging
two_proctypes = (refl, refl)

-- ## "a local hides any of them from its own name on", a parameter too; two locals of one name are one too many
local_hides_a_chan : (bodied [] (one (leaf (send k_bang (plain c) (num 1 ∷ [])))) ≡ true) × (bodied (scalar c ∷ []) (one (leaf (send k_bang (plain c) (num 1 ∷ [])))) ≡ false)
unfolding judging
local_hides_a_chan = (refl, refl)

local_hides_an_mtype_name : (bodied (scalar m ∷ []) (one (leaf (assign (plain m) (num 1)))) ≡ true) × (bodied [] (one (leaf (assign (plain m) (num 1)))) ≡ false)
unfolding judging
local_hides_an_mtype_name = (refl, refl)

local_hides_an_array : (bodied (scalar a ∷ []) (one (leaf (assign (plain a) (num 1)))) ≡ true) × (bodied [] (one (leaf (assign (plain a) (num 1)))) ≡ false)
unfolding judging
local_hides_an_array = (refl, refl)

two_locals : (bodied (scalar x ∷ scalar y ∷ []) (one (leaf skip)) ≡ true) × (bodied (scalar y ∷ scalar y ∷ []) (one (leaf skip)) ≡ false)
unfolding judging
two_locals = (refl, refl)

parameter_and_local : (model_lawful (process once p (group int (x ∷ []) ∷ []) (body (scalar y ∷ []) (one (leaf skip))) ∷ []) ≡ true)
    × (model_lawful (process once p (group int (x ∷ []) ∷ []) (body (scalar x ∷ []) (one (leaf skip))) ∷ []) ≡ false)
unfolding judging
parameter_and_local = (refl, refl)

two_parameters : (model_lawful (process once p (group int (x ∷ y ∷ []) ∷ []) (body [] (one (leaf skip))) ∷ []) ≡ true)
    × (model_lawful (process once p (group int (x ∷ x ∷ []) ∷ []) (body [] (one (leaf skip))) ∷ []) ≡ false)
unfolding judging
two_parameters = (refl, refl)

own_parameter_hides_the_proctype : (model_lawful (process once p (group int (p ∷ []) ∷ []) (body [] (one (leaf (assign (plain p) (num 1))))) ∷ []) ≡ true)
    × (model_lawful (process once p (group int (p ∷ []) ∷ []) (body [] (one (leaf (run p (num 1 ∷ []))))) ∷ []) ≡ false)
unfolding judging
own_parameter_hides_the_proctype = (refl, refl)

-- "from its own name on": local `mtype y=m` has the mtype name, local `mtype m=m` itself, and behind local `int m` the name is a variable
own_value : (bodied (name mtype y none (set_name m) ∷ []) (one (leaf skip)) ≡ true) × (bodied (name mtype m none (set_name m) ∷ []) (one (leaf skip)) ≡ false)
    × (bodied (scalar m ∷ name mtype y none (set_name m) ∷ []) (one (leaf skip)) ≡ false)
unfolding judging
own_value = (refl, refl, refl)

value_is_an_mtype_name : (model_lawful (mtypes (m ∷ []) ∷ global (name int x none (set_name m)) ∷ rest ∷ []) ≡ true)
    × (model_lawful (global (scalar y) ∷ global (name int x none (set_name y)) ∷ rest ∷ []) ≡ false)
    × (model_lawful (global (name int x none (set_name m)) ∷ mtypes (m ∷ []) ∷ rest ∷ []) ≡ false)
unfolding judging
value_is_an_mtype_name = (refl, refl, refl)

-- ## "Variables and mtype names are declared before use, proctypes and labels may come later"
unknown_name : (asks (var x) ≡ true) × (asks (var y) ≡ false)
unfolding judging
unknown_name = (refl, refl)

global_before_use : (model_lawful (global (scalar x) ∷ init (body [] (one (leaf (express (var x))))) ∷ []) ≡ true)
    × (model_lawful (init (body [] (one (leaf (express (var x))))) ∷ global (scalar x) ∷ []) ≡ false)
unfolding judging
global_before_use = (refl, refl)

mtype_name_before_use : (model_lawful (mtypes (x ∷ []) ∷ init (body [] (one (leaf (express (var x))))) ∷ []) ≡ true)
    × (model_lawful (init (body [] (one (leaf (express (var x))))) ∷ mtypes (x ∷ []) ∷ []) ≡ false)
unfolding judging
mtype_name_before_use = (refl, refl)

-- ## "`_pid` is neither declared nor stored to (4)"
pid_as_operand : (asks (var pid) ≡ true) × (says (leaf (assign (plain x) (var pid))) ≡ true) × (says (leaf (send k_bang (plain c) (var pid ∷ []))) ≡ true)
    × (says (leaf (receive k_ask (plain c) (equal (var pid) ∷ []))) ≡ true)
unfolding judging
pid_as_operand = (refl, refl, refl, refl)

pid-declared : (outside (scalar pid) ≡ false) × (inside (scalar pid) ≡ false) × (model_lawful (process once p (group int (pid ∷ []) ∷ []) (body [] (one (leaf skip))) ∷ []) ≡ false)
    × (model_lawful (mtypes (pid ∷ []) ∷ rest ∷ []) ≡ false) × (model_lawful (process once pid [] (body [] (one (leaf skip))) ∷ []) ≡ false)
    × (bodied [] (then (labelled pid (leaf skip)) end) ≡ false)
unfolding judging
pid-declared = (refl, refl, refl, refl, refl, refl)

pid_stored_to : (says (leaf (increment (plain x))) ≡ true) × (says (leaf (receive k_ask (plain c) (into (plain x) ∷ []))) ≡ true) × (says (leaf (assign (plain pid) (num 1))) ≡ false)
    × (says (leaf (increment (plain pid))) ≡ false) × (says (leaf (decrement (plain pid))) ≡ false) × (says (leaf (receive k_ask (plain c) (into (plain pid) ∷ []))) ≡ false)
    × (says (leaf (set_run (plain pid) q [])) ≡ false)
unfolding judging
pid_stored_to = (refl, refl, refl, refl, refl, refl, refl)

pid_otherwise : (asks (get (indexed pid (num 0))) ≡ false) × (asks (query k_len (plain pid)) ≡ false) × (says (leaf (send k_bang (plain pid) (num 1 ∷ []))) ≡ false)
    × (outside (name int x none (set_name pid)) ≡ false)
unfolding judging
pid_otherwise = (refl, refl, refl, refl)

-- ## "of the wrong kind", "bad index use"
mtype-name : (asks (var m) ≡ true) × (says (leaf (receive k_ask (plain c) (into (plain m) ∷ []))) ≡ true) × (says (leaf (assign (plain m) (num 1))) ≡ false) × (says (leaf (increment (plain m))) ≡ false)
    × (asks (get (indexed m (num 0))) ≡ false) × (says (leaf (receive k_ask (plain c) (into (indexed m (num 0)) ∷ []))) ≡ false) × (says (leaf (set_run (plain m) q [])) ≡ false)
unfolding judging
mtype-name = (refl, refl, refl, refl, refl, refl, refl)

proctype_as_variable : (asks (var p) ≡ false) × (says (leaf (assign (plain p) (num 1))) ≡ false) × (asks (get (indexed p (num 0))) ≡ false)
unfolding judging
proctype_as_variable = (refl, refl, refl)

scalar_without_index : (asks (var x) ≡ true) × (says (leaf (assign (plain x) (num 1))) ≡ true) × (asks (get (indexed x (num 0))) ≡ false) × (says (leaf (assign (indexed x (num 0)) (num 1))) ≡ false)
unfolding judging
scalar_without_index = (refl, refl, refl, refl)

array_with_index : (asks (get (indexed a (num 0))) ≡ true) × (says (leaf (assign (indexed a (num 0)) (num 1))) ≡ true) × (says (leaf (receive k_ask (plain c) (into (indexed a (num 0)) ∷ []))) ≡ true)
    × (asks (var a) ≡ false) × (says (leaf (assign (plain a) (num 1))) ≡ false) × (says (leaf (receive k_ask (plain c) (into (plain a) ∷ []))) ≡ false)
unfolding judging
array_with_index = (refl, refl, refl, refl, refl, refl)

-- the index itself is judged, and an index out of range is a fault of a run
index_judged : (asks (get (indexed a (var x))) ≡ true) × (asks (get (indexed a (num 2))) ≡ true) × (asks (get (indexed a (var a))) ≡ false)
    × (says (leaf (assign (indexed a (var y)) (num 1))) ≡ false)
unfolding judging
index_judged = (refl, refl, refl, refl)

-- ## "A channel operand is a chan variable"
chan-sends : (says (leaf (send k_bang (plain c) (num 1 ∷ []))) ≡ true) × (says (leaf (send k_bang (indexed d (num 0)) (num 1 ∷ []))) ≡ true) × (says (leaf (send k_bang (plain x) (num 1 ∷ []))) ≡ false)
    × (says (leaf (send k_bang (plain m) (num 1 ∷ []))) ≡ false) × (says (leaf (send k_bang (plain d) (num 1 ∷ []))) ≡ false) × (says (leaf (send k_bang (indexed c (num 0)) (num 1 ∷ []))) ≡ false)
    × (says (leaf (send k_bang (indexed a (num 0)) (num 1 ∷ []))) ≡ false)
unfolding judging
chan-sends = (refl, refl, refl, refl, refl, refl, refl)

chan-receives : (says (leaf (receive k_ask (plain c) (exactly 1 ∷ []))) ≡ true) × (says (leaf (receive k_ask (plain x) (exactly 1 ∷ []))) ≡ false)
unfolding judging
chan-receives = (refl, refl)

chan_has_length : (asks (query k_len (plain c)) ≡ true) × (asks (query k_len (indexed d (num 1))) ≡ true) × (asks (query k_len (plain x)) ≡ false) × (asks (query k_len (plain d)) ≡ false)
    × (asks (query k_len (plain q)) ≡ false)
unfolding judging
chan_has_length = (refl, refl, refl, refl, refl)

-- a chan is a variable as any other, and how many fields a message has is no rule of the text: "wrong field count at run time"
chan_as_variable : (says (leaf (assign (plain c) (num 1))) ≡ true) × (asks (var c) ≡ true) × (says (leaf (send k_bang (plain c) (num 1 ∷ num 2 ∷ []))) ≡ true)
unfolding judging
chan_as_variable = (refl, refl, refl)

-- ## "`else` is only the first statement of an option, unlabelled, once per selection"
else_first : (says (select (option (one (leaf skip)) (option (one (leaf else)) over))) ≡ true) × (says (loop (option (one (leaf else)) over)) ≡ true) × (says (leaf else) ≡ false)
unfolding judging
else_first = (refl, refl, refl)

else_not_first : says (select (option (then (bare (leaf skip)) (one (leaf else))) over)) ≡ false
unfolding judging
else_not_first = refl

else_labelled : (says (select (option (then (bare (leaf else)) (then (labelled L (leaf skip)) end)) over)) ≡ true) × (says (select (option (then (labelled L (leaf else)) end) over)) ≡ false)
unfolding judging
else_labelled = (refl, refl)

else_twice : (says (select (option (one (select (option (one (leaf else)) over))) (option (one (leaf else)) over))) ≡ true) × (says (select (option (one (leaf else)) (option (one (leaf else)) over))) ≡ false)
    × (says (loop (option (one (leaf else)) (option (one (leaf skip)) (option (one (leaf else)) over)))) ≡ false)
unfolding judging
else_twice = (refl, refl, refl)

-- ## "`else` or `break` out of place"
break_in_do : (says (loop (option (one (leaf break)) over)) ≡ true) × (says (loop (option (one (select (option (one (leaf break)) over))) over)) ≡ true) × (says (leaf break) ≡ false)
    × (says (select (option (one (leaf break)) over)) ≡ false) × (bodied [] (then (bare (loop (option (one (leaf skip)) over))) (one (leaf break))) ≡ false)
unfolding judging
break_in_do = (refl, refl, refl, refl, refl)

-- ## "labels are per body", "proctypes and labels may come later"
goto_label : (bodied [] (then (bare (leaf (goto L))) (then (labelled L (leaf skip)) end)) ≡ true)
    × (bodied [] (then (bare (select (option (then (labelled L (leaf skip)) end) over))) (one (leaf (goto L)))) ≡ true) × (says (leaf (goto L)) ≡ false)
    × (bodied [] (then (labelled L (leaf skip)) (one (leaf (goto x)))) ≡ false)
unfolding judging
goto_label = (refl, refl, refl, refl)

label_of_another_body : model_lawful (process once p [] (body [] (then (labelled L (leaf skip)) end)) ∷ init (body [] (one (leaf (goto L)))) ∷ []) ≡ false
unfolding judging
label_of_another_body = refl

label-twice : (bodied [] (then (labelled L (leaf skip)) (then (labelled x (leaf skip)) end)) ≡ true) × (bodied [] (then (labelled L (leaf skip)) (then (labelled L (leaf skip)) end)) ≡ false)
    × (bodied [] (then (labelled L (select (option (then (labelled L (leaf skip)) end) over))) end) ≡ false)
unfolding judging
label-twice = (refl, refl, refl)

label_in_two_bodies : model_lawful (process once p [] (body [] (then (labelled L (leaf skip)) end)) ∷ init (body [] (then (labelled L (leaf skip)) end)) ∷ []) ≡ true
unfolding judging
label_in_two_bodies = refl

-- ## "wrong number of arguments"
run-arguments : (says (leaf (run p (num 1 ∷ []))) ≡ true) × (says (leaf (set_run (plain x) p (num 1 ∷ []))) ≡ true) × (says (leaf (run p [])) ≡ false) × (says (leaf (run p (num 1 ∷ num 2 ∷ []))) ≡ false)
    × (says (leaf (set_run (plain x) p [])) ≡ false)
unfolding judging
run-arguments = (refl, refl, refl, refl, refl)

run_of_a_later_proctype : (says (leaf (run q [])) ≡ true) × (says (leaf (run q (num 1 ∷ []))) ≡ false)
unfolding judging
run_of_a_later_proctype = (refl, refl)

run_of_itself : (model_lawful (process once p (group int (x ∷ []) ∷ []) (body [] (one (leaf (run p (num 1 ∷ []))))) ∷ []) ≡ true)
    × (model_lawful (process once p (group int (x ∷ []) ∷ []) (body [] (one (leaf (run p [])))) ∷ []) ≡ false)
unfolding judging
run_of_itself = (refl, refl)

run_hidden_by_a_local : (bodied (scalar y ∷ []) (one (leaf (run q []))) ≡ true) × (bodied (scalar q ∷ []) (one (leaf (run q []))) ≡ false)
    × (bodied (scalar q ∷ []) (one (leaf (set_run (plain x) q []))) ≡ false)
unfolding judging
run_hidden_by_a_local = (refl, refl, refl)

run_of_no_proctype : (says (leaf (run x [])) ≡ false) × (says (leaf (run m [])) ≡ false) × (says (leaf (run y [])) ≡ false) × (says (leaf (run pid [])) ≡ false)
unfolding judging
run_of_no_proctype = (refl, refl, refl, refl)

printf_arguments : (says (leaf (print (bytes "") [])) ≡ true) × (says (leaf (print (bytes "%d") (num 1 ∷ []))) ≡ true) × (says (leaf (print (bytes "%d %d") (num 1 ∷ num 2 ∷ []))) ≡ true)
    × (says (leaf (print (bytes "%d") [])) ≡ false) × (says (leaf (print (bytes "%d") (num 1 ∷ num 2 ∷ []))) ≡ false) × (says (leaf (print (bytes "") (num 1 ∷ []))) ≡ false)
    × (says (leaf (print (bytes "%d %d") (num 1 ∷ []))) ≡ false)
unfolding judging
printf_arguments = (refl, refl, refl, refl, refl, refl, refl)

-- "`%` in a format not followed by `d` or `%`"
printf_percent : (says (leaf (print (bytes "%%") [])) ≡ true) × (says (leaf (print (bytes "%%d") [])) ≡ true) × (says (leaf (print (bytes "%%%d") (num 1 ∷ []))) ≡ true)
    × (says (leaf (print (bytes "%x") [])) ≡ false) × (says (leaf (print (bytes "%") [])) ≡ false) × (says (leaf (print (bytes "%%%") [])) ≡ false)
    × (says (leaf (print (bytes "%x%d") (num 1 ∷ []))) ≡ false) × (says (leaf (print (bytes "%%d") (num 1 ∷ []))) ≡ false)
unfolding judging
printf_percent = (refl, refl, refl, refl, refl, refl, refl, refl)

-- five arguments are a ceiling (6), no rule
printf_five : says (leaf (print (bytes "%d%d%d%d%d") (num 1 ∷ num 2 ∷ num 3 ∷ num 4 ∷ num 5 ∷ []))) ≡ true
unfolding judging
printf_five = refl

-- ## "more than 4 message arguments"
sent-arguments : (says (leaf (send k_bang (plain c) (replicate 4 (num 1)))) ≡ true) × (says (leaf (send k_bang (plain c) (replicate 5 (num 1)))) ≡ false)
unfolding judging
sent-arguments = (refl, refl)

received-arguments : (says (leaf (receive k_ask (plain c) (replicate 4 (exactly 1)))) ≡ true) × (says (leaf (receive k_ask (plain c) (replicate 5 (exactly 1)))) ≡ false)
unfolding judging
received-arguments = (refl, refl)

-- ## "expression height 32 (operand 1; operator, index, `len` 1 above its highest part)"
-- `!` n times before an operand
abbrev above : Expr → ℕ → Expr
above e zero = e
above e (suc n) = unary 19 (above e n)

height_32 : (asks (above (num 1) 31) ≡ true) × (asks (above (num 1) 32) ≡ false)
unfolding judging
height_32 = (refl, refl)

height_of_len : (asks (above (query k_len (plain c)) 30) ≡ true) × (asks (above (query k_len (plain c)) 31) ≡ false)
unfolding judging
height_of_len = (refl, refl)

height_of_index : (asks (get (indexed a (above (num 1) 30))) ≡ true) × (says (leaf (increment (indexed a (above (num 1) 30)))) ≡ true)
    × (asks (get (indexed a (above (num 1) 31))) ≡ false) × (says (leaf (increment (indexed a (above (num 1) 31)))) ≡ false)
unfolding judging
height_of_index = (refl, refl, refl, refl)

height_of_parts : (asks (binary 14 (num 1) (above (num 1) 30)) ≡ true) × (asks (choice (num 1) (num 1) (above (num 1) 30)) ≡ true)
    × (asks (binary 14 (above (num 1) 31) (num 1)) ≡ false) × (asks (choice (num 1) (above (num 1) 31) (num 1)) ≡ false)
    × (asks (choice (num 1) (num 1) (above (num 1) 31)) ≡ false)
unfolding judging
height_of_parts = (refl, refl, refl, refl, refl)

height_of_arguments : (says (leaf (send k_bang (plain c) (num 1 ∷ above (num 1) 31 ∷ []))) ≡ true) × (says (leaf (receive k_ask (plain c) (equal (above (num 1) 31) ∷ []))) ≡ true)
    × (says (leaf (send k_bang (plain c) (num 1 ∷ above (num 1) 32 ∷ []))) ≡ false) × (says (leaf (receive k_ask (plain c) (equal (above (num 1) 32) ∷ []))) ≡ false)
unfolding judging
height_of_arguments = (refl, refl, refl, refl)

-- ## "second `mtype` list or `init`"
second_mtype_list : (model_lawful (mtypes (m ∷ []) ∷ rest ∷ []) ≡ true) × (model_lawful (mtypes (m ∷ []) ∷ mtypes (x ∷ []) ∷ rest ∷ []) ≡ false)
unfolding judging
second_mtype_list = (refl, refl)

second_init : (model_lawful (rest ∷ []) ≡ true) × (model_lawful (rest ∷ rest ∷ []) ≡ false)
unfolding judging
second_init = (refl, refl)

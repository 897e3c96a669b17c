-- Document 01, rows 2 (height), 4 and 5 of "What is answered" with their last column: worked examples on both sides of the rules, computed from derivations of small texts.
-- Each says which number stands at which token, the first token being 0, in the order of the items; where no fault is the list is empty.
use Rattle.std.specs.Prelude.{ℕ, zero, suc, ◌<◌, ◌≤◌, ◌≡◌, refl, ◌⊎◌, List, [], ◌∷◌, ◌++◌}
use Rattle.std.proofs.Common.{arith, inl, inr}
use Rattle.std.proofs.Math.Option.{none}
use Rattle.base_bytes.specs.Lists.{same}
use Rattle.spec_text.specs.Formats.{format_from}
use Rattle.spec_text.specs.Names.{pid}
use Rattle.base_kinds.specs.Kinds.{bytes, Token, sym, name, number}
use Rattle.spec_grammar.specs.Marks.{'[, '], '=, 'of, 'lpar, 'rpar, 'lbrace, 'rbrace, 'comma, 'proctype, 'skip}
use Rattle.spec_grammar.specs.Tree.{Name, Expr, plain, indexed, get, num, unary, Leaf, sequence, Tree, leaf, bare, then, end, skip, unset, set_channel, variable, Declaration, declare, body, idle}
use Rattle.spec_grammar.specs.Tree.{Part, process}
use Rattle.spec_grammar.specs.Grammar.{Listed, one, more, no_list, a_list, commas, call, no_semi, semi, none_trails, semi_trails, by_semi, by_arrow, a_name, is_mtype, is_chan, is_int, AType}
use Rattle.spec_grammar.specs.Grammar.{a_type, is_flip, is_len, E, e_plain, e_index, e_number, e_query, e_group, e_choice, e_unary, e_binary, e_up}
use Rattle.spec_grammar.specs.Grammar.{r_into, r_eval, r_number, is_bang, is_ask, ALeaf, s_express, s_assign, s_increment, s_send, s_receive, s_assert, s_print_alone, s_print, s_skip, s_goto}
use Rattle.spec_grammar.specs.Grammar.{s_break, s_else, s_run, s_set_run, D, s_leaf, s_if, s_do, s_bare, s_label, q_last, q_then, o_last, o_also}
use Rattle.spec_grammar.specs.Grammar.{v_number, v_name, x_bare, x_set, x_array, x_array_set, x_channel, ADeclaration, declaration, a_group, statements, declared, ABody, a_body, not_active}
use Rattle.spec_grammar.specs.Grammar.{AUnit, u_mtypes, u_global, u_process, u_init, g_last, g_more}
use Rattle.spec_rules.specs.Senses.{sense_in, fresh, sense_of}
use Rattle.spec_faults.specs.Faults.{Fault, Faults, in_list, in_maybe, in_message, use_number, in_expr, in_whole, runnable, passing, in_leaf, in_tree, in_variable, in_items, in_units, faults_of, Among}
use Rattle.spec_faults.specs.Faults.{here, there, Least}

-- to unfold this is to unfold all that the examples compute with
unfoldable judging : Unit {0}
unfolding
    same format_from sense_in fresh sense_of in_list in_maybe in_message use_number in_expr in_whole runnable passing in_leaf in_tree in_variable in_items in_units
judging = tt

-- number n at token k
abbrev at : ℕ → ℕ → Fault
at n k = record { number = n; token = k }

-- ## names, and what the small texts share
abbrev a : Name
a = bytes "a"

abbrev c : Name
c = bytes "c"

abbrev m : Name
m = bytes "m"

abbrev p : Name
p = bytes "p"

abbrev x : Name
x = bytes "x"

abbrev y : Name
y = bytes "y"

abbrev z : Name
z = bytes "z"

abbrev L : Name
L = bytes "L"

-- an operand is an expression, and so is a reference
abbrev up : {ts : List Token} {e : Expr} → E 11 ts e → E 1 ts e
up r = e_up (e_up (e_up (e_up (e_up (e_up (e_up (e_up (e_up (e_up r)))))))))

abbrev ref : {ts : List Token} {e : Expr} → E 12 ts e → E 1 ts e
ref r = up (e_up r)

-- a sum is one
abbrev sum : {ts : List Token} {e : Expr} → E 9 ts e → E 1 ts e
sum r = e_up (e_up (e_up (e_up (e_up (e_up (e_up (e_up r)))))))

abbrev 1' : E 1 (number 1 ∷ []) (num 1)
1' = up e_number

-- a statement alone
abbrev alone : {ts : List Token} {l : Leaf} → ALeaf ts l → D sequence (ts ++ []) (then (bare (leaf l)) end)
alone s = q_last (s_bare (s_leaf s)) none_trails

-- `NAME`, `NAME[1]`
abbrev var : (w : Name) → E 12 (name w ∷ []) (get (plain w))
var w = e_plain

abbrev first : (w : Name) → E 12 (name w ∷ '[ ∷ number 1 ∷ '] ∷ []) (get (indexed w (num 1)))
first w = e_index 1'

-- `int NAME`, `{skip}`
abbrev scalar : (w : Name) → ADeclaration (sym 45 ∷ name w ∷ []) (declare 45 (variable w none unset ∷ []))
scalar w = declaration is_int (one x_bare)

abbrev rest : ABody ('lbrace ∷ 'skip ∷ 'rbrace ∷ []) (body [] (then (bare (leaf skip)) end))
rest = a_body (statements (alone s_skip))

-- `~` n times before an operand
abbrev marked : ℕ → List Token → List Token
marked zero ts = ts
marked (suc n) ts = sym 20 ∷ marked n ts

abbrev flipped : ℕ → Expr → Expr
flipped zero e = e
flipped (suc n) e = unary 20 (flipped n e)

abbrev above : {ts : List Token} {e : Expr} (n : ℕ) → E 11 ts e → E 11 (marked n ts) (flipped n e)
above zero r = r
above (suc n) r = e_unary is_flip (above n r)

abbrev high : (n : ℕ) → E 1 (marked n (number 1 ∷ [])) (flipped n (num 1))
high n = up (above n e_number)

-- `init{STATEMENTS}`, whose first statement is at token 2
abbrev starts : {ts : List Token} {s : Tree sequence} → D sequence ts s → Faults
starts s = faults_of (g_last (u_init (a_body (statements s))) no_semi)

-- `mtype={m};int x,a[2];chan c=[1]of{int};proctype p(int y){skip}init{STATEMENTS}`, whose first statement is at token 36
abbrev runs : {ts : List Token} {s : Tree sequence} → D sequence ts s → Faults
runs s =
    faults_of (g_more (u_mtypes (one (a_name {w = m}))) (semi no_semi)
    (g_more (u_global (declaration is_int (more (x_bare {w = x}) (one (x_array {w = a} {n = 2}))))) (semi no_semi)
    (g_more (u_global (declaration is_chan (one (x_channel {w = c} {n = 1} (one (a_type is_int)))))) (semi no_semi)
    (g_more (u_process {w = p} not_active (a_list (one (a_group is_int (one (a_name {w = y}))))) rest) no_semi
    (g_last (u_init (a_body (statements s))) no_semi)))))

abbrev says : {ts : List Token} {l : Leaf} → ALeaf ts l → Faults
says s = runs (alone s)

-- `L:STATEMENT`
abbrev labels : {ts : List Token} {l : Leaf} → ALeaf ts l → Faults
labels s = runs (q_last (s_label {w = L} (s_leaf s)) none_trails)

abbrev asks : {ts : List Token} {e : Expr} → E 12 ts e → Faults
asks r = says (s_express (ref r))

-- `UNIT init{skip}`, and two units before it
abbrev unit : {ts : List Token} {u : Part} → AUnit ts u → Faults
unit u = faults_of (g_more u no_semi (g_last (u_init rest) no_semi))

abbrev units : {ts us : List Token} {u v : Part} → AUnit ts u → AUnit us v → Faults
units u v = faults_of (g_more u (semi no_semi) (g_more v no_semi (g_last (u_init rest) no_semi)))

-- `proctype NAME(){skip}`
abbrev idles : (w : Name) → AUnit ('proctype ∷ name w ∷ 'lpar ∷ 'rpar ∷ 'lbrace ∷ 'skip ∷ 'rbrace ∷ []) (process idle w [] (body [] (then (bare (leaf skip)) end)))
idles w = u_process not_active no_list rest

-- `DECLARATION init{skip}`, and `init{DECLARATION;skip}`
abbrev outside : {ts : List Token} {d : Declaration} → ADeclaration ts d → Faults
outside d = unit (u_global d)

abbrev inside : {ts : List Token} {d : Declaration} → ADeclaration ts d → Faults
inside d = faults_of (g_last (u_init (a_body (declared d (by_semi none_trails) (statements (alone s_skip))))) no_semi)

-- ## "name unknown" (4) at the name
-- `init{x=1}`; `x=z`, `a[z]`, `run p(z)`, `x=m`
unknown_name : (starts (alone (s_assign (var x) 1')) ≡ at 4 2 ∷ []) × (says (s_assign (var x) (ref (var z))) ≡ at 4 38 ∷ [])
    × (asks (e_index {w = a} (ref (var z))) ≡ at 4 38 ∷ []) × (says (s_run {w = p} (a_list (one (ref (var z))))) ≡ at 4 39 ∷ [])
    × (says (s_assign (var x) (ref (var m))) ≡ [])
unfolding judging
unknown_name = (refl, refl, refl, refl, refl)

-- a value that is a name is an mtype name: `int x=x`, `int x[2]=z`, `int x=_pid`
unknown_value : (outside (declaration is_int (one (x_set {w = x} (v_name {w = x})))) ≡ at 4 3 ∷ []) × (outside (declaration is_int (one (x_array_set {w = x} {n = 2} (v_name {w = z})))) ≡ at 4 6 ∷ [])
    × (outside (declaration is_int (one (x_set {w = x} (v_name {w = pid})))) ≡ at 4 3 ∷ [])
unfolding judging
unknown_value = (refl, refl, refl)

-- "from its own name on": `mtype={m}init{mtype x=m;skip}`, `mtype={m}init{mtype m=m;skip}`
abbrev valued : Name → Faults
valued w =
    faults_of (g_more (u_mtypes (one (a_name {w = m}))) no_semi
    (g_last (u_init (a_body (declared (declaration is_mtype (one (x_set {w = w} (v_name {w = m})))) (by_semi none_trails) (statements (alone s_skip))))) no_semi))

own_value : (valued x ≡ []) × (valued m ≡ at 4 10 ∷ [])
unfolding judging
own_value = (refl, refl)

-- ## "of the wrong kind" (4) at the name
-- `p`, `p[1]`, `m=1`, `m[1]=1`, `c?p`
wrong_kind : (asks (var p) ≡ at 4 36 ∷ []) × (asks (first p) ≡ at 4 36 ∷ []) × (says (s_assign (var m) 1') ≡ at 4 36 ∷ [])
    × (says (s_assign (first m) 1') ≡ at 4 36 ∷ []) × (says (s_receive is_ask (var c) (commas (one (r_into (var p))))) ≡ at 4 38 ∷ [])
unfolding judging
wrong_kind = (refl, refl, refl, refl, refl)

-- `x!1`, `x[1]!1`, `x?1`, `len(x)`, and `c!1`, `len(c)`
no_channel_lem : (says (s_send is_bang (var x) (commas (one 1'))) ≡ at 4 36 ∷ []) × (says (s_send is_bang (first x) (commas (one 1'))) ≡ at 4 36 ∷ [])
    × (says (s_receive is_ask (var x) (commas (one (r_number {n = 1})))) ≡ at 4 36 ∷ []) × (says (s_express (up (e_query is_len (var x)))) ≡ at 4 38 ∷ [])
    × (says (s_send is_bang (var c) (commas (one 1'))) ≡ []) × (says (s_express (up (e_query is_len (var c)))) ≡ [])
unfolding judging
no_channel_lem = (refl, refl, refl, refl, refl, refl)

-- ## "bad index use" (5) at the name
-- `a`, `x[1]`, `m[1]`, `_pid[1]`, `c[1]!1`, `a[a]`, `c?m[1]`, and `a[1]`
index_use : (asks (var a) ≡ at 5 36 ∷ []) × (asks (first x) ≡ at 5 36 ∷ []) × (asks (first m) ≡ at 5 36 ∷ []) × (asks (first pid) ≡ at 5 36 ∷ [])
    × (says (s_send is_bang (first c) (commas (one 1'))) ≡ at 5 36 ∷ []) × (asks (e_index {w = a} (ref (var a))) ≡ at 5 38 ∷ [])
    × (says (s_receive is_ask (var c) (commas (one (r_into (first m))))) ≡ at 5 38 ∷ []) × (asks (first a) ≡ [])
unfolding judging
index_use = (refl, refl, refl, refl, refl, refl, refl, refl)

-- `1+x[1]*a`: each at its own name
two_uses :
    says (s_express (sum (e_binary {o = 14} refl (e_up (e_up (e_number {n = 1}))) (e_binary {o = 16} refl (e_up (e_up (first x))) (e_up (var a)))))) ≡ at 5 38 ∷ at 5 43 ∷ []
unfolding judging
two_uses = refl

-- ## "declared twice" (4), at the later
-- `int x,x`, `int x;int x`, `mtype={m,m}`, `mtype={m};int m`, `int p;proctype p(){skip}`, `proctype p(){skip};int p`, two proctypes of one name and of two
twice : (outside (declaration is_int (more (x_bare {w = x}) (one (x_bare {w = x})))) ≡ at 4 3 ∷ [])
    × (units (u_global (scalar x)) (u_global (scalar x)) ≡ at 4 4 ∷ [])
    × (unit (u_mtypes (more (a_name {w = m}) (one (a_name {w = m})))) ≡ at 4 5 ∷ []) × (units (u_mtypes (one (a_name {w = m}))) (u_global (scalar m)) ≡ at 4 7 ∷ [])
    × (units (u_global (scalar p)) (idles p) ≡ at 4 4 ∷ []) × (units (idles p) (u_global (scalar p)) ≡ at 4 9 ∷ [])
    × (units (idles p) (idles p) ≡ at 4 9 ∷ []) × (units (idles p) (idles x) ≡ [])
unfolding judging
twice = (refl, refl, refl, refl, refl, refl, refl, refl)

-- `init{int x,x;skip}`, `proctype p(int x,x){skip}`, `proctype p(int x;int y,x){skip}`, `proctype p(int x){int x;skip}`
twice_in_a_body : (inside (declaration is_int (more (x_bare {w = x}) (one (x_bare {w = x})))) ≡ at 4 5 ∷ [])
    × (unit (u_process {w = p} not_active (a_list (one (a_group is_int (more (a_name {w = x}) (one (a_name {w = x})))))) rest) ≡ at 4 6 ∷ [])
    × (unit (u_process {w = p} not_active (a_list (more (a_group is_int (one (a_name {w = x}))) (one (a_group is_int (more (a_name {w = y}) (one (a_name {w = x}))))))) rest) ≡ at 4 9 ∷ [])
    × (unit (u_process {w = p} not_active (a_list (one (a_group is_int (one (a_name {w = x}))))) (a_body (declared (scalar x) (by_semi none_trails) (statements (alone s_skip))))) ≡ at 4 8 ∷ [])
unfolding judging
twice_in_a_body = (refl, refl, refl, refl)

-- the first declaration counts: `int x;int x[2];init{x=1}`, `int x;int x[2];init{x[1]=1}`
abbrev changed : {ts : List Token} {l : Leaf} → ALeaf ts l → Faults
changed s =
    faults_of (g_more (u_global (scalar x)) (semi no_semi)
    (g_more (u_global (declaration is_int (one (x_array {w = x} {n = 2})))) (semi no_semi) (g_last (u_init (a_body (statements (alone s)))) no_semi)))

first_counts : (changed (s_assign (var x) 1') ≡ at 4 4 ∷ []) × (changed (s_assign (first x) 1') ≡ at 4 4 ∷ at 5 11 ∷ [])
unfolding judging
first_counts = (refl, refl)

-- `init{int x;int x[2];x=1}`, `init{int x;int x[2];x[1]=1}`
abbrev changed_inside : {ts : List Token} {l : Leaf} → ALeaf ts l → Faults
changed_inside s =
    faults_of (g_last (u_init (a_body (declared (scalar x) (by_semi none_trails)
    (declared (declaration is_int (one (x_array {w = x} {n = 2}))) (by_semi none_trails) (statements (alone s)))))) no_semi)

first_counts_inside : (changed_inside (s_assign (var x) 1') ≡ at 4 6 ∷ []) × (changed_inside (s_assign (first x) 1') ≡ at 4 6 ∷ at 5 11 ∷ [])
unfolding judging
first_counts_inside = (refl, refl)

-- `proctype p(){skip}proctype p(int y){skip}init{run p()}`, and with `run p(1)`
abbrev again : {ts : List Token} {l : Leaf} → ALeaf ts l → Faults
again s =
    faults_of (g_more (idles p) no_semi (g_more (u_process {w = p} not_active (a_list (one (a_group is_int (one (a_name {w = y}))))) rest) no_semi
    (g_last (u_init (a_body (statements (alone s)))) no_semi)))

first_proctype_counts : (again (s_run {w = p} no_list) ≡ at 4 8 ∷ []) × (again (s_run {w = p} (a_list (one 1'))) ≡ at 4 8 ∷ at 5 18 ∷ [])
unfolding judging
first_proctype_counts = (refl, refl)

-- ## "`_pid` is neither declared nor stored to (4)"
pid-declared : (outside (scalar pid) ≡ at 4 1 ∷ []) × (inside (scalar pid) ≡ at 4 3 ∷ [])
    × (unit (u_mtypes (one (a_name {w = pid}))) ≡ at 4 3 ∷ []) × (unit (idles pid) ≡ at 4 1 ∷ [])
    × (unit (u_process {w = p} not_active (a_list (one (a_group is_int (one (a_name {w = pid}))))) rest) ≡ at 4 4 ∷ [])
    × (runs (q_last (s_label {w = pid} (s_leaf s_skip)) none_trails) ≡ at 4 36 ∷ [])
unfolding judging
pid-declared = (refl, refl, refl, refl, refl, refl)

-- `_pid=1`, `_pid[1]++`, `c?_pid`, `c?_pid[1]`, `_pid=run p(1)`, and `x=_pid`
pid_stored_to : (says (s_assign (var pid) 1') ≡ at 4 36 ∷ []) × (says (s_increment (first pid)) ≡ at 4 36 ∷ [])
    × (says (s_receive is_ask (var c) (commas (one (r_into (var pid))))) ≡ at 4 38 ∷ [])
    × (says (s_receive is_ask (var c) (commas (one (r_into (first pid))))) ≡ at 4 38 ∷ [])
    × (says (s_set_run {w = p} (var pid) (a_list (one 1'))) ≡ at 4 36 ∷ []) × (says (s_assign (var x) (ref (var pid))) ≡ [])
unfolding judging
pid_stored_to = (refl, refl, refl, refl, refl, refl)

-- ## labels: `L:skip;L:skip`, `L:if::L:skip fi`, `if::L:skip fi;L:skip`, all 4 at the later
label-twice : (runs (q_then (s_label {w = L} (s_leaf s_skip)) (by_semi none_trails) (q_last (s_label {w = L} (s_leaf s_skip)) none_trails)) ≡ at 4 40 ∷ [])
    × (runs (q_last (s_label {w = L} (s_if (o_last (q_last (s_label {w = L} (s_leaf s_skip)) none_trails)))) none_trails) ≡ at 4 40 ∷ [])
    × (runs (q_then (s_bare (s_if (o_last (q_last (s_label {w = L} (s_leaf s_skip)) none_trails)))) (by_semi none_trails) (q_last (s_label {w = L} (s_leaf s_skip)) none_trails)) ≡ at 4 43 ∷ [])
unfolding judging
label-twice = (refl, refl, refl)

-- `goto L`, `goto _pid`, and `goto L;L:skip`
goto_unknown : (says (s_goto {w = L}) ≡ at 4 37 ∷ []) × (says (s_goto {w = pid}) ≡ at 4 37 ∷ [])
    × (runs (q_then (s_bare (s_leaf (s_goto {w = L}))) (by_semi none_trails) (q_last (s_label {w = L} (s_leaf s_skip)) none_trails)) ≡ [])
unfolding judging
goto_unknown = (refl, refl, refl)

-- ## `run` of what is no proctype is 4 at the name, and its arguments are not counted: `run x(1,1)`, `run z()`, `run _pid()`, `x=run x()`
run_of_no_proctype : (says (s_run {w = x} (a_list (more 1' (one 1')))) ≡ at 4 37 ∷ []) × (says (s_run {w = z} no_list) ≡ at 4 37 ∷ []) × (says (s_run {w = pid} no_list) ≡ at 4 37 ∷ [])
    × (says (s_set_run {w = x} (var x) no_list) ≡ at 4 39 ∷ [])
unfolding judging
run_of_no_proctype = (refl, refl, refl, refl)

-- `init{int p;run p()}proctype p(){skip}`, `init{run p()}proctype p(){skip}`, `init{run p(1)}proctype p(){skip}`
run-ahead : (faults_of (g_more (u_init (a_body (declared (scalar p) (by_semi none_trails) (statements (alone (s_run {w = p} no_list)))))) no_semi (g_last (idles p) no_semi)) ≡ at 4 6 ∷ [])
    × (faults_of (g_more (u_init (a_body (statements (alone (s_run {w = p} no_list))))) no_semi (g_last (idles p) no_semi)) ≡ [])
    × (faults_of (g_more (u_init (a_body (statements (alone (s_run {w = p} (a_list (one 1'))))))) no_semi (g_last (idles p) no_semi)) ≡ at 5 2 ∷ [])
unfolding judging
run-ahead = (refl, refl, refl)

-- ## "wrong number of arguments" (5), "for argument counts, the statement's first token after a label"
-- `run p()`, `L:run p()`, `x=run p()`, `a[1]=run p(1,1)`, `L:x=run p()`, and `run p(1)`, `x=run p(1)`
run-count : (says (s_run {w = p} no_list) ≡ at 5 36 ∷ []) × (labels (s_run {w = p} no_list) ≡ at 5 38 ∷ []) × (says (s_set_run {w = p} (var x) no_list) ≡ at 5 36 ∷ [])
    × (says (s_set_run {w = p} (first a) (a_list (more 1' (one 1')))) ≡ at 5 36 ∷ []) × (labels (s_set_run {w = p} (var x) no_list) ≡ at 5 38 ∷ [])
    × (says (s_run {w = p} (a_list (one 1'))) ≡ []) × (says (s_set_run {w = p} (var x) (a_list (one 1'))) ≡ [])
unfolding judging
run-count = (refl, refl, refl, refl, refl, refl, refl)

-- `printf("%d")`, `L:printf("%d")`, `printf("%%",1)`, and `printf("%d",1)`; five that match are a ceiling
print_count : (says (s_print_alone {w = bytes "%d"}) ≡ at 5 36 ∷ []) × (labels (s_print_alone {w = bytes "%d"}) ≡ at 5 38 ∷ []) × (says (s_print {w = bytes "%%"} (one 1')) ≡ at 5 36 ∷ [])
    × (says (s_print {w = bytes "%d"} (one 1')) ≡ []) × (says (s_print {w = bytes "%d%d%d%d%d"} (more 1' (more 1' (more 1' (more 1' (one 1')))))) ≡ [])
unfolding judging
print_count = (refl, refl, refl, refl, refl)

-- "`%` in a format not followed by `d` or `%`" (5) at the string: `printf("%x")`, `printf("%")`, `printf("%x%d",1)`; `printf("%x",1)` has two faults
print_percent : (says (s_print_alone {w = bytes "%x"}) ≡ at 5 38 ∷ []) × (says (s_print_alone {w = bytes "%"}) ≡ at 5 38 ∷ []) × (says (s_print {w = bytes "%x%d"} (one 1')) ≡ at 5 38 ∷ [])
    × (says (s_print {w = bytes "%x"} (one 1')) ≡ at 5 38 ∷ at 5 36 ∷ [])
unfolding judging
print_percent = (refl, refl, refl, refl)

-- "more than 4 message arguments" (5): `c!1,1,1,1,1`, `c!1(1,1,1,1)`, `L:c?1,1,1,1,1`, and `c!1,1,1,1`, `c?1,1,1,1`
message-arguments : (says (s_send is_bang (var c) (commas (more 1' (more 1' (more 1' (more 1' (one 1'))))))) ≡ at 5 36 ∷ [])
    × (says (s_send is_bang (var c) (call 1' (more 1' (more 1' (more 1' (one 1')))))) ≡ at 5 36 ∷ [])
    × (labels (s_receive is_ask (var c) (commas (more (r_number {n = 1}) (more (r_number {n = 1}) (more (r_number {n = 1}) (more (r_number {n = 1}) (one (r_number {n = 1})))))))) ≡ at 5 38 ∷ [])
    × (says (s_send is_bang (var c) (commas (more 1' (more 1' (more 1' (one 1')))))) ≡ [])
    × (says (s_receive is_ask (var c) (commas (more (r_number {n = 1}) (more (r_number {n = 1}) (more (r_number {n = 1}) (one (r_number {n = 1}))))))) ≡ [])
unfolding judging
message-arguments = (refl, refl, refl, refl, refl)

-- ## "array .. number" and "capacity number" (5) at the number, "the fifth type" (5)
-- `int x[0]`, `int x[33]`, `init{int x,y[33]=1;skip}`, and `int x[1]`, `int x[32]`
array-number : (outside (declaration is_int (one (x_array {w = x} {n = 0}))) ≡ at 5 3 ∷ []) × (outside (declaration is_int (one (x_array {w = x} {n = 33}))) ≡ at 5 3 ∷ [])
    × (inside (declaration is_int (more (x_bare {w = x}) (one (x_array_set {w = y} {n = 33} (v_number {n = 1}))))) ≡ at 5 7 ∷ [])
    × (outside (declaration is_int (one (x_array {w = x} {n = 1}))) ≡ []) × (outside (declaration is_int (one (x_array {w = x} {n = 32}))) ≡ [])
unfolding judging
array-number = (refl, refl, refl, refl, refl)

-- `chan c=[0]of{int}`, `chan c=[9]of{int}`, `init{chan c=[9]of{int};skip}`, and `chan c=[1]of{int}`, `chan c=[8]of{int}`
abbrev buffered : (n : ℕ) → ADeclaration (sym 43 ∷ name c ∷ '= ∷ '[ ∷ number n ∷ '] ∷ 'of ∷ 'lbrace ∷ sym 45 ∷ 'rbrace ∷ []) (declare 43 (variable c none (set_channel n (45 ∷ [])) ∷ []))
buffered n = declaration is_chan (one (x_channel (one (a_type is_int))))

capacity : (outside (buffered 0) ≡ at 5 4 ∷ []) × (outside (buffered 9) ≡ at 5 4 ∷ []) × (inside (buffered 9) ≡ at 5 6 ∷ []) × (outside (buffered 1) ≡ []) × (outside (buffered 8) ≡ [])
unfolding judging
capacity = (refl, refl, refl, refl, refl)

-- `chan c=[1]of{..}` with 4, 5 and 6 types
abbrev holds : {ts : List Token} {ks : List ℕ} → Listed 'comma AType ts ks → Faults
holds ks = outside (declaration is_chan (one (x_channel {w = c} {n = 1} ks)))

abbrev int : AType (sym 45 ∷ []) 45
int = a_type is_int

fifth_type : (holds (more int (more int (more int (one int)))) ≡ []) × (holds (more int (more int (more int (more int (one int))))) ≡ at 5 16 ∷ [])
    × (holds (more int (more int (more int (more int (more int (one int)))))) ≡ at 5 16 ∷ [])
unfolding judging
fifth_type = (refl, refl, refl)

-- ## "`else` or `break` out of place, second `else`" (5)
-- `else`, `if::skip;else fi`, `if::L:else fi`, `if::else::else fi`, and `if::else fi`, `if::else::if::else fi fi`
else_out_of_place : (says s_else ≡ at 5 36 ∷ [])
    × (runs (q_last (s_bare (s_if (o_last (q_then (s_bare (s_leaf s_skip)) (by_semi none_trails) (alone s_else))))) none_trails) ≡ at 5 40 ∷ [])
    × (runs (q_last (s_bare (s_if (o_last (q_last (s_label {w = L} (s_leaf s_else)) none_trails)))) none_trails) ≡ at 5 40 ∷ [])
    × (runs (q_last (s_bare (s_if (o_also (alone s_else) (o_last (alone s_else))))) none_trails) ≡ at 5 40 ∷ [])
    × (runs (q_last (s_bare (s_if (o_last (alone s_else)))) none_trails) ≡ [])
    × (runs (q_last (s_bare (s_if (o_also (alone s_else) (o_last (q_last (s_bare (s_if (o_last (alone s_else)))) none_trails))))) none_trails) ≡ [])
unfolding judging
else_out_of_place = (refl, refl, refl, refl, refl, refl)

-- `break`, `if::break fi`, `do::skip od;break`, and `do::break od`, `do::if::break fi od`
break_outside : (says s_break ≡ at 5 36 ∷ []) × (runs (q_last (s_bare (s_if (o_last (alone s_break)))) none_trails) ≡ at 5 38 ∷ [])
    × (runs (q_then (s_bare (s_do (o_last (alone s_skip)))) (by_semi none_trails) (alone s_break)) ≡ at 5 41 ∷ [])
    × (runs (q_last (s_bare (s_do (o_last (alone s_break)))) none_trails) ≡ [])
    × (runs (q_last (s_bare (s_do (o_last (q_last (s_bare (s_if (o_last (alone s_break)))) none_trails)))) none_trails) ≡ [])
unfolding judging
break_outside = (refl, refl, refl, refl, refl)

-- ## "second `mtype` list or `init`" (5) at its keyword
-- `mtype={m};mtype={x}`, `mtype={m};mtype={m}`
second_mtype_list : (units (u_mtypes (one (a_name {w = m}))) (u_mtypes (one (a_name {w = x}))) ≡ at 5 6 ∷ [])
    × (units (u_mtypes (one (a_name {w = m}))) (u_mtypes (one (a_name {w = m}))) ≡ at 5 6 ∷ at 4 9 ∷ [])
unfolding judging
second_mtype_list = (refl, refl)

-- `init{skip}init{skip}`, `init{skip}init{x=1}init{skip}`
second_init : (unit (u_init rest) ≡ at 5 4 ∷ [])
    × (faults_of (g_more (u_init rest) no_semi (g_more (u_init (a_body (statements (alone (s_assign (var x) 1'))))) no_semi
    (g_last (u_init rest) no_semi))) ≡ at 5 4 ∷ at 4 6 ∷ at 5 10 ∷ [])
unfolding judging
second_init = (refl, refl)

-- ## "expression height 32" (2), "whole expression's first token for height"
-- 31 and 32 times `~` before 1: alone, in parentheses, assigned, sent, as an argument of `run`
height_32 : (says (s_express (high 31)) ≡ []) × (says (s_express (high 32)) ≡ at 2 36 ∷ []) × (says (s_express (up (e_group (high 32)))) ≡ at 2 36 ∷ [])
    × (says (s_assign (var x) (high 32)) ≡ at 2 38 ∷ []) × (says (s_send is_bang (var c) (commas (more 1' (one (high 32))))) ≡ at 2 40 ∷ [])
    × (says (s_run {w = p} (a_list (one (high 32)))) ≡ at 2 39 ∷ [])
unfolding judging
height_32 = (refl, refl, refl, refl, refl, refl)

-- inside `assert(`, `c?eval(` and behind `printf("%d",`
height-inside : (says (s_assert (high 31)) ≡ []) × (says (s_assert (high 32)) ≡ at 2 38 ∷ []) × (says (s_receive is_ask (var c) (commas (one (r_eval (high 31))))) ≡ [])
    × (says (s_receive is_ask (var c) (commas (one (r_eval (high 32))))) ≡ at 2 40 ∷ []) × (says (s_print {w = bytes "%d"} (one (high 32))) ≡ at 2 40 ∷ [])
unfolding judging
height-inside = (refl, refl, refl, refl, refl)

-- an index is 1 above, and a target, a channel operand or a receive variable is a whole expression: `a[..]++`, `c?a[..]`, `(1->1:..)`
height_of_index : (says (s_increment (e_index {w = a} (high 30))) ≡ []) × (says (s_increment (e_index {w = a} (high 31))) ≡ at 2 36 ∷ [])
    × (says (s_receive is_ask (var c) (commas (one (r_into (e_index {w = a} (high 31)))))) ≡ at 2 38 ∷ [])
    × (says (s_express (up (e_choice 1' 1' (high 31)))) ≡ at 2 36 ∷ [])
unfolding judging
height_of_index = (refl, refl, refl, refl)

-- ## several at once
-- `init{if::else->break::else->skip fi}`: a `break` in no `do`, then the second `else`
two_fives :
    starts (q_last (s_bare (s_if (o_also (q_then (s_bare (s_leaf s_else)) (by_arrow none_trails) (alone s_break))
    (o_last (q_then (s_bare (s_leaf s_else)) (by_arrow none_trails) (alone s_skip)))))) none_trails)
    ≡ at 5 6 ∷ at 5 8 ∷ []
unfolding judging
two_fives = refl

-- `int x;init{int x[33];x=1;;run x(1)}init{skip}`: 33 elements, an array without an index, a `run` of a variable, a second `init`
several :
    faults_of (g_more (u_global (scalar x)) (semi no_semi)
    (g_more (u_init (a_body (declared (declaration is_int (one (x_array {w = x} {n = 33}))) (by_semi none_trails)
    (statements (q_then (s_bare (s_leaf (s_assign (var x) 1'))) (by_semi (semi_trails none_trails)) (alone (s_run {w = x} (a_list (one 1'))))))))) no_semi
    (g_last (u_init rest) no_semi))) ≡ at 5 8 ∷ at 5 11 ∷ at 4 17 ∷ at 5 22 ∷ []
unfolding judging
several = refl

-- `proctype p(int x,x){L:skip;L:x!x,x,x,x,x;x=run p(1);printf("%x",1)}`
-- a parameter and a label twice, no channel, five message arguments, one argument for two parameters, a bad `%`, an argument too many
more_kinds :
    faults_of (g_last (u_process {w = p} not_active (a_list (one (a_group is_int (more (a_name {w = x}) (one (a_name {w = x})))))) (a_body (statements
    (q_then (s_label {w = L} (s_leaf s_skip)) (by_semi none_trails)
    (q_then (s_label {w = L} (s_leaf (s_send is_bang (var x) (commas (more (ref (var x)) (more (ref (var x)) (more (ref (var x)) (more (ref (var x))
    (one (ref (var x))))))))))) (by_semi none_trails)
    (q_then (s_bare (s_leaf (s_set_run {w = p} (var x) (a_list (one 1'))))) (by_semi none_trails) (alone (s_print {w = bytes "%x"} (one 1'))))))))) no_semi)
    ≡ at 4 6 ∷ at 4 13 ∷ at 4 15 ∷ at 5 15 ∷ at 5 27 ∷ at 5 37 ∷ at 5 35 ∷ []
unfolding judging
more_kinds = refl

-- ## "Within a pass the smallest place wins, then the smallest number"
-- `printf("%x",1)`: its first token, and not the string
smallest_place : Least (says (s_print {w = bytes "%x"} (one 1'))) 5 36
unfolding judging
smallest_place = record { is = there here; soonest = go }
  where
    last : (n j : ℕ) → Among n j (at 5 36 ∷ []) → (36 < j) ⊎ ((36 ≡ j) × (5 ≤ n))
    last n j here = inr (refl, omega arith)
    last n j (there x4) = elim x4 [ ]

    go : (n j : ℕ) → Among n j (at 5 38 ∷ at 5 36 ∷ []) → (36 < j) ⊎ ((36 ≡ j) × (5 ≤ n))
    go n j here = inl (omega arith)
    go n j (there r) = last n j r

-- `z+..` with 32 times `~` behind it: the height, and not the name
smallest_number : Least (says (s_express (sum (e_binary {o = 14} refl (e_up (e_up (e_up (var z)))) (e_up (above 32 (e_number {n = 1}))))))) 2 36
unfolding judging
smallest_number = record { is = there here; soonest = go }
  where
    last : (n j : ℕ) → Among n j (at 2 36 ∷ []) → (36 < j) ⊎ ((36 ≡ j) × (2 ≤ n))
    last n j here = inr (refl, omega arith)
    last n j (there x4) = elim x4 [ ]

    go : (n j : ℕ) → Among n j (at 4 36 ∷ at 2 36 ∷ []) → (36 < j) ⊎ ((36 ≡ j) × (2 ≤ n))
    go n j here = inr (refl, omega arith)
    go n j (there r) = last n j r

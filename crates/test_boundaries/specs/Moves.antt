-- Tests: worked examples and stored cases.
-- Worked examples on both sides of what statements of a tree can do and do (crate `spec_machine`), computed: document 01, "How it moves". The stage is a small one of its own.
use Rattle.std.specs.Prelude.{ℕ, ◌+◌, ◌-◌, ◌≡◌, refl, Bool, true, false, List, [], ◌∷◌, get_or, set, ℤ, pos, negsuc, neg_ℤ, eqb, Result, Ok, Err}
use Rattle.base_bytes.specs.Choice.{pick}
use Rattle.base_bytes.specs.Lists.{same}
use Rattle.base_kinds.specs.Kinds.{bytes}
use Rattle.base_bytes.specs.Numbers.{nat}
use Rattle.base_values.specs.Operators.{apply_of, unary_of, divide_of}
use Rattle.base_values.specs.declared.Fault.{Fault}
use Rattle.base_values.specs.declared.Fault.TheVariants.{Divide, Index, Channel, Fields}
use Rattle.base_outcome.specs.declared.Taken.TheVariants.{Done, Refuted, Faulted, Idle}
use Rattle.step_statements.specs.Statements.{Effect}
use Rattle.spec_text.specs.Formats.{digits_by, escaped, formatted, opened, counted}
use Rattle.spec_grammar.specs.Marks.{k_len, k_ask, k_bang}
use Rattle.spec_grammar.specs.Tree.{Name, Expr, plain, indexed, num, get, query, unary, binary, choice, into, equal, exactly, exactly_true, exactly_false}
use Rattle.spec_grammar.specs.Tree.{action, sequence, Tree, leaf, express, assign, increment, decrement, send, receive, assert, print, skip, goto, break, timeout, else, run, set_run, select, loop, bare, labelled, end, then, over, option}
use Rattle.spec_machine.specs.Eval.{eval}
use Rattle.spec_machine.specs.Stage.{Stage, Ways}
use Rattle.spec_machine.specs.Messages.{find_from}
use Rattle.spec_machine.specs.Arguments.{values, agrees, targets}
use Rattle.spec_machine.specs.Ready.{ready}
use Rattle.spec_machine.specs.Effect.{deliveries, effect, format, prints}
use Rattle.spec_machine.specs.Offers.{offers}
use Rattle.spec_machine.specs.Program.{Within, itself, in_if, in_do, unlabelled, behind_label, in_first, in_rest, in_option, in_others, label_in}

-- to unfold this is to unfold all that the examples compute with
unfoldable moving : Unit {0}
unfolding same apply_of unary_of divide_of eval values agrees find_from targets ready deliveries effect offers digits_by escaped formatted opened counted format
moving = tt

-- ## the stage: a state has the place of the process, i, a[0], a[1], c, e, how many messages wait in channel 1, and how many processes there are. m is an mtype name, 7
abbrev i : Name
i = bytes "i"

abbrev a : Name
a = bytes "a"

abbrev c : Name
c = bytes "c"

abbrev e : Name
e = bytes "e"

abbrev m : Name
m = bytes "m"

abbrev p : Name
p = bytes "p"

abbrev L : Name
L = bytes "L"

abbrev slot : Name → ℕ
slot w = pick (same w i) 1 (pick (same w a) 2 (pick (same w c) 4 5))

-- number k of a state, as it is counted
abbrev count : ℕ → List ℤ → ℕ
count k s = nat (get_or s k (pos 0))

-- channel 1 holds up to 2 messages of 2 fields, the oldest is 1, 7; `fits` says whether one more process has room
abbrev stage : Bool → List ℤ → Stage (List ℤ)
stage fits s =
    record {
      scene =
          record {
            number = λ w. pick (same w m) (pos 7) (get_or s (slot w) (pos 0));
            size = λ w. pick (same w a) 2 1;
            element = λ w k. get_or s (slot w + k) (pos 0);
            made = λ v. eqb (nat v) 1;
            waiting = λ v. count 6 s;
          };
      constant = λ w. same w m;
      capacity = λ v. 2;
      fields = λ v. 2;
      message = λ v k f. pick (eqb f 0) (pos 1) (pos 7);
      room = λ w. fits;
      newest = pos (count 7 s);
      store = λ w k v x. set x (slot w + k) v;
      put = λ v k l x. set x 6 (pos (count 6 x + 1));
      take = λ v k x. set x 6 (pos (count 6 x - 1));
      begin = λ w l x. set x 7 (pos (count 7 x + 1));
      go = λ n x. set x 0 (pos n);
    }

-- the state with this i, a and number of messages waiting: c is channel 1, e is no channel, and there are 3 processes; the process is at place 0
abbrev state : ℤ → ℤ → ℤ → ℕ → List ℤ
state v a0 a1 n = pos 0 ∷ v ∷ a0 ∷ a1 ∷ pos 1 ∷ pos 0 ∷ pos n ∷ pos 3 ∷ []

-- i is 5, a is 0, 0
abbrev with : ℕ → List ℤ
with n = state (pos 5) (pos 0) (pos 0) n

-- the state after a step that leads to place n
abbrev at : ℕ → List ℤ → List ℤ
at n s = set s 0 (pos n)

-- behind the statement is place 9, behind its loop place 8, and L is at place 7
abbrev ways : Ways
ways = record { next = 9; out = 8; label = λ w. pick (same w L) 7 0 }

-- is a statement executable where n messages wait; what it does there
abbrev can : ℕ → Tree action → Bool
can n s = ready (stage true (with n)) false s

abbrev does : ℕ → Tree action → Effect
does n s = effect (stage true (with n)) ways (with n) s

-- the same where no further process fits
abbrev crowded : Tree action → Bool
crowded s = ready (stage false (with 0)) false s

abbrev crowdedly : Tree action → Effect
crowdedly s = effect (stage false (with 0)) ways (with 0) s

abbrev var : Name → Expr
var w = get (plain w)

-- `1/0`, and `-1`
abbrev fault : Expr
fault = binary 17 (num 1) (num 0)

abbrev minus_1 : Expr
minus_1 = unary 15 (num 1)

abbrev worth : Expr → Result ℤ Fault
worth x = eval (stage true (with 1)).scene x

-- ## "`&&`, `||` and the conditional evaluate only what they need"
and_needs : (worth (binary 2 (num 0) fault) ≡ Ok (pos 0)) × (worth (binary 2 (num 5) (num 6)) ≡ Ok (pos 1)) × (worth (binary 2 (num 1) fault) ≡ Err Divide)
unfolding moving
and_needs = (refl, refl, refl)

or_needs : (worth (binary 1 (num 5) fault) ≡ Ok (pos 1)) × (worth (binary 1 (num 0) (num 6)) ≡ Ok (pos 1)) × (worth (binary 1 (num 0) fault) ≡ Err Divide)
unfolding moving
or_needs = (refl, refl, refl)

choice_needs : (worth (choice (num 0) fault (num 6)) ≡ Ok (pos 6)) × (worth (choice (num 5) (num 6) fault) ≡ Ok (pos 6))
    × (worth (choice (num 0) (num 6) fault) ≡ Err Divide) × (worth (choice fault (num 6) (num 6)) ≡ Err Divide)
unfolding moving
choice_needs = (refl, refl, refl, refl)

-- both operands, the left one first, then the divisor
left_fault_first : (worth (binary 17 (get (indexed a (num 2))) (num 0)) ≡ Err Index) × (worth (binary 17 fault (get (indexed a (num 2)))) ≡ Err Divide)
    × (worth (binary 17 (num 1) (get (indexed a (num 2)))) ≡ Err Index)
unfolding moving
left_fault_first = (refl, refl, refl)

-- ## "index out of range, a channel number that was never made .. (H: `len` of an unmade channel too.)"
index_ends : (worth (get (indexed a (num 0))) ≡ Ok (pos 0)) × (worth (get (indexed a (num 1))) ≡ Ok (pos 0)) × (worth (get (indexed a (num 2))) ≡ Err Index)
    × (worth (get (indexed a (minus_1))) ≡ Err Index)
unfolding moving
index_ends = (refl, refl, refl, refl)

length : (worth (query k_len (plain c)) ≡ Ok (pos 1)) × (worth (query k_len (plain e)) ≡ Err Channel)
unfolding moving
length = (refl, refl)

-- ## "an expression when not 0"; "A statement whose test faults counts as executable (H)"; "all others always"
expression : (can 0 (leaf (express (num 0))) ≡ false) × (can 0 (leaf (express (num 1))) ≡ true) × (can 0 (leaf (express minus_1)) ≡ true) × (can 0 (leaf (express fault)) ≡ true)
unfolding moving
expression = (refl, refl, refl, refl)

expression_taken : (does 0 (leaf (express (num 1))) ≡ (Done, at 9 (with 0))) × (does 0 (leaf (express fault)) ≡ (Faulted Divide, with 0))
unfolding moving
expression_taken = (refl, refl)

always : (can 0 (leaf (assert (num 0))) ≡ true) × (can 0 (leaf (assign (plain i) (num 0))) ≡ true) × (can 0 (leaf skip) ≡ true) × (can 0 (leaf (goto L)) ≡ true) × (can 0 (leaf break) ≡ true)
    × (can 0 (leaf (print [] [])) ≡ true)
unfolding moving
always = (refl, refl, refl, refl, refl, refl)

-- ## "a receive when it is not empty and each constant and `eval` equals its field, tried left to right to the first difference"; the oldest message is 1, 7
receive_waits : (can 0 (leaf (receive k_ask (plain c) (into (plain i) ∷ into (plain i) ∷ []))) ≡ false) × (can 1 (leaf (receive k_ask (plain c) (into (plain i) ∷ into (plain i) ∷ []))) ≡ true)
    × (can 2 (leaf (receive k_ask (plain c) (into (plain i) ∷ into (plain i) ∷ []))) ≡ true)
unfolding moving
receive_waits = (refl, refl, refl)

constant-agrees : (can 1 (leaf (receive k_ask (plain c) (exactly 1 ∷ into (plain i) ∷ []))) ≡ true) × (can 1 (leaf (receive k_ask (plain c) (exactly 2 ∷ into (plain i) ∷ []))) ≡ false)
    × (can 1 (leaf (receive k_ask (plain c) (exactly 1 ∷ exactly 7 ∷ []))) ≡ true) × (can 1 (leaf (receive k_ask (plain c) (exactly 1 ∷ exactly 8 ∷ []))) ≡ false)
    × (can 1 (leaf (receive k_ask (plain c) (exactly_true ∷ into (plain i) ∷ []))) ≡ true) × (can 1 (leaf (receive k_ask (plain c) (exactly_false ∷ into (plain i) ∷ []))) ≡ false)
unfolding moving
constant-agrees = (refl, refl, refl, refl, refl, refl)

eval-agrees : (can 1 (leaf (receive k_ask (plain c) (equal (binary 15 (var i) (num 4)) ∷ into (plain i) ∷ []))) ≡ true)
    × (can 1 (leaf (receive k_ask (plain c) (equal (var i) ∷ into (plain i) ∷ []))) ≡ false) × (can 1 (leaf (receive k_ask (plain c) (into (plain i) ∷ equal (binary 14 (var i) (num 2)) ∷ []))) ≡ true)
unfolding moving
eval-agrees = (refl, refl, refl)

mtype_name_agrees : (can 1 (leaf (receive k_ask (plain c) (into (plain i) ∷ into (plain m) ∷ []))) ≡ true) × (can 1 (leaf (receive k_ask (plain c) (into (plain m) ∷ into (plain i) ∷ []))) ≡ false)
unfolding moving
mtype_name_agrees = (refl, refl)

-- a test at fault is met only where those before it agree
to_the_first_difference : (can 1 (leaf (receive k_ask (plain c) (equal fault ∷ into (plain i) ∷ []))) ≡ true) × (can 1 (leaf (receive k_ask (plain c) (exactly 1 ∷ equal fault ∷ []))) ≡ true)
    × (can 1 (leaf (receive k_ask (plain c) (exactly 2 ∷ equal fault ∷ []))) ≡ false) × (can 0 (leaf (receive k_ask (plain c) (equal fault ∷ into (plain i) ∷ []))) ≡ false)
unfolding moving
to_the_first_difference = (refl, refl, refl, refl)

-- the message goes out, what is compared is not stored
receive_taken : (does 2 (leaf (receive k_ask (plain c) (exactly 1 ∷ into (plain i) ∷ []))) ≡ (Done, at 9 (state (pos 7) (pos 0) (pos 0) 1)))
    × (does 1 (leaf (receive k_ask (plain c) (into (indexed a (num 1)) ∷ into (plain m) ∷ []))) ≡ (Done, at 9 (state (pos 5) (pos 0) (pos 1) 0)))
    × (does 1 (leaf (receive k_ask (plain c) (into (plain i) ∷ into (plain i) ∷ []))) ≡ (Done, at 9 (state (pos 7) (pos 0) (pos 0) 0)))
unfolding moving
receive_taken = (refl, refl, refl)

-- "a receive's tests come before its targets", and those are met left to right
receive_faults : (does 1 (leaf (receive k_ask (plain c) (into (indexed a (num 2)) ∷ equal fault ∷ []))) ≡ (Faulted Divide, with 1))
    × (does 1 (leaf (receive k_ask (plain c) (into (indexed a (num 2)) ∷ into (indexed a fault) ∷ []))) ≡ (Faulted Index, with 1))
    × (does 1 (leaf (receive k_ask (plain c) (into (indexed a fault) ∷ into (indexed a (num 2)) ∷ []))) ≡ (Faulted Divide, with 1))
unfolding moving
receive_faults = (refl, refl, refl)

-- ## "a channel's number and field count are tested first", on an empty and on a full channel too
receive_one_of_two : (can 0 (leaf (receive k_ask (plain c) (into (plain i) ∷ []))) ≡ true) × (does 0 (leaf (receive k_ask (plain c) (into (plain i) ∷ []))) ≡ (Faulted Fields, with 0))
    × (can 0 (leaf (receive k_ask (plain c) (into (plain i) ∷ into (plain i) ∷ into (plain i) ∷ []))) ≡ true)
unfolding moving
receive_one_of_two = (refl, refl, refl)

receive_unmade : (can 0 (leaf (receive k_ask (plain e) (into (plain i) ∷ []))) ≡ true) × (does 0 (leaf (receive k_ask (plain e) (into (plain i) ∷ []))) ≡ (Faulted Channel, with 0))
unfolding moving
receive_unmade = (refl, refl)

send_unmade : (can 2 (leaf (send k_bang (plain e) (num 1 ∷ []))) ≡ true) × (does 2 (leaf (send k_bang (plain e) (fault ∷ []))) ≡ (Faulted Channel, with 2))
unfolding moving
send_unmade = (refl, refl)

send_three_for_two : (can 2 (leaf (send k_bang (plain c) (num 1 ∷ num 1 ∷ fault ∷ []))) ≡ true) × (does 2 (leaf (send k_bang (plain c) (num 1 ∷ num 1 ∷ fault ∷ []))) ≡ (Faulted Fields, with 2))
unfolding moving
send_three_for_two = (refl, refl)

operand_index_first : (can 2 (leaf (send k_bang (indexed a (num 2)) (num 1 ∷ []))) ≡ true) × (does 2 (leaf (send k_bang (indexed a (num 2)) (num 1 ∷ []))) ≡ (Faulted Index, with 2))
unfolding moving
operand_index_first = (refl, refl)

-- ## "a send when the channel is not full"; "Arguments of a send or `run` are worked out only when there is room for it"
send_room : (can 1 (leaf (send k_bang (plain c) (num 1 ∷ num 2 ∷ []))) ≡ true) × (can 2 (leaf (send k_bang (plain c) (num 1 ∷ num 2 ∷ []))) ≡ false) × (can 1 (leaf (send k_bang (plain c) (num 1 ∷ fault ∷ []))) ≡ true)
    × (can 2 (leaf (send k_bang (plain c) (num 1 ∷ fault ∷ []))) ≡ false)
unfolding moving
send_room = (refl, refl, refl, refl)

send_taken : (does 1 (leaf (send k_bang (plain c) (num 1 ∷ num 2 ∷ []))) ≡ (Done, at 9 (with 2))) × (does 1 (leaf (send k_bang (plain c) (num 1 ∷ fault ∷ []))) ≡ (Faulted Divide, with 1))
    × (does 1 (leaf (send k_bang (plain c) (get (indexed a (num 2)) ∷ fault ∷ []))) ≡ (Faulted Index, with 1))
unfolding moving
send_taken = (refl, refl, refl)

-- ## "`run` when a process and its channels still fit"; "`v = run` stores 0 where nothing fits", and works no argument out there
run_room : (can 0 (leaf (run p [])) ≡ true) × (crowded (leaf (run p [])) ≡ false) × (crowded (leaf (run p (fault ∷ []))) ≡ false) × (crowded (leaf (set_run (plain i) p [])) ≡ true)
unfolding moving
run_room = (refl, refl, refl, refl)

run-taken : (does 0 (leaf (run p [])) ≡ (Done, set (at 9 (with 0)) 7 (pos 4))) × (does 0 (leaf (run p (fault ∷ []))) ≡ (Faulted Divide, with 0)) × (crowdedly (leaf (run p [])) ≡ (Idle, with 0))
unfolding moving
run-taken = (refl, refl, refl)

set_run_taken : (does 0 (leaf (set_run (plain i) p [])) ≡ (Done, set (at 9 (state (pos 3) (pos 0) (pos 0) 0)) 7 (pos 4)))
    × (does 0 (leaf (set_run (plain i) p (fault ∷ []))) ≡ (Faulted Divide, with 0))
unfolding moving
set_run_taken = (refl, refl)

set_run_without_room : (crowdedly (leaf (set_run (plain i) p [])) ≡ (Done, at 9 (state (pos 0) (pos 0) (pos 0) 0)))
    × (crowdedly (leaf (set_run (plain i) p (fault ∷ []))) ≡ (Done, at 9 (state (pos 0) (pos 0) (pos 0) 0)))
unfolding moving
set_run_without_room = (refl, refl)

-- the target's index comes before the room
set_run_index : (does 0 (leaf (set_run (indexed a (num 2)) p (fault ∷ []))) ≡ (Faulted Index, with 0)) × (crowdedly (leaf (set_run (indexed a (num 2)) p [])) ≡ (Faulted Index, with 0))
unfolding moving
set_run_index = (refl, refl)

-- ## "A failed assertion or fault changes no state and prints nothing"
assertions : (does 0 (leaf (assert minus_1)) ≡ (Done, at 9 (with 0))) × (does 0 (leaf (assert (num 0))) ≡ (Refuted, with 0)) × (does 0 (leaf (assert fault)) ≡ (Faulted Divide, with 0))
unfolding moving
assertions = (refl, refl, refl)

stores : (does 0 (leaf (assign (indexed a (num 0)) (num 4))) ≡ (Done, at 9 (state (pos 5) (pos 4) (pos 0) 0)))
    × (does 0 (leaf (assign (indexed a (num 1)) (num 4))) ≡ (Done, at 9 (state (pos 5) (pos 0) (pos 4) 0))) × (does 0 (leaf (assign (indexed a (num 2)) (num 4))) ≡ (Faulted Index, with 0))
    × (does 0 (leaf (assign (indexed a minus_1) (num 4))) ≡ (Faulted Index, with 0))
unfolding moving
stores = (refl, refl, refl, refl)

-- the target's index is ranged before the right side
target_first : (does 0 (leaf (assign (indexed a (num 2)) fault)) ≡ (Faulted Index, with 0)) × (does 0 (leaf (assign (indexed a fault) (get (indexed a (num 2))))) ≡ (Faulted Divide, with 0))
    × (does 0 (leaf (assign (indexed a (num 1)) fault)) ≡ (Faulted Divide, with 0))
unfolding moving
target_first = (refl, refl, refl)

steps_by_one : (does 0 (leaf (increment (plain i))) ≡ (Done, at 9 (state (pos 6) (pos 0) (pos 0) 0)))
    × (does 0 (leaf (decrement (indexed a (num 1)))) ≡ (Done, at 9 (state (pos 5) (pos 0) (negsuc 0) 0))) × (does 0 (leaf (increment (indexed a (num 2)))) ≡ (Faulted Index, with 0))
unfolding moving
steps_by_one = (refl, refl, refl)

-- "keep the low 32 bits": the most number and one more
increment_wraps :
    effect (stage true (state (pos 2147483647) (pos 0) (pos 0) 0)) ways (state (pos 2147483647) (pos 0) (pos 0) 0) (leaf (increment (plain i)))
    ≡ (Done, at 9 (state (neg_ℤ (pos 2147483648)) (pos 0) (pos 0) 0))
unfolding moving
increment_wraps = refl

prints-text : (prints (stage true (with 0)) (leaf (print (bytes "%d%%\\n") (minus_1 ∷ []))) ≡ bytes "-1%\n")
    × (prints (stage true (with 0)) (leaf (print (bytes "%d%d") (num 1 ∷ fault ∷ []))) ≡ []) × (does 0 (leaf (print (bytes "%d") (fault ∷ []))) ≡ (Faulted Divide, with 0))
unfolding moving
prints-text = (refl, refl, refl)

-- ## "`goto` and `break` are steps of their own (H)"; `timeout` where nothing else is executable
leads : (does 0 (leaf skip) ≡ (Done, at 9 (with 0))) × (does 0 (leaf (goto L)) ≡ (Done, at 7 (with 0))) × (does 0 (leaf break) ≡ (Done, at 8 (with 0))) × (does 0 (leaf timeout) ≡ (Done, at 9 (with 0)))
    × (does 0 (leaf else) ≡ (Done, at 9 (with 0)))
unfolding moving
leads = (refl, refl, refl, refl, refl)

timeout_early_and_late : (can 0 (leaf timeout) ≡ false) × (ready (stage true (with 0)) true (leaf timeout) ≡ true)
unfolding moving
timeout_early_and_late = (refl, refl)

-- ## offered steps of a selection whose items begin at item 10, by their places, in text order
abbrev one : Tree action → Tree sequence
one s = then (bare s) end

-- `0` and `1`
abbrev no : Tree sequence
no = one (leaf (express (num 0)))

abbrev yes : Tree sequence
yes = one (leaf (express (num 1)))

abbrev offered : Tree action → List ℕ
offered s = offers (λ x j. ready (stage true (with 0)) false x) s 10

options_in_text_order : (offered (select (option yes (option no (option yes over)))) ≡ 12 ∷ 20 ∷ []) × (offered (loop (option no (option no over))) ≡ [])
    × (offered (loop (option no (option (one (leaf else)) over))) ≡ 16 ∷ [])
unfolding moving
options_in_text_order = (refl, refl, refl)

-- a selection as an option's first statement: its steps are the option's, flat
nested-flat : offered (select (option (one (select (option yes (option no (option yes over))))) (option yes over))) ≡ 14 ∷ 22 ∷ 28 ∷ []
unfolding moving
nested-flat = refl

-- the inner `else` is judged in the inner selection and makes the outer option executable
inner_else : (offered (select (option (one (select (option no (option (one (leaf else)) over)))) (option (one (leaf else)) over))) ≡ 18 ∷ [])
    × (offered (select (option (one (select (option no (option (one (leaf else)) over)))) (option yes over))) ≡ 18 ∷ 23 ∷ [])
unfolding moving
inner_else = (refl, refl)

outer_else : (offered (select (option (one (select (option no over))) (option (one (leaf else)) over))) ≡ 20 ∷ [])
    × (offered (select (option (one (select (option yes over))) (option (one (leaf else)) over))) ≡ 14 ∷ [])
unfolding moving
outer_else = (refl, refl)

-- "`else` and all the rest are judged with `timeout` not executable"; only the first statement of an option counts; its place is behind its label
else_beside_timeout : (offered (select (option (one (leaf timeout)) (option (one (leaf else)) over))) ≡ 15 ∷ []) × (offered (select (option (one (leaf timeout)) over)) ≡ [])
unfolding moving
else_beside_timeout = (refl, refl)

first_statement_alone : offered (select (option (then (bare (leaf (express (num 0)))) yes) (option (then (bare (leaf (express (num 1)))) no) over))) ≡ 18 ∷ []
unfolding moving
first_statement_alone = refl

behind_a_label : offered (select (option (then (labelled L (leaf skip)) end) over)) ≡ 14 ∷ []
unfolding moving
behind_a_label = refl

-- ## "an ended option leads past `fi`, or back to `do`": `do::1;break::else od;L:if::skip fi`, whose items begin at item 2, in a body that ends at item 19
--   2 do 3 option 4 number 5 express 6 break 7 end-option 8 option 9 else 10 end-option 11 od 12 name 13 label 14 if 15 option 16 skip 17 end-option 18 fi 19 end-body
abbrev program : Tree sequence
program =
    then (bare (loop (option (then (bare (leaf (express (num 1)))) (one (leaf break))) (option (one (leaf else)) over))))
    (then (labelled L (select (option (one (leaf skip)) over))) end)

-- the expression leads to `break`, that behind `od`, behind the label; `else` back to `do`; `skip` past `fi`, where the body ends
to_break : Within sequence program 2 19 0 (leaf (express (num 1))) 4 6 14
to_break = in_first (unlabelled (in_do (in_option (in_first (unlabelled itself)))))

past_od : Within sequence program 2 19 0 (leaf break) 6 2 14
past_od = in_first (unlabelled (in_do (in_option (in_rest (in_first (unlabelled itself))))))

back_to_do : Within sequence program 2 19 0 (leaf else) 9 2 14
back_to_do = in_first (unlabelled (in_do (in_others (in_option (in_first (unlabelled itself))))))

past_fi : Within sequence program 2 19 0 (leaf skip) 16 19 0
past_fi = in_rest (in_first (behind_label (in_if (in_option (in_first (unlabelled itself))))))

label-place : (label_in L program 2 0 ≡ 14) × (label_in p program 2 0 ≡ 0)
unfolding moving
label-place = (refl, refl)

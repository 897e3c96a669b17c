-- Document 01, "What is answered": "places that belong to the process's proctype or its end". It does not say how places are numbered: they are numbers of a state (docs/TABLES.md), one for each
-- statement, in text order. Here is how many numbers each part of a tree takes: one for each name, number, operator and word that it holds and for each mark that says what they are for.
use Rattle.std.specs.Prelude.{ℕ, ◌+◌, List, [], ◌∷◌}
use Rattle.std.proofs.Math.Option.{Option, none, some}
use Rattle.spec_grammar.specs.Tree.{Shape, Exp, plain, indexed, num, tru, fls, get, query, unary, binary, choice, Expr, Received, into, equal, exactly, exactly_true, exactly_false, Leaf, express, assign, increment, decrement, send, receive, assert, print, skip, goto, break, timeout, else, run, set_run, Sort, Tree, leaf, select, loop, bare, labelled, end, then, over, option, Value, unset, set_number, set_minus, set_true, set_false, set_name, set_channel, Variable, variable, Declaration, declare, Group, group, Body, body, Activity, idle, once, times, Part, mtypes, global, process, init}

abbrev pub sum : {A : Type 0} → (A → ℕ) → List A → ℕ
sum f [] = 0
sum f (a ∷ l) = f a + sum f l

abbrev pub size_exp : {s : Shape} → Exp s → ℕ
size_exp (plain w) = 2
size_exp (indexed w e) = size_exp e + 2
size_exp (num n) = 1
size_exp tru = 1
size_exp fls = 1
size_exp (get r) = size_exp r
size_exp (query o r) = size_exp r + 1
size_exp (unary o e) = size_exp e + 1
size_exp (binary o a b) = size_exp a + size_exp b + 1
size_exp (choice a b c) = size_exp a + size_exp b + size_exp c + 2

abbrev pub size_argument : Expr → ℕ
size_argument e = size_exp e + 1

abbrev pub size_received : Received → ℕ
size_received (into r) = size_exp r + 1
size_received (equal e) = size_exp e + 1
size_received (exactly n) = 2
size_received exactly_true = 2
size_received exactly_false = 2

abbrev pub size_leaf : Leaf → ℕ
size_leaf (express e) = size_exp e + 1
size_leaf (assign r e) = size_exp r + size_exp e + 2
size_leaf (increment r) = size_exp r + 1
size_leaf (decrement r) = size_exp r + 1
size_leaf (send o r es) = size_exp r + sum size_argument es + 2
size_leaf (receive o r xs) = size_exp r + sum size_received xs + 2
size_leaf (assert e) = size_exp e + 1
size_leaf (print w es) = sum size_argument es + 2
size_leaf skip = 1
size_leaf (goto w) = 2
size_leaf break = 1
size_leaf timeout = 1
size_leaf else = 1
size_leaf (run w es) = sum size_argument es + 3
size_leaf (set_run r w es) = size_exp r + sum size_argument es + 4

abbrev pub size_in : {k : Sort} → Tree k → ℕ
size_in (leaf l) = size_leaf l
size_in (select os) = size_in os + 2
size_in (loop os) = size_in os + 2
size_in (bare a) = size_in a
size_in (labelled w a) = size_in a + 2
size_in end = 0
size_in (then s q) = size_in s + size_in q
size_in over = 0
size_in (option q os) = size_in q + size_in os + 2

abbrev pub size_size : Option ℕ → ℕ
size_size none = 0
size_size (some n) = 2

-- each name of a list, each type
abbrev pub size_one : {A : Type 0} → A → ℕ
size_one a = 2

abbrev pub size_value : Value → ℕ
size_value unset = 0
size_value (set_number n) = 2
size_value (set_minus n) = 2
size_value set_true = 2
size_value set_false = 2
size_value (set_name w) = 2
size_value (set_channel n ks) = sum size_one ks + 2

abbrev pub size_variable : Variable → ℕ
size_variable (variable w s v) = size_size s + size_value v + 2

abbrev pub size_declaration : Declaration → ℕ
size_declaration (declare k xs) = sum size_variable xs + 2

abbrev pub size_group : Group → ℕ
size_group (group k ws) = sum size_one ws + 2

abbrev pub size_body : Body → ℕ
size_body (body ds q) = sum size_declaration ds + size_in q + 2

abbrev pub size_activity : Activity → ℕ
size_activity idle = 2
size_activity once = 2
size_activity (times n) = 3

abbrev pub size_part : Part → ℕ
size_part (mtypes ws) = sum size_one ws + 1
size_part (global d) = size_declaration d
size_part (process a w gs b) = size_activity a + sum size_group gs + size_body b
size_part (init b) = size_body b + 1

-- The tokens of a tree's normal text (document 01, "Normal text"): "the fewest parentheses, `;`, comma notation, no optional separator".
use Rattle.std.specs.Prelude.{Bool, true, false, List, [], ◌∷◌, ◌++◌, ℕ, suc, leb}
use Rattle.std.proofs.Math.Option.{Option, none, some}
use Rattle.base_kinds.specs.Kinds.{Token, sym, name, number, text, level}
use Rattle.spec_grammar.specs.Marks.{'-, 'lpar, 'rpar, '[, '], 'lbrace, 'rbrace, 'comma, 'semi, ':, '::, '->, '=, '++, 'mtype, 'active, 'assert, 'break, 'do, 'else, 'eval, 'false, 'fi, 'goto, 'if, 'init, 'od, 'of, 'printf, 'proctype, 'run, 'skip, 'timeout, 'true, '--}
use Rattle.spec_grammar.specs.Tree.{Name, Shape, Exp, plain, indexed, num, tru, fls, get, query, unary, binary, choice, Expr, Ref, Received, into, equal, exactly, exactly_true, exactly_false, Leaf, express, assign, increment, decrement, send, receive, assert, print, skip, goto, break, timeout, else, run, set_run, Sort, sequence, Tree, leaf, select, loop, bare, labelled, end, then, over, option, Value, unset, set_number, set_minus, set_true, set_false, set_name, set_channel, Variable, variable, Declaration, declare, Group, group, Body, body, Activity, idle, once, times, Part, mtypes, global, process, init, Model}

-- parentheses where the test fails
abbrev pub wrap : Bool → List Token → List Token
wrap true ts = ts
wrap false ts = 'lpar ∷ ts ++ 'rpar ∷ []

-- an expression that stands where level l is asked for (specs/Grammar.antt): parentheses exactly around what is looser, so a right operand of the same level keeps them
abbrev pub print_exp : {s : Shape} → Exp s → ℕ → List Token
print_exp (plain w) l = name w ∷ []
print_exp (indexed w e) l = name w ∷ '[ ∷ print_exp e 1 ++ '] ∷ []
print_exp (num n) l = number n ∷ []
print_exp tru l = 'true ∷ []
print_exp fls l = 'false ∷ []
print_exp (get r) l = print_exp r 12
print_exp (query o r) l = sym o ∷ 'lpar ∷ print_exp r 12 ++ 'rpar ∷ []
print_exp (unary o e) l = sym o ∷ print_exp e 11
print_exp (binary o a b) l = wrap (leb l (level o)) (print_exp a (level o) ++ sym o ∷ print_exp b (suc (level o)))
print_exp (choice a b c) l = 'lpar ∷ print_exp a 1 ++ '-> ∷ print_exp b 1 ++ ': ∷ print_exp c 1 ++ 'rpar ∷ []

abbrev pub print_ref : Ref → List Token
print_ref r = print_exp r 12

abbrev pub print_whole : Expr → List Token
print_whole e = print_exp e 1

-- lists: the token s before each element; between the elements
abbrev pub further : Token → {A : Type 0} → (A → List Token) → List A → List Token
further s f [] = []
further s f (a ∷ l) = s ∷ f a ++ further s f l

abbrev pub join : Token → {A : Type 0} → (A → List Token) → List A → List Token
join s f [] = []
join s f (a ∷ l) = f a ++ further s f l

abbrev pub print_received : Received → List Token
print_received (into r) = print_ref r
print_received (equal e) = 'eval ∷ 'lpar ∷ print_whole e ++ 'rpar ∷ []
print_received (exactly n) = number n ∷ []
print_received exactly_true = 'true ∷ []
print_received exactly_false = 'false ∷ []

-- a separator before what is not empty
abbrev pub before : Tree sequence → List Token → List Token
before end ts = ts
before (then s q) ts = 'semi ∷ ts

abbrev pub print_leaf : Leaf → List Token
print_leaf (express e) = print_whole e
print_leaf (assign r e) = print_ref r ++ '= ∷ print_whole e
print_leaf (increment r) = print_ref r ++ '++ ∷ []
print_leaf (decrement r) = print_ref r ++ '-- ∷ []
print_leaf (send o r es) = print_ref r ++ sym o ∷ join 'comma print_whole es
print_leaf (receive o r xs) = print_ref r ++ sym o ∷ join 'comma print_received xs
print_leaf (assert e) = 'assert ∷ 'lpar ∷ print_whole e ++ 'rpar ∷ []
print_leaf (print w es) = 'printf ∷ 'lpar ∷ text w ∷ further 'comma print_whole es ++ 'rpar ∷ []
print_leaf skip = 'skip ∷ []
print_leaf (goto w) = 'goto ∷ name w ∷ []
print_leaf break = 'break ∷ []
print_leaf timeout = 'timeout ∷ []
print_leaf else = 'else ∷ []
print_leaf (run w es) = 'run ∷ name w ∷ 'lpar ∷ join 'comma print_whole es ++ 'rpar ∷ []
print_leaf (set_run r w es) = print_ref r ++ '= ∷ 'run ∷ name w ∷ 'lpar ∷ join 'comma print_whole es ++ 'rpar ∷ []

abbrev pub print_tree : {k : Sort} → Tree k → List Token
print_tree (leaf l) = print_leaf l
print_tree (select os) = 'if ∷ print_tree os ++ 'fi ∷ []
print_tree (loop os) = 'do ∷ print_tree os ++ 'od ∷ []
print_tree (bare a) = print_tree a
print_tree (labelled w a) = name w ∷ ': ∷ print_tree a
print_tree end = []
print_tree (then s q) = print_tree s ++ before q (print_tree q)
print_tree over = []
print_tree (option q os) = ':: ∷ print_tree q ++ print_tree os

abbrev pub print_type : ℕ → List Token
print_type k = sym k ∷ []

abbrev pub print_value : Value → List Token
print_value unset = []
print_value (set_number n) = '= ∷ number n ∷ []
print_value (set_minus n) = '= ∷ '- ∷ number n ∷ []
print_value set_true = '= ∷ 'true ∷ []
print_value set_false = '= ∷ 'false ∷ []
print_value (set_name w) = '= ∷ name w ∷ []
print_value (set_channel n ks) = '= ∷ '[ ∷ number n ∷ '] ∷ 'of ∷ 'lbrace ∷ join 'comma print_type ks ++ 'rbrace ∷ []

abbrev pub print_size : Option ℕ → List Token
print_size none = []
print_size (some n) = '[ ∷ number n ∷ '] ∷ []

abbrev pub print_variable : Variable → List Token
print_variable (variable w s v) = name w ∷ print_size s ++ print_value v

abbrev pub print_declaration : Declaration → List Token
print_declaration (declare k xs) = sym k ∷ join 'comma print_variable xs

abbrev pub print_name : Name → List Token
print_name w = name w ∷ []

abbrev pub print_group : Group → List Token
print_group (group k ws) = sym k ∷ join 'comma print_name ws

abbrev pub print_items : List Declaration → Tree sequence → List Token
print_items [] q = print_tree q
print_items (d ∷ ds) q = print_declaration d ++ 'semi ∷ print_items ds q

abbrev pub print_body : Body → List Token
print_body (body ds q) = 'lbrace ∷ print_items ds q ++ 'rbrace ∷ []

abbrev pub print_activity : Activity → List Token
print_activity idle = []
print_activity once = 'active ∷ []
print_activity (times n) = 'active ∷ '[ ∷ number n ∷ '] ∷ []

abbrev pub print_part : Part → List Token
print_part (mtypes ws) = 'mtype ∷ '= ∷ 'lbrace ∷ join 'comma print_name ws ++ 'rbrace ∷ []
print_part (global d) = print_declaration d
print_part (process a w gs b) = print_activity a ++ 'proctype ∷ name w ∷ 'lpar ∷ join 'semi print_group gs ++ 'rpar ∷ print_body b
print_part (init b) = 'init ∷ print_body b

abbrev pub print_model : Model → List Token
print_model [] = []
print_model (u ∷ m) = print_part u ++ print_model m

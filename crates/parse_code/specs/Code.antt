-- Bridge: what `parse-sound`, `parse_complete` (crate `parse_grammar`) hold the parser to; that it says all that the tree says, by `code_injective` (crate `parse_code`).
-- The code of a tree: a list of items in text order, expressions in postfix, on which all later passes work. It says all that the tree says (proofs/Build.antt).
-- An item with a payload comes from one token (name, number, string, type). It is followed, at once or after an index, by the mark that says what it is for:
--   a reference   name plain | name INDEX index, with INDEX an expression; as an operand nothing follows, else: len, target, increment, decrement, send, receive or into
--   an expression number | true | false | reference | reference len | A unary | A B binary | A B otherwise C choice (`otherwise` stands at the `:` of the text)
--   an argument   A argument; a received one: reference into | A equal (it was `eval`) | number constant | true constant | false constant
--   a statement   [name label] and then:  A express | reference target A assign | reference increment | reference decrement | A assert | skip | name goto | break | timeout | else
--                 reference send ARGUMENTS end | reference receive RECEIVED end | text ARGUMENTS end | name run ARGUMENTS end | reference target name set-run ARGUMENTS end
--                 if OPTIONS fi | do OPTIONS od, an option being: option STATEMENTS end-option
--   a declaration type local VARIABLES (global for a unit of its own), a variable being: name declared [number size] [VALUE], a value:
--                 number value | number minus | true value | false value | name named | number channel, then type field for each of its types
--   a unit        mtypes, then name message for each | type global VARIABLES | init BODY | name proctype GROUPS BODY | name active GROUPS BODY | number name active-many GROUPS BODY
--   a group       type group, then name parameter for each
--   a body        body DECLARATIONS STATEMENTS end-body
use Rattle.std.proofs.Math.Option.{Option, none, some}
use Rattle.std.specs.Prelude.{List, [], ◌∷◌, ◌++◌, ℕ}
use Rattle.base_codes.specs.Items.{Item, i_active, i_active_many, i_argument, i_assert, i_assign, i_binary, i_body, i_break, i_channel, i_choice, i_constant, i_declared, i_decrement, i_do, i_else, i_end, i_end_body, i_end_option, i_equal, i_express, i_false, i_fi, i_field, i_global, i_goto, i_group, i_if, i_increment, i_index, i_init, i_into, i_label, i_query, i_local, i_message, i_minus, i_mtypes, i_name, i_named, i_number, i_od, i_option, i_otherwise, i_parameter, i_plain, i_proctype, i_receive, i_run, i_send, i_set_run, i_size, i_skip, i_target, i_text, i_timeout, i_true, i_type, i_unary, i_value}
use Rattle.spec_grammar.specs.Tree.{Name, Shape, Exp, plain, indexed, num, tru, fls, get, query, unary, binary, choice, Expr, Received, into, equal, exactly, exactly_true, exactly_false, Leaf, express, assign, increment, decrement, send, receive, assert, print, skip, goto, break, timeout, else, run, set_run, Sort, Tree, leaf, select, loop, bare, labelled, end, then, over, option, Value, unset, set_number, set_minus, set_true, set_false, set_name, set_channel, Variable, variable, Declaration, declare, Group, group, Body, body, Activity, idle, once, times, Part, mtypes, global, process, init, Model}

abbrev pub each : {A : Type 0} → (A → List Item) → List A → List Item
each f [] = []
each f (a ∷ l) = f a ++ each f l

abbrev pub code_exp : {s : Shape} → Exp s → List Item
code_exp (plain w) = i_name w ∷ i_plain ∷ []
code_exp (indexed w e) = i_name w ∷ code_exp e ++ i_index ∷ []
code_exp (num n) = i_number n ∷ []
code_exp tru = i_true ∷ []
code_exp fls = i_false ∷ []
code_exp (get r) = code_exp r
code_exp (query o r) = code_exp r ++ i_query o ∷ []
code_exp (unary o e) = code_exp e ++ i_unary o ∷ []
code_exp (binary o a b) = code_exp a ++ code_exp b ++ i_binary o ∷ []
code_exp (choice a b c) = code_exp a ++ code_exp b ++ i_otherwise ∷ code_exp c ++ i_choice ∷ []

abbrev pub code_argument : Expr → List Item
code_argument e = code_exp e ++ i_argument ∷ []

abbrev pub code_received : Received → List Item
code_received (into r) = code_exp r ++ i_into ∷ []
code_received (equal e) = code_exp e ++ i_equal ∷ []
code_received (exactly n) = i_number n ∷ i_constant ∷ []
code_received exactly_true = i_true ∷ i_constant ∷ []
code_received exactly_false = i_false ∷ i_constant ∷ []

abbrev pub code_leaf : Leaf → List Item
code_leaf (express e) = code_exp e ++ i_express ∷ []
code_leaf (assign r e) = code_exp r ++ i_target ∷ code_exp e ++ i_assign ∷ []
code_leaf (increment r) = code_exp r ++ i_increment ∷ []
code_leaf (decrement r) = code_exp r ++ i_decrement ∷ []
code_leaf (send o r es) = code_exp r ++ i_send o ∷ each code_argument es ++ i_end ∷ []
code_leaf (receive o r xs) = code_exp r ++ i_receive o ∷ each code_received xs ++ i_end ∷ []
code_leaf (assert e) = code_exp e ++ i_assert ∷ []
code_leaf (print w es) = i_text w ∷ each code_argument es ++ i_end ∷ []
code_leaf skip = i_skip ∷ []
code_leaf (goto w) = i_name w ∷ i_goto ∷ []
code_leaf break = i_break ∷ []
code_leaf timeout = i_timeout ∷ []
code_leaf else = i_else ∷ []
code_leaf (run w es) = i_name w ∷ i_run ∷ each code_argument es ++ i_end ∷ []
code_leaf (set_run r w es) = code_exp r ++ i_target ∷ i_name w ∷ i_set_run ∷ each code_argument es ++ i_end ∷ []

abbrev pub code_tree : {k : Sort} → Tree k → List Item
code_tree (leaf l) = code_leaf l
code_tree (select os) = i_if ∷ code_tree os ++ i_fi ∷ []
code_tree (loop os) = i_do ∷ code_tree os ++ i_od ∷ []
code_tree (bare a) = code_tree a
code_tree (labelled w a) = i_name w ∷ i_label ∷ code_tree a
code_tree end = []
code_tree (then s q) = code_tree s ++ code_tree q
code_tree over = []
code_tree (option q os) = i_option ∷ code_tree q ++ i_end_option ∷ code_tree os

abbrev pub code_field : ℕ → List Item
code_field k = i_type k ∷ i_field ∷ []

abbrev pub code_size : Option ℕ → List Item
code_size none = []
code_size (some n) = i_number n ∷ i_size ∷ []

abbrev pub code_value : Value → List Item
code_value unset = []
code_value (set_number n) = i_number n ∷ i_value ∷ []
code_value (set_minus n) = i_number n ∷ i_minus ∷ []
code_value set_true = i_true ∷ i_value ∷ []
code_value set_false = i_false ∷ i_value ∷ []
code_value (set_name w) = i_name w ∷ i_named ∷ []
code_value (set_channel n ks) = i_number n ∷ i_channel ∷ each code_field ks

abbrev pub code_variable : Variable → List Item
code_variable (variable w s v) = i_name w ∷ i_declared ∷ code_size s ++ code_value v

-- the mark is `local` or `global`
abbrev pub code_declaration : Item → Declaration → List Item
code_declaration i (declare k xs) = i_type k ∷ i ∷ each code_variable xs

abbrev pub code_parameter : Name → List Item
code_parameter w = i_name w ∷ i_parameter ∷ []

abbrev pub code_group : Group → List Item
code_group (group k ws) = i_type k ∷ i_group ∷ each code_parameter ws

abbrev pub code_body : Body → List Item
code_body (body ds q) = i_body ∷ each (code_declaration i_local) ds ++ code_tree q ++ i_end_body ∷ []

abbrev pub code_activity : Activity → Name → List Item
code_activity idle w = i_name w ∷ i_proctype ∷ []
code_activity once w = i_name w ∷ i_active ∷ []
code_activity (times n) w = i_number n ∷ i_name w ∷ i_active_many ∷ []

abbrev pub code_message : Name → List Item
code_message w = i_name w ∷ i_message ∷ []

abbrev pub code_part : Part → List Item
code_part (mtypes ws) = i_mtypes ∷ each code_message ws
code_part (global d) = code_declaration i_global d
code_part (process a w gs b) = code_activity a w ++ each code_group gs ++ code_body b
code_part (init b) = i_init ∷ code_body b

abbrev pub code : Model → List Item
code m = each code_part m

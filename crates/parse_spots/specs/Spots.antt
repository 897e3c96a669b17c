-- Bridge: what `items-spots` (crate `parse_spots_proof`) holds the parser to.
-- The items of a tree's code, in their order (specs/Code.antt of `parse_code`), each with its token: the index of that token in the text, counted from the first token of the derivation, which is
-- token i. Names, numbers, strings and types have their own; which token a mark has is said in specs/Items.antt of `parse_machine`.
use Rattle.std.specs.Prelude.{ℕ, ◌+◌, List, [], ◌∷◌, ◌++◌, map, length}
use Rattle.base_kinds.specs.Kinds.{Token}
use Rattle.base_codes.specs.Items.{Item, i_active, i_active_many, i_argument, i_assert, i_assign, i_binary, i_body, i_break, i_channel, i_choice, i_constant, i_declared, i_decrement, i_do, i_else, i_end, i_end_body, i_end_option, i_equal, i_express, i_false, i_fi, i_field, i_global, i_goto, i_group, i_if, i_increment, i_index, i_init, i_into, i_label, i_query, i_local, i_message, i_minus, i_mtypes, i_name, i_named, i_number, i_od, i_option, i_otherwise, i_parameter, i_plain, i_proctype, i_receive, i_run, i_send, i_set_run, i_size, i_skip, i_target, i_text, i_timeout, i_true, i_type, i_unary, i_value}
use Rattle.spec_grammar.specs.Tree.{Name, Expr, Received, Leaf, Sort, Tree, Value, Variable, Declaration, Group, Body, Activity, Part, Model}
use Rattle.spec_grammar.specs.Grammar.{Listed, one, more, MaybeListed, no_list, a_list, Message, commas, call, AName, a_name, AType, a_type, E, e_plain, e_index, e_number, e_true, e_false, e_query, e_group, e_choice, e_unary, e_binary, e_up, AnExpression, AReceived, r_into, r_eval, r_number, r_true, r_false}
use Rattle.spec_grammar.specs.Grammar.{ALeaf, s_express, s_assign, s_increment, s_decrement, s_send, s_receive, s_assert, s_print_alone, s_print, s_skip, s_goto, s_break, s_timeout, s_else, s_run, s_set_run, D, s_leaf, s_if, s_do, s_bare, s_label, q_last, q_then, o_last, o_also}
use Rattle.spec_grammar.specs.Grammar.{AValue, v_number, v_minus, v_true, v_false, v_name, AVariable, x_bare, x_set, x_array, x_array_set, x_channel, ADeclaration, declaration, AGroup, a_group, Items, statements, declared, ABody, a_body, AnActivity, not_active, active, active_times, AUnit, u_mtypes, u_global, u_process, u_init, Gram, g_last, g_more}

-- an item and its token
abbrev pub Spot : Type 0
Spot = Item × ℕ

-- the items and the tokens of such a list
abbrev pub items : List Spot → List Item
items l = map (λ (x : Spot). x.0) l

abbrev pub tokens : List Spot → List ℕ
tokens l = map (λ (x : Spot). x.1) l

-- ## lists, with f at each member
module _ {A : Type 0} (X : List Token → A → Type 0) (f : (ts : List Token) (a : A) → X ts a → ℕ → List Spot) where
  abbrev pub spots_listed : {s : Token} {ts : List Token} {l : List A} → Listed s X ts l → ℕ → List Spot
  spots_listed (one {ts = ts} {a = a} x) i = f ts a x i ++ []
  spots_listed (more {ts = ts} {a = a} x y) i = f ts a x i ++ spots_listed y (i + length ts + 1)

  abbrev pub spots_maybe : {s : Token} {ts : List Token} {l : List A} → MaybeListed s X ts l → ℕ → List Spot
  spots_maybe no_list i = []
  spots_maybe (a_list x) i = spots_listed x i

  abbrev pub spots_message : {ts : List Token} {l : List A} → Message X ts l → ℕ → List Spot
  spots_message (commas x) i = spots_listed x i
  spots_message (call {ts = ts} {a = a} x y) i = f ts a x i ++ spots_listed y (i + length ts + 1)

-- ## expressions
abbrev pub spots_exp : {l : ℕ} {ts : List Token} {e : Expr} → E l ts e → ℕ → List Spot
spots_exp (e_plain {w = w}) i = (i_name w, i) ∷ (i_plain, i + 1) ∷ []
spots_exp (e_index {w = w} x) i = (i_name w, i) ∷ spots_exp x (i + 2) ++ (i_index, i + 1) ∷ []
spots_exp (e_number {n = n}) i = (i_number n, i) ∷ []
spots_exp e_true i = (i_true, i) ∷ []
spots_exp e_false i = (i_false, i) ∷ []
spots_exp (e_query {o = o} q x) i = spots_exp x (i + 2) ++ (i_query o, i) ∷ []
spots_exp (e_group x) i = spots_exp x (i + 1)
spots_exp (e_choice {xs = xs} {ys = ys} x y z) i =
    spots_exp x (i + 1) ++ spots_exp y (i + length xs + 2) ++ (i_otherwise, i + length xs + 1) ∷ spots_exp z (i + length xs + length ys + 3) ++ (i_choice, i + length xs + 1) ∷ []
spots_exp (e_unary {o = o} q x) i = spots_exp x (i + 1) ++ (i_unary o, i) ∷ []
spots_exp (e_binary {o = o} {xs = xs} q x y) i = spots_exp x i ++ spots_exp y (i + length xs + 1) ++ (i_binary o, i + length xs) ∷ []
spots_exp (e_up x) i = spots_exp x i

abbrev pub spots_argument : (ts : List Token) (e : Expr) → AnExpression ts e → ℕ → List Spot
spots_argument ts e x i = spots_exp x i ++ (i_argument, i) ∷ []

abbrev pub spots_received : (ts : List Token) (r : Received) → AReceived ts r → ℕ → List Spot
spots_received _ _ (r_into x) i = spots_exp x i ++ (i_into, i) ∷ []
spots_received _ _ (r_eval x) i = spots_exp x (i + 2) ++ (i_equal, i) ∷ []
spots_received _ _ (r_number {n = n}) i = (i_number n, i) ∷ (i_constant, i) ∷ []
spots_received _ _ r_true i = (i_true, i) ∷ (i_constant, i) ∷ []
spots_received _ _ r_false i = (i_false, i) ∷ (i_constant, i) ∷ []

-- ## statements
abbrev pub spots_leaf : {ts : List Token} {l : Leaf} → ALeaf ts l → ℕ → List Spot
spots_leaf (s_express x) i = spots_exp x i ++ (i_express, i) ∷ []
spots_leaf (s_assign {ts = ts} x y) i = spots_exp x i ++ (i_target, i) ∷ spots_exp y (i + length ts + 1) ++ (i_assign, i + length ts + 1) ∷ []
spots_leaf (s_increment x) i = spots_exp x i ++ (i_increment, i) ∷ []
spots_leaf (s_decrement x) i = spots_exp x i ++ (i_decrement, i) ∷ []
spots_leaf (s_send {o = o} {ts = ts} q x y) i = spots_exp x i ++ (i_send o, i) ∷ spots_message AnExpression spots_argument y (i + length ts + 1) ++ (i_end, i) ∷ []
spots_leaf (s_receive {o = o} {ts = ts} q x y) i = spots_exp x i ++ (i_receive o, i) ∷ spots_message AReceived spots_received y (i + length ts + 1) ++ (i_end, i) ∷ []
spots_leaf (s_assert x) i = spots_exp x (i + 2) ++ (i_assert, i) ∷ []
spots_leaf (s_print_alone {w = w}) i = (i_text w, i + 2) ∷ [] ++ (i_end, i) ∷ []
spots_leaf (s_print {w = w} x) i = (i_text w, i + 2) ∷ spots_listed AnExpression spots_argument x (i + 4) ++ (i_end, i) ∷ []
spots_leaf s_skip i = (i_skip, i) ∷ []
spots_leaf (s_goto {w = w}) i = (i_name w, i + 1) ∷ (i_goto, i) ∷ []
spots_leaf s_break i = (i_break, i) ∷ []
spots_leaf s_timeout i = (i_timeout, i) ∷ []
spots_leaf s_else i = (i_else, i) ∷ []
spots_leaf (s_run {w = w} x) i = (i_name w, i + 1) ∷ (i_run, i) ∷ spots_maybe AnExpression spots_argument x (i + 3) ++ (i_end, i) ∷ []
spots_leaf (s_set_run {ts = ts} {w = w} x y) i =
    spots_exp x i ++ (i_target, i) ∷ (i_name w, i + length ts + 2) ∷ (i_set_run, i + length ts + 1) ∷ spots_maybe AnExpression spots_argument y (i + length ts + 4) ++ (i_end, i + length ts + 1) ∷ []

abbrev pub spots_tree : {k : Sort} {ts : List Token} {t : Tree k} → D k ts t → ℕ → List Spot
spots_tree (s_leaf x) i = spots_leaf x i
spots_tree (s_if x) i = (i_if, i) ∷ spots_tree x (i + 1) ++ (i_fi, i) ∷ []
spots_tree (s_do x) i = (i_do, i) ∷ spots_tree x (i + 1) ++ (i_od, i) ∷ []
spots_tree (s_bare x) i = spots_tree x i
spots_tree (s_label {w = w} x) i = (i_name w, i) ∷ (i_label, i) ∷ spots_tree x (i + 2)
spots_tree (q_last x u) i = spots_tree x i ++ []
spots_tree (q_then {ts = ts} {us = us} x u y) i = spots_tree x i ++ spots_tree y (i + length ts + length us)
spots_tree (o_last x) i = (i_option, i) ∷ spots_tree x (i + 1) ++ (i_end_option, i) ∷ []
spots_tree (o_also {ts = ts} x y) i = (i_option, i) ∷ spots_tree x (i + 1) ++ (i_end_option, i) ∷ spots_tree y (i + length ts + 1)

-- ## declarations
abbrev pub spots_field : (ts : List Token) (k : ℕ) → AType ts k → ℕ → List Spot
spots_field ts k x i = (i_type k, i) ∷ (i_field, i) ∷ []

abbrev pub spots_value : {ts : List Token} {v : Value} → AValue ts v → ℕ → List Spot
spots_value (v_number {n = n}) i = (i_number n, i) ∷ (i_value, i) ∷ []
spots_value (v_minus {n = n}) i = (i_number n, i + 1) ∷ (i_minus, i) ∷ []
spots_value v_true i = (i_true, i) ∷ (i_value, i) ∷ []
spots_value v_false i = (i_false, i) ∷ (i_value, i) ∷ []
spots_value (v_name {w = w}) i = (i_name w, i) ∷ (i_named, i) ∷ []

abbrev pub spots_variable : (k : ℕ) (ts : List Token) (x : Variable) → AVariable k ts x → ℕ → List Spot
spots_variable _ _ _ (x_bare {w = w}) i = (i_name w, i) ∷ (i_declared, i) ∷ []
spots_variable _ _ _ (x_set {w = w} y) i = (i_name w, i) ∷ (i_declared, i) ∷ spots_value y (i + 2)
spots_variable _ _ _ (x_array {w = w} {n = n}) i = (i_name w, i) ∷ (i_declared, i) ∷ (i_number n, i + 2) ∷ (i_size, i + 1) ∷ []
spots_variable _ _ _ (x_array_set {w = w} {n = n} y) i = (i_name w, i) ∷ (i_declared, i) ∷ (i_number n, i + 2) ∷ (i_size, i + 1) ∷ spots_value y (i + 5)
spots_variable _ _ _ (x_channel {w = w} {n = n} y) i = (i_name w, i) ∷ (i_declared, i) ∷ (i_number n, i + 3) ∷ (i_channel, i + 2) ∷ spots_listed AType spots_field y (i + 7)

-- the mark is `local` or `global`
abbrev pub spots_declaration : Item → {ts : List Token} {d : Declaration} → ADeclaration ts d → ℕ → List Spot
spots_declaration j (declaration {k = k} q x) i = (i_type k, i) ∷ (j, i) ∷ spots_listed (AVariable k) (spots_variable k) x (i + 1)

abbrev pub spots_parameter : (ts : List Token) (w : Name) → AName ts w → ℕ → List Spot
spots_parameter ts w x i = (i_name w, i) ∷ (i_parameter, i) ∷ []

abbrev pub spots_group : (ts : List Token) (g : Group) → AGroup ts g → ℕ → List Spot
spots_group _ _ (a_group {k = k} q x) i = (i_type k, i) ∷ (i_group, i) ∷ spots_listed AName spots_parameter x (i + 1)

abbrev pub spots_items : {ts : List Token} {b : Body} → Items ts b → ℕ → List Spot
spots_items (statements x) i = spots_tree x i
spots_items (declared {ts = ts} {us = us} x u y) i = spots_declaration i_local x i ++ spots_items y (i + length ts + length us)

abbrev pub spots_body : {ts : List Token} {b : Body} → ABody ts b → ℕ → List Spot
spots_body (a_body x) i = (i_body, i) ∷ spots_items x (i + 1) ++ (i_end_body, i) ∷ []

-- ## units
abbrev pub spots_activity : Name → {ts : List Token} {a : Activity} → AnActivity ts a → ℕ → List Spot
spots_activity w not_active i = (i_name w, i + 1) ∷ (i_proctype, i) ∷ []
spots_activity w active i = (i_name w, i + 2) ∷ (i_active, i) ∷ []
spots_activity w (active_times {n = n}) i = (i_number n, i + 2) ∷ (i_name w, i + 5) ∷ (i_active_many, i) ∷ []

abbrev pub spots_message_name : (ts : List Token) (w : Name) → AName ts w → ℕ → List Spot
spots_message_name ts w x i = (i_name w, i) ∷ (i_message, i) ∷ []

abbrev pub spots_unit : {ts : List Token} {u : Part} → AUnit ts u → ℕ → List Spot
spots_unit (u_mtypes x) i = (i_mtypes, i) ∷ spots_listed AName spots_message_name x (i + 3)
spots_unit (u_global x) i = spots_declaration i_global x i
spots_unit (u_process {xs = xs} {ts = ts} {w = w} x y z) i =
    spots_activity w x i ++ spots_maybe AGroup spots_group y (i + length xs + 3) ++ spots_body z (i + length xs + length ts + 4)
spots_unit (u_init x) i = (i_init, i) ∷ spots_body x (i + 1)

-- THE ITEMS OF A MODEL with their tokens
abbrev pub spots : {ts : List Token} {m : Model} → Gram ts m → ℕ → List Spot
spots (g_last x u) i = spots_unit x i ++ []
spots (g_more {ts = ts} {us = us} x u y) i = spots_unit x i ++ spots y (i + length ts + length us)

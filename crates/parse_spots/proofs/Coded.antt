-- THE ITEMS OF A DERIVATION are those of its tree's code.
use mathlib.Core.Path.{◌≡◌, refl, ap, ap₂, sym, ◌∙◌}
use mathlib.Core.List.{List, [], ◌∷◌, ◌++◌, map-append, append-nil, append_assoc}
use Prim.Native.Nat.{ℕ, ◌+◌}
use lib.ListN.{length}
use Rattle.base_kinds.specs.Kinds.{Token}
use Rattle.base_codes.specs.Items.{Item, i_local}
use Rattle.spec_grammar.specs.Tree.{Name, Expr, Received, Leaf, Sort, Tree, Value, Variable, Declaration, Group, Body, body, Activity, Part, Model}
use Rattle.spec_grammar.specs.Grammar.{Listed, one, more, MaybeListed, no_list, a_list, Message, commas, call, AName, a_name, AType, a_type, E, e_plain, e_index, e_number, e_true, e_false, e_query, e_group, e_choice, e_unary, e_binary, e_up, AnExpression, AReceived, r_into, r_eval, r_number, r_true, r_false}
use Rattle.spec_grammar.specs.Grammar.{ALeaf, s_express, s_assign, s_increment, s_decrement, s_send, s_receive, s_assert, s_print_alone, s_print, s_skip, s_goto, s_break, s_timeout, s_else, s_run, s_set_run, D, s_leaf, s_if, s_do, s_bare, s_label, q_last, q_then, o_last, o_also}
use Rattle.spec_grammar.specs.Grammar.{AValue, v_number, v_minus, v_true, v_false, v_name, AVariable, x_bare, x_set, x_array, x_array_set, x_channel, ADeclaration, declaration, AGroup, a_group, Items, statements, declared, ABody, a_body, AnActivity, not_active, active, active_times, AUnit, u_mtypes, u_global, u_process, u_init, Gram, g_last, g_more}
use Rattle.parse_code.specs.Code.{each, code_exp, code_argument, code_received, code_leaf, code_tree, code_field, code_value, code_variable, code_declaration, code_parameter, code_group, code_body, code_activity, code_message, code_part, code}
use Rattle.parse_spots.specs.Spots.{Spot, items, spots_listed, spots_maybe, spots_message, spots_exp, spots_argument, spots_received, spots_leaf, spots_tree, spots_field, spots_value, spots_variable, spots_declaration, spots_parameter, spots_group, spots_items, spots_body, spots_activity, spots_message_name, spots_unit, spots}

-- ## lists
module _ {A : Type 0} (X : List Token → A → Type 0) (f : (ts : List Token) (a : A) → X ts a → ℕ → List Spot) (c : A → List Item) (same : (ts : List Token) (a : A) (x : X ts a) (i : ℕ) → items (f ts a x i) ≡ c a) where
  pub listed-code : {s : Token} {ts : List Token} {l : List A} (x : Listed s X ts l) (i : ℕ) → items (spots_listed X f x i) ≡ each c l
  listed-code (one {ts = ts} {a = a} x) i = simp (map-append, same ts a x i)
  listed-code (more {ts = ts} {a = a} {l = l} x y) i = simp (map-append, same ts a x i, listed-code y (i + length ts + 1))

  pub maybe_code : {s : Token} {ts : List Token} {l : List A} (x : MaybeListed s X ts l) (i : ℕ) → items (spots_maybe X f x i) ≡ each c l
  maybe_code no_list i = refl
  maybe_code (a_list x) i = listed-code x i

  pub message-code : {ts : List Token} {l : List A} (x : Message X ts l) (i : ℕ) → items (spots_message X f x i) ≡ each c l
  message-code (commas x) i = listed-code x i
  message-code (call {ts = ts} {a = a} {l = l} x y) i = simp (map-append, same ts a x i, listed-code y (i + length ts + 1))

-- ## expressions
pub exp_code : {l : ℕ} {ts : List Token} {e : Expr} (x : E l ts e) (i : ℕ) → items (spots_exp x i) ≡ code_exp e
exp_code e_plain i = refl
exp_code (e_index x) i = simp (map-append, exp_code x (i + 2))
exp_code e_number i = refl
exp_code e_true i = refl
exp_code e_false i = refl
exp_code (e_query q x) i = simp (map-append, exp_code x (i + 2))
exp_code (e_group x) i = exp_code x (i + 1)
exp_code (e_choice {xs = xs} {ys = ys} x y z) i = simp (map-append, exp_code x (i + 1), exp_code y (i + length xs + 2), exp_code z (i + length xs + length ys + 3))
exp_code (e_unary q x) i = simp (map-append, exp_code x (i + 1))
exp_code (e_binary {xs = xs} q x y) i = simp (map-append, exp_code x i, exp_code y (i + length xs + 1))
exp_code (e_up x) i = exp_code x i

argument-code : (ts : List Token) (e : Expr) (x : AnExpression ts e) (i : ℕ) → items (spots_argument ts e x i) ≡ code_argument e
argument-code ts e x i = simp (map-append, exp_code x i)

received-code : (ts : List Token) (r : Received) (x : AReceived ts r) (i : ℕ) → items (spots_received ts r x i) ≡ code_received r
received-code _ _ (r_into x) i = simp (map-append, exp_code x i)
received-code _ _ (r_eval x) i = simp (map-append, exp_code x (i + 2))
received-code _ _ r_number i = refl
received-code _ _ r_true i = refl
received-code _ _ r_false i = refl

-- ## statements
abbrev arguments : {s : Token} {ts : List Token} {l : List Expr} (x : Listed s AnExpression ts l) (i : ℕ) → items (spots_listed AnExpression spots_argument x i) ≡ each code_argument l
arguments x i = listed-code AnExpression spots_argument code_argument argument-code x i

pub leaf-code : {ts : List Token} {l : Leaf} (x : ALeaf ts l) (i : ℕ) → items (spots_leaf x i) ≡ code_leaf l
leaf-code (s_express x) i = simp (map-append, exp_code x i)
leaf-code (s_assign {ts = ts} x y) i = simp (map-append, exp_code x i, exp_code y (i + length ts + 1))
leaf-code (s_increment x) i = simp (map-append, exp_code x i)
leaf-code (s_decrement x) i = simp (map-append, exp_code x i)
leaf-code (s_send {ts = ts} q x y) i = simp (map-append, exp_code x i, message-code AnExpression spots_argument code_argument argument-code y (i + length ts + 1))
leaf-code (s_receive {ts = ts} q x y) i = simp (map-append, exp_code x i, message-code AReceived spots_received code_received received-code y (i + length ts + 1))
leaf-code (s_assert x) i = simp (map-append, exp_code x (i + 2))
leaf-code s_print_alone i = refl
leaf-code (s_print x) i = simp (map-append, arguments x (i + 4))
leaf-code s_skip i = refl
leaf-code s_goto i = refl
leaf-code s_break i = refl
leaf-code s_timeout i = refl
leaf-code s_else i = refl
leaf-code (s_run x) i = simp (map-append, maybe_code AnExpression spots_argument code_argument argument-code x (i + 3))
leaf-code (s_set_run {ts = ts} x y) i = simp (map-append, exp_code x i, maybe_code AnExpression spots_argument code_argument argument-code y (i + length ts + 4))

pub tree_code : {k : Sort} {ts : List Token} {t : Tree k} (x : D k ts t) (i : ℕ) → items (spots_tree x i) ≡ code_tree t
tree_code (s_leaf x) i = leaf-code x i
tree_code (s_if x) i = simp (map-append, tree_code x (i + 1))
tree_code (s_do x) i = simp (map-append, tree_code x (i + 1))
tree_code (s_bare x) i = tree_code x i
tree_code (s_label x) i = simp (tree_code x (i + 2))
tree_code (q_last x u) i = simp (append-nil, tree_code x i)
tree_code (q_then {ts = ts} {us = us} x u y) i = simp (map-append, tree_code x i, tree_code y (i + length ts + length us))
tree_code (o_last x) i = simp (map-append, tree_code x (i + 1))
tree_code (o_also {ts = ts} x y) i = simp (map-append, tree_code x (i + 1), tree_code y (i + length ts + 1))

-- ## declarations
field-code : (ts : List Token) (k : ℕ) (x : AType ts k) (i : ℕ) → items (spots_field ts k x i) ≡ code_field k
field-code ts k x i = refl

value_code : {ts : List Token} {v : Value} (x : AValue ts v) (i : ℕ) → items (spots_value x i) ≡ code_value v
value_code v_number i = refl
value_code v_minus i = refl
value_code v_true i = refl
value_code v_false i = refl
value_code v_name i = refl

pub variable_code : (k : ℕ) (ts : List Token) (v : Variable) (x : AVariable k ts v) (i : ℕ) → items (spots_variable k ts v x i) ≡ code_variable v
variable_code _ _ _ x_bare i = refl
variable_code _ _ _ (x_set y) i = simp (value_code y (i + 2))
variable_code _ _ _ x_array i = refl
variable_code _ _ _ (x_array_set y) i = simp (value_code y (i + 5))
variable_code _ _ _ (x_channel y) i = simp (listed-code AType spots_field code_field field-code y (i + 7))

pub declaration_code : (j : Item) {ts : List Token} {d : Declaration} (x : ADeclaration ts d) (i : ℕ) → items (spots_declaration j x i) ≡ code_declaration j d
declaration_code j (declaration {k = k} q x) i = simp (listed-code (AVariable k) (spots_variable k) code_variable (variable_code k) x (i + 1))

parameter_code : (ts : List Token) (w : Name) (x : AName ts w) (i : ℕ) → items (spots_parameter ts w x i) ≡ code_parameter w
parameter_code ts w x i = refl

pub group-code : (ts : List Token) (g : Group) (x : AGroup ts g) (i : ℕ) → items (spots_group ts g x i) ≡ code_group g
group-code _ _ (a_group q x) i = simp (listed-code AName spots_parameter code_parameter parameter_code x (i + 1))

-- a body without its marks
abbrev pub code_items : Body → List Item
code_items (body ds q) = each (code_declaration i_local) ds ++ code_tree q

pub items-code : {ts : List Token} {b : Body} (x : Items ts b) (i : ℕ) → items (spots_items x i) ≡ code_items b
items-code (statements x) i = tree_code x i
items-code (declared {ts = ts} {us = us} x u y) i = simp (map-append, append_assoc, declaration_code i_local x i, items-code y (i + length ts + length us))

pub body_code : {ts : List Token} {b : Body} (x : ABody ts b) (i : ℕ) → items (spots_body x i) ≡ code_body b
body_code {b = body ds q} (a_body x) i = simp (map-append, items-code x (i + 1))

-- ## units
activity_code : (w : Name) {ts : List Token} {a : Activity} (x : AnActivity ts a) (i : ℕ) → items (spots_activity w x i) ≡ code_activity a w
activity_code w not_active i = refl
activity_code w active i = refl
activity_code w active_times i = refl

message_name_code : (ts : List Token) (w : Name) (x : AName ts w) (i : ℕ) → items (spots_message_name ts w x i) ≡ code_message w
message_name_code ts w x i = refl

pub unit-code : {ts : List Token} {u : Part} (x : AUnit ts u) (i : ℕ) → items (spots_unit x i) ≡ code_part u
unit-code (u_mtypes x) i = simp (listed-code AName spots_message_name code_message message_name_code x (i + 3))
unit-code (u_global x) i = declaration_code _ x i
unit-code (u_process {xs = xs} {ts = ts} {w = w} x y z) i = simp (map-append, activity_code w x i, maybe_code AGroup spots_group code_group group-code y (i + length xs + 3), body_code z (i + length xs + length ts + 4))
unit-code (u_init x) i = simp (body_code x (i + 1))

pub spots-code : {ts : List Token} {m : Model} (x : Gram ts m) (i : ℕ) → items (spots x i) ≡ code m
spots-code (g_last x u) i = simp (append-nil, unit-code x i)
spots-code (g_more {ts = ts} {us = us} x u y) i = simp (map-append, unit-code x i, spots-code y (i + length ts + length us))

-- Declarations, units, models: what the grammar says, the grammar as data derives.
use mathlib.Core.Path.{◌≡◌, refl}
use mathlib.Core.List.{List, [], ◌∷◌, ◌++◌, append_assoc, append-nil}
use Prim.Native.Nat.{ℕ}
use native.Mathlib.Omega.{arith}
use Rattle.base_kinds.specs.Kinds.{Token, sym}
use Rattle.spec_grammar.specs.Marks.{'lpar, 'rpar, 'rbrace, 'comma, 'semi}
use Rattle.spec_grammar.specs.Tree.{Name, Value, Variable, Declaration, Group, Body, Part, Model}
use Rattle.spec_grammar.specs.Grammar.{Listed, MaybeListed, no_list, a_list, Semicolons, no_semi, semi, Trailing, none_trails, semi_trails, arrow_trails, Parted, by_semi, by_arrow, AName, a_name, IsType, is_bit, is_bool, is_byte, is_mtype, is_pid, is_chan, is_short, is_int, AType, a_type, AValue, v_number, v_minus, v_true, v_false, v_name, AVariable, x_bare, x_set, x_array, x_array_set, x_channel, ADeclaration, declaration, AGroup, a_group, Items, statements, declared, ABody, a_body, not_active, active, active_times, AUnit, u_mtypes, u_global, u_process, u_init, Gram, g_last, g_more}
use Rattle.base_codes.specs.Items.{Item, i_body, i_end_body, i_field, i_global, i_group, i_local, i_type}
use Rattle.parse_code.specs.Code.{each, code_tree, code_field, code_value, code_variable, code_declaration, code_parameter, code_group, code_body, code_message, code_part, code}
use Rattle.parse_grammar.specs.Engine.{nt, act, here, there, L, done, emit, eat, by}
use Rattle.parse_grammar.specs.Productions.{n_type, n_value, n_variable, n_more_variables, n_chan_variable, n_field, n_more_fields, n_more_chan_variables, n_declaration, n_body, n_items, n_parted, n_more_parted, n_parameters, n_group, n_more_groups, n_parameter, n_more_parameters, n_unit, n_message, n_more_messages, n_process, n_model, n_more_units, Right, key, G}
use Rattle.parse_grammar.proofs.LinkS.{Derives, list_in, d_in}
use Rattle.parse_grammar.proofs.Meaning.{code_items, code_body_items}

-- types
type_in : {t : ℕ} → IsType t → Derives (nt n_type ∷ []) (sym t ∷ []) (i_type t ∷ [])
type_in is_bit = λ k w o d. by here (by here (eat refl (emit d)))
type_in is_bool = λ k w o d. by here (by (there here) (eat refl (emit d)))
type_in is_byte = λ k w o d. by here (by (there (there here)) (eat refl (emit d)))
type_in is_pid = λ k w o d. by here (by (there (there (there here))) (eat refl (emit d)))
type_in is_short = λ k w o d. by here (by (there (there (there (there here)))) (eat refl (emit d)))
type_in is_int = λ k w o d. by here (by (there (there (there (there (there here))))) (eat refl (emit d)))
type_in is_mtype = λ k w o d. by (there here) (eat refl (emit d))
type_in is_chan = λ k w o d. by (there (there here)) (eat refl (emit d))

field_in : (ts : List Token) (t : ℕ) → AType ts t → Derives (nt n_field ∷ []) ts (code_field t)
field_in ts t (a_type x) = λ k w o d. by here (type_in x (act i_field ∷ k) w (i_field ∷ o) (emit d))

-- declarations
value_in : {ts : List Token} {v : Value} → AValue ts v → Derives (nt n_value ∷ []) ts (code_value v)
value_in v_number = λ k w o d. by here (eat refl (emit d))
value_in v_minus = λ k w o d. by (there here) (eat refl (eat refl (emit d)))
value_in v_true = λ k w o d. by (there (there here)) (eat refl (emit (emit d)))
value_in v_false = λ k w o d. by (there (there (there here))) (eat refl (emit (emit d)))
value_in v_name = λ k w o d. by (there (there (there (there here)))) (eat refl (emit d))

variable_in : {t : ℕ} → (t ≡ 43 → ⊥) → (ts : List Token) (x : Variable) → AVariable t ts x → Derives (nt n_variable ∷ []) ts (code_variable x)
variable_in h ts x x_bare = λ k w o d. by here (eat refl (emit (by here (by here d))))
variable_in h ts x (x_set v) = λ k w o d. by here (eat refl (emit (by here (by (there here) (eat refl (value_in v k w o d))))))
variable_in h ts x x_array = λ k w o d. by here (eat refl (emit (by (there here) (eat refl (eat refl (eat refl (emit (by here d))))))))
variable_in h ts x (x_array_set v) = λ k w o d. by here (eat refl (emit (by (there here) (eat refl (eat refl (eat refl (emit (by (there here) (eat refl (value_in v k w o d))))))))))
variable_in h ts x (x_channel y) = absurd (h refl)

channel_in : {t : ℕ} (ts : List Token) (x : Variable) → AVariable t ts x → Derives (nt n_chan_variable ∷ []) ts (code_variable x)
channel_in ts x x_bare = λ k w o d. by here (eat refl (emit (by here d)))
channel_in ts x (x_set v) = λ k w o d. by here (eat refl (emit (by (there (there here)) (eat refl (by here (value_in v k w o d))))))
channel_in ts x x_array = λ k w o d. by here (eat refl (emit (by (there here) (eat refl (eat refl (eat refl (emit (by here d))))))))
channel_in ts x (x_array_set v) = λ k w o d. by here (eat refl (emit (by (there here) (eat refl (eat refl (eat refl (emit (by (there here) (eat refl (value_in v k w o d))))))))))
channel_in ts x (x_channel y) = λ k w o d.
    simp append_assoc (by here (eat refl (emit (by (there (there here)) (eat refl (by (there here) (eat refl (eat refl (eat refl (emit (eat refl (eat refl
    (list_in 'comma n_field n_more_fields AType code_field refl here (there here) field_in y (key 'rbrace ∷ k) ('rbrace ∷ w) o (eat refl d))))))))))))))

variables_in : (t : ℕ) → (t ≡ 43 → ⊥) → {ts : List Token} {xs : List Variable} → Listed 'comma (AVariable t) ts xs → Derives (nt n_variable ∷ nt n_more_variables ∷ []) ts (each code_variable xs)
variables_in t h y = list_in 'comma n_variable n_more_variables (AVariable t) code_variable refl here (there here) (variable_in h) y

channels_in : {t : ℕ} {ts : List Token} {xs : List Variable} → Listed 'comma (AVariable t) ts xs → Derives (nt n_chan_variable ∷ nt n_more_chan_variables ∷ []) ts (each code_variable xs)
channels_in {t} y = list_in 'comma n_chan_variable n_more_chan_variables (AVariable t) code_variable refl here (there here) channel_in y

declaration_in : {ts : List Token} {x : Declaration} → ADeclaration ts x → Derives (nt n_declaration ∷ []) ts (code_declaration i_local x)
declaration_in (declaration is_bit y) = λ k w o d. by here (by here (eat refl (emit (emit (variables_in 38 (λ e. omega arith) y k w o d)))))
declaration_in (declaration is_bool y) = λ k w o d. by here (by (there here) (eat refl (emit (emit (variables_in 39 (λ e. omega arith) y k w o d)))))
declaration_in (declaration is_byte y) = λ k w o d. by here (by (there (there here)) (eat refl (emit (emit (variables_in 40 (λ e. omega arith) y k w o d)))))
declaration_in (declaration is_pid y) = λ k w o d. by here (by (there (there (there here))) (eat refl (emit (emit (variables_in 42 (λ e. omega arith) y k w o d)))))
declaration_in (declaration is_short y) = λ k w o d. by here (by (there (there (there (there here)))) (eat refl (emit (emit (variables_in 44 (λ e. omega arith) y k w o d)))))
declaration_in (declaration is_int y) = λ k w o d. by here (by (there (there (there (there (there here))))) (eat refl (emit (emit (variables_in 45 (λ e. omega arith) y k w o d)))))
declaration_in (declaration is_mtype y) = λ k w o d. by (there here) (eat refl (emit (emit (variables_in 41 (λ e. omega arith) y k w o d))))
declaration_in (declaration is_chan y) = λ k w o d. by (there (there here)) (eat refl (emit (emit (channels_in y k w o d))))

global_in : {ts : List Token} {x : Declaration} → ADeclaration ts x → Derives (nt n_unit ∷ []) ts (code_declaration i_global x)
global_in (declaration is_bit y) = λ k w o d. by here (by here (eat refl (emit (emit (variables_in 38 (λ e. omega arith) y k w o d)))))
global_in (declaration is_bool y) = λ k w o d. by here (by (there here) (eat refl (emit (emit (variables_in 39 (λ e. omega arith) y k w o d)))))
global_in (declaration is_byte y) = λ k w o d. by here (by (there (there here)) (eat refl (emit (emit (variables_in 40 (λ e. omega arith) y k w o d)))))
global_in (declaration is_pid y) = λ k w o d. by here (by (there (there (there here))) (eat refl (emit (emit (variables_in 42 (λ e. omega arith) y k w o d)))))
global_in (declaration is_short y) = λ k w o d. by here (by (there (there (there (there here)))) (eat refl (emit (emit (variables_in 44 (λ e. omega arith) y k w o d)))))
global_in (declaration is_int y) = λ k w o d. by here (by (there (there (there (there (there here))))) (eat refl (emit (emit (variables_in 45 (λ e. omega arith) y k w o d)))))
global_in (declaration is_mtype y) = λ k w o d. by (there here) (eat refl (by (there here) (emit (emit (variables_in 41 (λ e. omega arith) y k w o d)))))
global_in (declaration is_chan y) = λ k w o d. by (there (there here)) (eat refl (emit (emit (channels_in y k w o d))))

-- bodies
separators_in : {us : List Token} → Trailing us → (k : Right) (w : List Token) (o : List Item) → L G (nt n_more_parted ∷ k) w o → L G (nt n_more_parted ∷ k) (us ++ w) o
separators_in none_trails k w o d = d
separators_in (semi_trails u) k w o d = by here (eat refl (separators_in u k w o d))
separators_in (arrow_trails u) k w o d = by (there here) (eat refl (separators_in u k w o d))

between_in : {us : List Token} → Parted us → (k : Right) (w : List Token) (o : List Item) → L G (nt n_items ∷ k) w o → L G (nt n_parted ∷ k) (us ++ w) o
between_in (by_semi u) k w o d = by here (eat refl (separators_in u k w o (by (there (there here)) d)))
between_in (by_arrow u) k w o d = by (there here) (eat refl (separators_in u k w o (by (there (there here)) d)))

items_in : {ts : List Token} {b : Body} → Items ts b → Derives (nt n_items ∷ []) ts (code_items b)
items_in (statements x) = λ k w o d. by (there here) (d_in x k w o d)
items_in (declared {us = us} {vs = vs} {ds = ds} {q = q} x u y) = λ k w o d.
    simp append_assoc (by here (declaration_in x (nt n_parted ∷ k) (us ++ (vs ++ w)) (each (code_declaration i_local) ds ++ (code_tree q ++ o))
    (between_in u k (vs ++ w) (each (code_declaration i_local) ds ++ (code_tree q ++ o)) (simp append_assoc at (items_in y k w o d)))))

body_in : {ts : List Token} {b : Body} → ABody ts b → Derives (nt n_body ∷ []) ts (code_body b)
body_in (a_body {b = b} x) = λ k w o d.
    rw (code_body_items b) (simp append_assoc (by here (eat refl (emit (items_in x (key 'rbrace ∷ act i_end_body ∷ k) ('rbrace ∷ w) (i_end_body ∷ o) (eat refl (emit d)))))))

-- parameters
parameter_in : (ts : List Token) (v : Name) → AName ts v → Derives (nt n_parameter ∷ []) ts (code_parameter v)
parameter_in ts v a_name = λ k w o d. by here (eat refl (emit d))

group_in : (ts : List Token) (g : Group) → AGroup ts g → Derives (nt n_group ∷ []) ts (code_group g)
group_in ts g (a_group {ts = us} {ws = ws} x y) = λ k w o d.
    by here (type_in x (act i_group ∷ nt n_parameter ∷ nt n_more_parameters ∷ k) (us ++ w) (i_group ∷ each code_parameter ws ++ o)
    (emit (list_in 'comma n_parameter n_more_parameters AName code_parameter refl here (there here) parameter_in y k w o d)))

groups_in : {ts : List Token} {gs : List Group} → MaybeListed 'semi AGroup ts gs → Derives (nt n_parameters ∷ []) ts (each code_group gs)
groups_in no_list = λ k w o d. by here d
groups_in (a_list x) = λ k w o d. by (there here) (list_in 'semi n_group n_more_groups AGroup code_group refl here (there here) group_in x k w o d)

process_in : {ts us : List Token} {gs : List Group} {b : Body} → MaybeListed 'semi AGroup ts gs → ABody us b → (k : Right) (w : List Token) (o : List Item) → L G k w o →
    L G (nt n_process ∷ k) ('lpar ∷ (ts ++ ('rpar ∷ (us ++ w)))) (each code_group gs ++ (code_body b ++ o))
process_in {us = us} {b = b} x y k w o d = by here (eat refl (groups_in x (key 'rpar ∷ nt n_body ∷ k) ('rpar ∷ (us ++ w)) (code_body b ++ o) (eat refl (body_in y k w o d))))

message_name_in : (ts : List Token) (v : Name) → AName ts v → Derives (nt n_message ∷ []) ts (code_message v)
message_name_in ts v a_name = λ k w o d. by here (eat refl (emit d))

-- units
unit_in : {ts : List Token} {u : Part} → AUnit ts u → Derives (nt n_unit ∷ []) ts (code_part u)
unit_in (u_mtypes x) = λ k w o d.
    simp append_assoc (by (there here) (eat refl (by here (eat refl (emit (eat refl (list_in 'comma n_message n_more_messages AName code_message refl here (there here) message_name_in x (key 'rbrace ∷ k) ('rbrace ∷ w) o (eat refl d))))))))
unit_in (u_global x) = λ k w o d. global_in x k w o d
unit_in (u_process not_active x y) = λ k w o d. simp append_assoc (by (there (there (there here))) (eat refl (eat refl (emit (process_in x y k w o d)))))
unit_in (u_process active x y) = λ k w o d. simp append_assoc (by (there (there (there (there here)))) (eat refl (by here (eat refl (eat refl (emit (process_in x y k w o d)))))))
unit_in (u_process active_times x y) = λ k w o d.
    simp append_assoc (by (there (there (there (there here)))) (eat refl (by (there here) (eat refl (eat refl (eat refl (eat refl (eat refl (emit (process_in x y k w o d))))))))))
unit_in (u_init x) = λ k w o d. by (there (there (there (there (there here))))) (eat refl (emit (body_in x k w o d)))

semicolons_in : {us : List Token} → Semicolons us → (k : Right) (w : List Token) (o : List Item) → L G (nt n_more_units ∷ k) w o → L G (nt n_more_units ∷ k) (us ++ w) o
semicolons_in no_semi k w o d = d
semicolons_in (semi u) k w o d = by (there here) (eat refl (semicolons_in u k w o d))

gram_in : {ts : List Token} {m : Model} → Gram ts m → Derives (nt n_unit ∷ nt n_more_units ∷ []) ts (code m)
gram_in (g_last {us = us} x u) = λ k w o d. simp append_assoc (unit_in x (nt n_more_units ∷ k) (us ++ w) o (semicolons_in u k w o (by here d)))
gram_in (g_more {us = us} {vs = vs} {m = m} x u y) = λ k w o d.
    simp append_assoc (unit_in x (nt n_more_units ∷ k) (us ++ (vs ++ w)) (code m ++ o) (semicolons_in u k (vs ++ w) (code m ++ o) (by (there (there here)) (gram_in y k w o d))))

-- WHAT THE GRAMMAR SAYS, THE GRAMMAR AS DATA DERIVES, with the code of the tree
pub into_table : {ts : List Token} {m : Model} → Gram ts m → L G (nt n_model ∷ []) ts (code m)
into_table x = by here (simp append-nil at (gram_in x [] [] [] done))

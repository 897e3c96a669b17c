-- Declarations, units, models: what the grammar says, a stack with marks derives, and it writes the items and the tokens that `spots` says.
use mathlib.Core.Path.{◌≡◌, refl}
use mathlib.Core.List.{List, [], ◌∷◌, ◌++◌, append_assoc, append-nil}
use Prim.Native.Nat.{ℕ, ◌+◌}
use native.Mathlib.Omega.{arith}
use lib.ListN.{length, length-append}
use Rattle.base_kinds.specs.Kinds.{Token, sym}
use Rattle.spec_grammar.specs.Marks.{'lpar, 'rpar, 'comma, 'semi}
use Rattle.spec_grammar.specs.Tree.{Name, Value, Variable, Declaration, Group, Body, Part, Model}
use Rattle.spec_grammar.specs.Grammar.{Listed, MaybeListed, no_list, a_list, Semicolons, no_semi, semi, Trailing, none_trails, semi_trails, arrow_trails, Parted, by_semi, by_arrow, AName, a_name, IsType, is_bit, is_bool, is_byte, is_mtype, is_pid, is_chan, is_short, is_int, AType, a_type, AValue, v_number, v_minus, v_true, v_false, v_name, AVariable, x_bare, x_set, x_array, x_array_set, x_channel, ADeclaration, declaration, AGroup, a_group, Items, statements, declared, ABody, a_body, not_active, active, active_times, AUnit, u_mtypes, u_global, u_process, u_init, Gram, g_last, g_more}
use Rattle.base_codes.specs.Items.{i_global, i_local, i_type}
use Rattle.parse_grammar.specs.Engine.{nt, here, there}
use Rattle.parse_grammar.specs.Productions.{n_type, n_value, n_variable, n_more_variables, n_chan_variable, n_field, n_more_fields, n_more_chan_variables, n_declaration, n_body, n_items, n_parted, n_more_parted, n_parameters, n_group, n_more_groups, n_parameter, n_more_parameters, n_unit, n_message, n_more_messages, n_process, n_model, n_more_units}
use Rattle.parse_spots.specs.Spots.{Spot, spots_listed, spots_maybe, spots_field, spots_value, spots_variable, spots_declaration, spots_parameter, spots_group, spots_items, spots_body, spots_message_name, spots_unit, spots}
use Rattle.parse_spots_proof.specs.Marked.{Stack, ◌from◌, M, m_done}
use Rattle.parse_spots_proof.proofs.Expressions.{emit, eat, put, by, fit, to}
use Rattle.parse_spots_proof.proofs.Statements.{Derives, list_in, d_in}

-- ## types
type_in : {t : ℕ} → IsType t → Derives (nt n_type ∷ []) (sym t ∷ []) (λ i. (i_type t, i) ∷ [])
type_in is_bit = λ i p k w o d. by here (by here (eat refl (emit d)))
type_in is_bool = λ i p k w o d. by here (by (there here) (eat refl (emit d)))
type_in is_byte = λ i p k w o d. by here (by (there (there here)) (eat refl (emit d)))
type_in is_pid = λ i p k w o d. by here (by (there (there (there here))) (eat refl (emit d)))
type_in is_short = λ i p k w o d. by here (by (there (there (there (there here)))) (eat refl (emit d)))
type_in is_int = λ i p k w o d. by here (by (there (there (there (there (there here))))) (eat refl (emit d)))
type_in is_mtype = λ i p k w o d. by (there here) (eat refl (emit d))
type_in is_chan = λ i p k w o d. by (there (there here)) (eat refl (emit d))

field_in : (ts : List Token) (t : ℕ) (x : AType ts t) → Derives (nt n_field ∷ []) ts (spots_field ts t x)
field_in ts t (a_type x) = λ i p k w o d. by here (type_in x i _ _ _ _ (emit d))

-- ## declarations
value_in : {ts : List Token} {v : Value} (x : AValue ts v) → Derives (nt n_value ∷ []) ts (spots_value x)
value_in v_number = λ i p k w o d. by here (put refl (emit d))
value_in v_minus = λ i p k w o d. by (there here) (eat refl (put refl (emit (fit d (omega arith)))))
value_in v_true = λ i p k w o d. by (there (there here)) (eat refl (emit (emit d)))
value_in v_false = λ i p k w o d. by (there (there (there here))) (eat refl (emit (emit d)))
value_in v_name = λ i p k w o d. by (there (there (there (there here)))) (put refl (emit d))

variable_in : {t : ℕ} → (t ≡ 43 → ⊥) → (ts : List Token) (v : Variable) (x : AVariable t ts v) → Derives (nt n_variable ∷ []) ts (spots_variable t ts v x)
variable_in h ts v x_bare = λ i p k w o d. by here (put refl (emit (by here (by here d))))
variable_in h ts v (x_set x) = λ i p k w o d. by here (put refl (emit (by here (by (there here) (eat refl (to (i + 2) (omega arith) (value_in x (i + 2) _ _ _ _ (fit d (omega arith)))))))))
variable_in h ts v x_array = λ i p k w o d. by here (put refl (emit (by (there here) (eat refl (to (i + 2) (omega arith) (put refl (eat refl (emit (by here (fit d (omega arith)))))))))))
variable_in h ts v (x_array_set x) = λ i p k w o d.
    by here (put refl (emit (by (there here) (eat refl (to (i + 2) (omega arith) (put refl (eat refl (emit (by (there here) (eat refl (to (i + 5) (omega arith) (value_in x (i + 5) _ _ _ _
    (fit d (omega arith))))))))))))))
variable_in h ts v (x_channel x) = absurd (h refl)

channel_in : {t : ℕ} (ts : List Token) (v : Variable) (x : AVariable t ts v) → Derives (nt n_chan_variable ∷ []) ts (spots_variable t ts v x)
channel_in ts v x_bare = λ i p k w o d. by here (put refl (emit (by here d)))
channel_in ts v (x_set x) = λ i p k w o d. by here (put refl (emit (by (there (there here)) (eat refl (by here (to (i + 2) (omega arith) (value_in x (i + 2) _ _ _ _ (fit d (omega arith)))))))))
channel_in ts v x_array = λ i p k w o d. by here (put refl (emit (by (there here) (eat refl (to (i + 2) (omega arith) (put refl (eat refl (emit (by here (fit d (omega arith)))))))))))
channel_in ts v (x_array_set x) = λ i p k w o d.
    by here (put refl (emit (by (there here) (eat refl (to (i + 2) (omega arith) (put refl (eat refl (emit (by (there here) (eat refl (to (i + 5) (omega arith) (value_in x (i + 5) _ _ _ _
    (fit d (omega arith))))))))))))))
channel_in ts v (x_channel x) = λ i p k w o d.
    simp append_assoc (by here (put refl (emit (by (there (there here)) (eat refl (to (i + 2) (omega arith) (by (there here) (eat refl (to (i + 3) (omega arith) (put refl (eat refl (emit (eat refl
    (eat refl (to (i + 7) (omega arith)
    (list_in n_field n_more_fields AType spots_field field_in 'comma refl here (there here) x (i + 7) _ _ _ _ (eat refl (fit d (simp length-append (omega arith))))))))))))))))))))

variables_in : (t : ℕ) → (t ≡ 43 → ⊥) → {ts : List Token} {vs : List Variable} (x : Listed 'comma (AVariable t) ts vs) →
    Derives (nt n_variable ∷ nt n_more_variables ∷ []) ts (spots_listed (AVariable t) (spots_variable t) x)
variables_in t h x = list_in n_variable n_more_variables (AVariable t) (spots_variable t) (variable_in h) 'comma refl here (there here) x

channels_in : {t : ℕ} {ts : List Token} {vs : List Variable} (x : Listed 'comma (AVariable t) ts vs) →
    Derives (nt n_chan_variable ∷ nt n_more_chan_variables ∷ []) ts (spots_listed (AVariable t) (spots_variable t) x)
channels_in {t} x = list_in n_chan_variable n_more_chan_variables (AVariable t) (spots_variable t) channel_in 'comma refl here (there here) x

declaration_in : {ts : List Token} {v : Declaration} (x : ADeclaration ts v) → Derives (nt n_declaration ∷ []) ts (spots_declaration i_local x)
declaration_in (declaration is_bit x) = λ i p k w o d. by here (by here (eat refl (emit (emit (variables_in 38 (λ e. omega arith) x (i + 1) _ k w o (fit d (omega arith)))))))
declaration_in (declaration is_bool x) = λ i p k w o d. by here (by (there here) (eat refl (emit (emit (variables_in 39 (λ e. omega arith) x (i + 1) _ k w o (fit d (omega arith)))))))
declaration_in (declaration is_byte x) = λ i p k w o d. by here (by (there (there here)) (eat refl (emit (emit (variables_in 40 (λ e. omega arith) x (i + 1) _ k w o (fit d (omega arith)))))))
declaration_in (declaration is_pid x) = λ i p k w o d. by here (by (there (there (there here))) (eat refl (emit (emit (variables_in 42 (λ e. omega arith) x (i + 1) _ k w o (fit d (omega arith)))))))
declaration_in (declaration is_short x) = λ i p k w o d.
    by here (by (there (there (there (there here)))) (eat refl (emit (emit (variables_in 44 (λ e. omega arith) x (i + 1) _ k w o (fit d (omega arith)))))))
declaration_in (declaration is_int x) = λ i p k w o d.
    by here (by (there (there (there (there (there here))))) (eat refl (emit (emit (variables_in 45 (λ e. omega arith) x (i + 1) _ k w o (fit d (omega arith)))))))
declaration_in (declaration is_mtype x) = λ i p k w o d. by (there here) (eat refl (emit (emit (variables_in 41 (λ e. omega arith) x (i + 1) _ k w o (fit d (omega arith))))))
declaration_in (declaration is_chan x) = λ i p k w o d. by (there (there here)) (eat refl (emit (emit (channels_in x (i + 1) _ k w o (fit d (omega arith))))))

global_in : {ts : List Token} {v : Declaration} (x : ADeclaration ts v) → Derives (nt n_unit ∷ []) ts (spots_declaration i_global x)
global_in (declaration is_bit x) = λ i p k w o d. by here (by here (eat refl (emit (emit (variables_in 38 (λ e. omega arith) x (i + 1) _ k w o (fit d (omega arith)))))))
global_in (declaration is_bool x) = λ i p k w o d. by here (by (there here) (eat refl (emit (emit (variables_in 39 (λ e. omega arith) x (i + 1) _ k w o (fit d (omega arith)))))))
global_in (declaration is_byte x) = λ i p k w o d. by here (by (there (there here)) (eat refl (emit (emit (variables_in 40 (λ e. omega arith) x (i + 1) _ k w o (fit d (omega arith)))))))
global_in (declaration is_pid x) = λ i p k w o d. by here (by (there (there (there here))) (eat refl (emit (emit (variables_in 42 (λ e. omega arith) x (i + 1) _ k w o (fit d (omega arith)))))))
global_in (declaration is_short x) = λ i p k w o d.
    by here (by (there (there (there (there here)))) (eat refl (emit (emit (variables_in 44 (λ e. omega arith) x (i + 1) _ k w o (fit d (omega arith)))))))
global_in (declaration is_int x) = λ i p k w o d.
    by here (by (there (there (there (there (there here))))) (eat refl (emit (emit (variables_in 45 (λ e. omega arith) x (i + 1) _ k w o (fit d (omega arith)))))))
global_in (declaration is_mtype x) = λ i p k w o d. by (there here) (eat refl (by (there here) (emit (emit (variables_in 41 (λ e. omega arith) x (i + 1) _ k w o (fit d (omega arith)))))))
global_in (declaration is_chan x) = λ i p k w o d. by (there (there here)) (eat refl (emit (emit (channels_in x (i + 1) _ k w o (fit d (omega arith))))))

-- ## bodies
separators_in : {us : List Token} → Trailing us → {i p : ℕ} {k : Stack} {w : List Token} {o : List Spot} → ((q : ℕ) → M (nt n_more_parted from q ∷ k) (i + length us) w o) →
    M (nt n_more_parted from p ∷ k) i (us ++ w) o
separators_in none_trails {p = p} d = fit (d p) (omega arith)
separators_in (semi_trails u) d = by here (eat refl (separators_in u (λ q. fit (d q) (omega arith))))
separators_in (arrow_trails u) d = by (there here) (eat refl (separators_in u (λ q. fit (d q) (omega arith))))

between_in : {us : List Token} → Parted us → {i p : ℕ} {k : Stack} {w : List Token} {o : List Spot} → ((q : ℕ) → M (nt n_items from q ∷ k) (i + length us) w o) →
    M (nt n_parted from p ∷ k) i (us ++ w) o
between_in (by_semi u) d = by here (eat refl (separators_in u (λ q. by (there (there here)) (fit (d _) (omega arith)))))
between_in (by_arrow u) d = by (there here) (eat refl (separators_in u (λ q. by (there (there here)) (fit (d _) (omega arith)))))

items_in : {ts : List Token} {b : Body} (x : Items ts b) → Derives (nt n_items ∷ []) ts (spots_items x)
items_in (statements x) = λ i p k w o d. by (there here) (d_in x i _ k w o d)
items_in (declared {ts = ts} {us = us} x u y) = λ i p k w o d.
    simp append_assoc (by here (declaration_in x i _ _ _ _ (between_in u (λ q. items_in y (i + length ts + length us) q _ _ _ (fit d (simp length-append (omega arith)))))))

body_in : {ts : List Token} {b : Body} (x : ABody ts b) → Derives (nt n_body ∷ []) ts (spots_body x)
body_in (a_body x) = λ i p k w o d. simp append_assoc (by here (eat refl (emit (items_in x (i + 1) _ _ _ _ (eat refl (emit (fit d (simp length-append (omega arith)))))))))

-- ## parameters
parameter_in : (ts : List Token) (v : Name) (x : AName ts v) → Derives (nt n_parameter ∷ []) ts (spots_parameter ts v x)
parameter_in ts v a_name = λ i p k w o d. by here (put refl (emit d))

group_in : (ts : List Token) (g : Group) (x : AGroup ts g) → Derives (nt n_group ∷ []) ts (spots_group ts g x)
group_in ts g (a_group x y) = λ i p k w o d.
    by here (type_in x i _ _ _ _ (emit (list_in n_parameter n_more_parameters AName spots_parameter parameter_in 'comma refl here (there here) y (i + 1) _ _ _ _ (fit d (omega arith)))))

groups_in : {ts : List Token} {gs : List Group} (x : MaybeListed 'semi AGroup ts gs) → Derives (nt n_parameters ∷ []) ts (spots_maybe AGroup spots_group x)
groups_in no_list = λ i p k w o d. by here (fit d (omega arith))
groups_in (a_list x) = λ i p k w o d. by (there here) (list_in n_group n_more_groups AGroup spots_group group_in 'semi refl here (there here) x i _ k w o d)

-- g and h are the places of the parameters and of the body
process_in : {ts us : List Token} {gs : List Group} {b : Body} (x : MaybeListed 'semi AGroup ts gs) (y : ABody us b) {i : ℕ} (g h : ℕ) {p : ℕ} (k : Stack) (w : List Token) (o : List Spot) →
    g ≡ i + 1 → h ≡ g + length ts + 1 → M k (h + length us) w o →
    M (nt n_process from p ∷ k) i ('lpar ∷ (ts ++ ('rpar ∷ (us ++ w)))) (spots_maybe AGroup spots_group x g ++ (spots_body y h ++ o))
process_in x y g h k w o e f d = by here (eat refl (to g e (groups_in x g _ _ _ _ (eat refl (to h f (body_in y h _ _ _ _ d))))))

message_name_in : (ts : List Token) (v : Name) (x : AName ts v) → Derives (nt n_message ∷ []) ts (spots_message_name ts v x)
message_name_in ts v a_name = λ i p k w o d. by here (put refl (emit d))

-- ## units
unit_in : {ts : List Token} {u : Part} (x : AUnit ts u) → Derives (nt n_unit ∷ []) ts (spots_unit x)
unit_in (u_mtypes x) = λ i p k w o d.
    simp append_assoc (by (there here) (eat refl (by here (eat refl (emit (eat refl (to (i + 3) (omega arith)
    (list_in n_message n_more_messages AName spots_message_name message_name_in 'comma refl here (there here) x (i + 3) _ _ _ _ (eat refl (fit d (simp length-append (omega arith))))))))))))
unit_in (u_global x) = global_in x
unit_in (u_process {ts = ts} not_active x y) = λ i p k w o d.
    simp append_assoc (by (there (there (there here))) (eat refl (put refl (emit (process_in x y (i + 0 + 3) (i + 0 + length ts + 4) _ _ _ (omega arith) (omega arith)
    (fit d (simp length-append (omega arith))))))))
unit_in (u_process {ts = ts} active x y) = λ i p k w o d.
    simp append_assoc (by (there (there (there (there here)))) (eat refl (by here (eat refl (to (i + 2) (omega arith) (put refl (emit
    (process_in x y (i + 1 + 3) (i + 1 + length ts + 4) _ _ _ (omega arith) (omega arith) (fit d (simp length-append (omega arith)))))))))))
unit_in (u_process {ts = ts} active_times x y) = λ i p k w o d.
    simp append_assoc (by (there (there (there (there here)))) (eat refl (by (there here) (eat refl (to (i + 2) (omega arith) (put refl (eat refl (eat refl (to (i + 5) (omega arith) (put refl (emit
    (process_in x y (i + 4 + 3) (i + 4 + length ts + 4) _ _ _ (omega arith) (omega arith) (fit d (simp length-append (omega arith)))))))))))))))
unit_in (u_init x) = λ i p k w o d. by (there (there (there (there (there here))))) (eat refl (emit (body_in x (i + 1) _ _ _ _ (fit d (omega arith)))))

semicolons_in : {us : List Token} → Semicolons us → {i p : ℕ} {k : Stack} {w : List Token} {o : List Spot} → ((q : ℕ) → M (nt n_more_units from q ∷ k) (i + length us) w o) →
    M (nt n_more_units from p ∷ k) i (us ++ w) o
semicolons_in no_semi {p = p} d = fit (d p) (omega arith)
semicolons_in (semi u) d = by (there here) (eat refl (semicolons_in u (λ q. fit (d q) (omega arith))))

gram_in : {ts : List Token} {m : Model} (x : Gram ts m) → Derives (nt n_unit ∷ nt n_more_units ∷ []) ts (spots x)
gram_in (g_last {ts = ts} x u) = λ i p k w o d. simp append_assoc (unit_in x i p _ _ _ (semicolons_in u (λ q. by here (fit d (simp length-append (omega arith))))))
gram_in (g_more {ts = ts} {us = us} x u y) = λ i p k w o d.
    simp append_assoc (unit_in x i p _ _ _ (semicolons_in u (λ q. by (there (there here)) (gram_in y (i + length ts + length us) _ _ _ _ (fit d (simp length-append (omega arith)))))))

-- WHAT THE GRAMMAR SAYS, A STACK WITH MARKS DERIVES, and it writes each item with the token that `spots` says
pub spots_derived : {ts : List Token} {m : Model} (x : Gram ts m) (p : ℕ) → M (nt n_model from p ∷ []) 0 ts (spots x 0)
spots_derived x p = by here (simp append-nil at (gram_in x 0 0 [] [] [] m_done))

-- Declarations, units, models: each right side means what its nonterminal means.
use mathlib.Core.Path.{◌≡◌, refl, ap, sym as inv, ◌∙◌}
use mathlib.Core.Option.{Option, none, some}
use mathlib.Core.List.{List, [], ◌∷◌, ◌++◌, append_assoc, append-nil}
use Prim.Native.Nat.{ℕ}
use Rattle.base_kinds.specs.Kinds.{Token, name, number}
use Rattle.parse_grammar.specs.Marks.{'chan}
use Rattle.spec_grammar.specs.Marks.{'-, 'lpar, 'rpar, '[, '], 'lbrace, 'rbrace, 'comma, 'semi, '->, '=, 'mtype, 'active, 'false, 'init, 'of, 'proctype, 'true}
use Rattle.spec_grammar.specs.Tree.{Name, Value, unset, set_number, set_minus, set_true, set_false, set_name, set_channel, Variable, variable, Declaration, declare, Group, group, Body, body, Activity, idle, once, times, Part, mtypes, global, process, init, Model}
use Rattle.spec_grammar.specs.Grammar.{Listed, one, more, MaybeListed, no_list, a_list, Semicolons, no_semi, semi, none_trails, Parted, by_semi, by_arrow, AName, a_name, IsType, is_mtype, is_chan, AType, a_type, v_number, v_minus, v_true, v_false, v_name, AVariable, x_bare, x_set, x_array, x_array_set, x_channel, ADeclaration, declaration, AGroup, a_group, Items, statements, declared, ABody, a_body, AnActivity, not_active, active, active_times, AUnit, u_mtypes, u_global, u_process, u_init, Gram, g_last, g_more}
use Rattle.base_codes.specs.Items.{Item, i_active, i_active_many, i_body, i_channel, i_declared, i_end_body, i_false, i_field, i_global, i_group, i_init, i_local, i_message, i_minus, i_mtypes, i_name, i_named, i_number, i_parameter, i_proctype, i_size, i_true, i_type, i_value}
use Rattle.parse_code.specs.Code.{each, code_tree, code_field, code_size, code_value, code_variable, code_declaration, code_parameter, code_group, code_body, code_activity, code_message, code_part, code}
use Rattle.parse_grammar.specs.Engine.{nt, tm, act}
use Rattle.parse_grammar.specs.Productions.{n_sequence, n_plain_type, n_type, n_value, n_set, n_variable, n_size, n_more_variables, n_chan_variable, n_chan_rest, n_chan_value, n_field, n_more_fields, n_more_chan_variables, n_declaration, n_body, n_items, n_parted, n_more_parted, n_parameters, n_group, n_more_groups, n_parameter, n_more_parameters, n_unit, n_after_mtype, n_message, n_more_messages, n_activity, n_process, n_model, n_more_units, any_name, any_number, key, is_of_type}
use Rattle.parse_grammar.proofs.Meaning.{Phrase, Further, Setting, not_set, set_to, Sizing, no_size, sized, AnyVariable, code_items, Means, code_body_items}
use Rattle.parse_grammar.proofs.MeansE.{joined, out_two, moved, moved-one, none_after, carry, carry_on}
use Rattle.parse_grammar.proofs.MeansS.{parted_semi, parted_arrow}

-- what is written of a type and its names, and of a process
out_typed : (r : List Item) (t : ℕ) (c : Item) (p q x y : List Item) → r ≡ i_type t ∷ [] → p ≡ x → q ≡ y → r ++ (c ∷ (p ++ (q ++ []))) ≡ i_type t ∷ c ∷ (x ++ y)
out_typed r t c p q x y j h i = rw (j, h, i, append-nil y)

out_process : (c p q x y : List Item) → p ≡ x → q ≡ y → c ++ (p ++ (q ++ [])) ≡ c ++ x ++ y
out_process c p q x y h i = rw (h, i, append-nil y, append_assoc c x y)

-- types
pub means_plain_type : (t : ℕ) → IsType t → Means n_plain_type (is_of_type t)
means_plain_type t h = (t, a_type h, refl)

pub means_type_plain : Means n_type (nt n_plain_type ∷ [])
means_type_plain ts p (t, x, h) = (t, rw append-nil x, append-nil p ∙ h)

pub means_type : (t : ℕ) → IsType t → Means n_type (is_of_type t)
means_type t h = (t, a_type h, refl)

pub means-field : Means n_field (nt n_type ∷ act i_field ∷ [])
means-field ts p (t, x, h) = (t, rw append-nil x, rw h)

-- declarations
pub means_value_number : Means n_value (tm any_number ∷ act i_value ∷ [])
means_value_number n = (set_number n, v_number, refl)

pub means_value_minus : Means n_value (key '- ∷ tm any_number ∷ act i_minus ∷ [])
means_value_minus n = (set_minus n, v_minus, refl)

pub means_value_true : Means n_value (key 'true ∷ act i_true ∷ act i_value ∷ [])
means_value_true = (set_true, v_true, refl)

pub means_value_false : Means n_value (key 'false ∷ act i_false ∷ act i_value ∷ [])
means_value_false = (set_false, v_false, refl)

pub means_value_name : Means n_value (tm any_name ∷ act i_named ∷ [])
means_value_name v = (set_name v, v_name, refl)

pub means_unset : Means n_set []
means_unset = (unset, not_set, refl)

pub means-setting : Means n_set (key '= ∷ nt n_value ∷ [])
means-setting ts p (v, x, h) = (v, rw append-nil (set_to x), append-nil p ∙ h)

pub means-scalar : Means n_size []
means-scalar = (none, no_size, refl)

pub means-array : Means n_size (key '[ ∷ tm any_number ∷ key '] ∷ act i_size ∷ [])
means-array n = (some n, sized, refl)

variable_of : {v : Name} {ts us : List Token} {s : Option ℕ} {y : Value} → Sizing ts s → Setting us y → (t : ℕ) → AVariable t (name v ∷ ts ++ us) (variable v s y)
variable_of no_size not_set t = x_bare
variable_of no_size (set_to x) t = x_set x
variable_of sized not_set t = x_array
variable_of sized (set_to x) t = x_array_set x

pub means_variable : Means n_variable (tm any_name ∷ act i_declared ∷ nt n_size ∷ nt n_set ∷ [])
means_variable v ts p (s, x, h) us q (y, z, i) =
    (variable v s y, λ t. rw append-nil (variable_of x z t), ap (λ (z : List Item). i_name v ∷ i_declared ∷ z) (out_two p q (code_size s) (code_value y) h i))

pub means-channel : Means n_chan_variable (tm any_name ∷ act i_declared ∷ nt n_chan_rest ∷ [])
means-channel v ts p f = carry (AVariable 43) code_variable (i_name v ∷ i_declared ∷ []) p (name v ∷ (ts ++ [])) (name v ∷ ts) (none_after (name v ∷ []) ts) (f v)

pub means_channel_bare : Means n_chan_rest []
means_channel_bare v = (variable v none unset, x_bare, refl)

pub means_channel_array : Means n_chan_rest (key '[ ∷ tm any_number ∷ key '] ∷ act i_size ∷ nt n_set ∷ [])
means_channel_array n us q (y, z, i) v =
    (variable v (some n) y, rw append-nil (variable_of sized z 43), ap (λ (z : List Item). i_name v ∷ i_declared ∷ i_number n ∷ i_size ∷ z) (append-nil q ∙ i))

pub means_channel_set : Means n_chan_rest (key '= ∷ nt n_chan_value ∷ [])
means_channel_set ts p f v = carry (AVariable 43) code_variable (i_name v ∷ i_declared ∷ []) p (name v ∷ '= ∷ (ts ++ [])) (name v ∷ '= ∷ ts) (none_after (name v ∷ '= ∷ []) ts) (f v)

pub means_channel_value : Means n_chan_value (nt n_value ∷ [])
means_channel_value ts p (y, z, i) v = (variable v none y, rw append-nil (x_set z), ap (λ (z : List Item). i_name v ∷ i_declared ∷ z) (append-nil p ∙ i))

pub means_channel_made : Means n_chan_value (key '[ ∷ tm any_number ∷ key '] ∷ act i_channel ∷ key 'of ∷ key 'lbrace ∷ nt n_field ∷ nt n_more_fields ∷ key 'rbrace ∷ [])
means_channel_made n ts p (t, x, h) us q (l, y, i) v = (
  variable v none (set_channel n (t ∷ l)),
  rw append_assoc at (x_channel {w = v} {n = n} (joined AType x y)),
  ap (λ (z : List Item). i_name v ∷ i_declared ∷ i_number n ∷ i_channel ∷ z) (out_two p q (code_field t) (each code_field l) h i),
)

listed-any : {s : Token} (t : ℕ) {ts : List Token} {l : List Variable} → Listed s AnyVariable ts l → Listed s (AVariable t) ts l
listed-any t (one x) = one (x t)
listed-any t (more x y) = more (x t) (listed-any t y)

declaration_of : {t : ℕ} {xs ts us : List Token} {x : Variable} {l : List Variable} → AType xs t → AnyVariable ts x → Further 'comma AnyVariable us l → ADeclaration (xs ++ ts ++ us) (declare t (x ∷ l))
declaration_of {t} (a_type h) x y = declaration h (listed-any t (joined AnyVariable x y))

pub means_local : Means n_declaration (nt n_plain_type ∷ act i_local ∷ nt n_variable ∷ nt n_more_variables ∷ [])
means_local xs r (t, g, j) ts p (x, y, h) us q (l, z, i) =
    (declare t (x ∷ l), rw append-nil (rw append_assoc at (declaration_of g y z)), out_typed r t i_local p q (code_variable x) (each code_variable l) j h i)

pub means_local_mtype : Means n_declaration (key 'mtype ∷ act (i_type 41) ∷ act i_local ∷ nt n_variable ∷ nt n_more_variables ∷ [])
means_local_mtype ts p (x, y, h) us q (l, z, i) =
    (declare 41 (x ∷ l), rw append-nil (declaration_of (a_type is_mtype) y z), out_typed (i_type 41 ∷ []) 41 i_local p q (code_variable x) (each code_variable l) refl h i)

pub means_local_chan : Means n_declaration (key 'chan ∷ act (i_type 43) ∷ act i_local ∷ nt n_chan_variable ∷ nt n_more_chan_variables ∷ [])
means_local_chan ts p (x, y, h) us q (l, z, i) =
    (declare 43 (x ∷ l), rw append-nil (declaration is_chan (joined (AVariable 43) y z)), out_typed (i_type 43 ∷ []) 43 i_local p q (code_variable x) (each code_variable l) refl h i)

-- bodies
pub means_items_declaration : Means n_items (nt n_declaration ∷ nt n_parted ∷ [])
means_items_declaration ts p (d, x, h) us q f =
    carry_on Items code_items p q (code_declaration i_local d) (ts ++ (us ++ [])) (ts ++ us) (none_after ts us) h (f ts d x)

pub means_items_sequence : Means n_items (nt n_sequence ∷ [])
means_items_sequence ts p (q, x, h) = (body [] q, rw append-nil (statements x), append-nil p ∙ h)

pub means_parted_semi : Means n_parted (key 'semi ∷ nt n_more_parted ∷ [])
means_parted_semi vs p f xs d x =
    carry Items code_items (code_declaration i_local d) p (xs ++ ('semi ∷ (vs ++ []))) (xs ++ 'semi ∷ [] ++ vs) (moved-one xs vs 'semi) (f xs ('semi ∷ []) d x (by_semi none_trails))

pub means_parted_arrow : Means n_parted (key '-> ∷ nt n_more_parted ∷ [])
means_parted_arrow vs p f xs d x =
    carry Items code_items (code_declaration i_local d) p (xs ++ ('-> ∷ (vs ++ []))) (xs ++ '-> ∷ [] ++ vs) (moved-one xs vs '->) (f xs ('-> ∷ []) d x (by_arrow none_trails))

pub means_parted_more_semi : Means n_more_parted (key 'semi ∷ nt n_more_parted ∷ [])
means_parted_more_semi vs p f xs us d x u =
    carry Items code_items (code_declaration i_local d) p (xs ++ us ++ ('semi ∷ (vs ++ []))) (xs ++ (us ++ 'semi ∷ []) ++ vs) (moved xs us vs 'semi) (f xs (us ++ 'semi ∷ []) d x (parted_semi u))

pub means_parted_more_arrow : Means n_more_parted (key '-> ∷ nt n_more_parted ∷ [])
means_parted_more_arrow vs p f xs us d x u =
    carry Items code_items (code_declaration i_local d) p (xs ++ us ++ ('-> ∷ (vs ++ []))) (xs ++ (us ++ '-> ∷ []) ++ vs) (moved xs us vs '->) (f xs (us ++ '-> ∷ []) d x (parted_arrow u))

more-items : (xs us vs : List Token) (d : Declaration) (b : Body) (p : List Item) → ADeclaration xs d → Parted us → Items vs b → p ≡ code_items b →
    (b' : Body) × Items (xs ++ us ++ (vs ++ [])) b' × (code_declaration i_local d ++ (p ++ []) ≡ code_items b')
more-items xs us vs d (body ds q) p x u y h =
    (body (d ∷ ds) q, rw append-nil (declared x u y), ap (code_declaration i_local d ++◌) (append-nil p ∙ h) ∙ inv (append_assoc (code_declaration i_local d) (each (code_declaration i_local) ds) (code_tree q)))

pub means_parted_items : Means n_more_parted (nt n_items ∷ [])
means_parted_items vs p (b, y, h) xs us d x u = more-items xs us vs d b p x u y h

pub means_body : Means n_body (key 'lbrace ∷ act i_body ∷ nt n_items ∷ key 'rbrace ∷ act i_end_body ∷ [])
means_body ts p (b, x, h) = (b, a_body x, rw (h, code_body_items b))

-- parameters
pub means_no_parameters : Means n_parameters []
means_no_parameters = ([], no_list, refl)

pub means_parameters : Means n_parameters (nt n_group ∷ nt n_more_groups ∷ [])
means_parameters ts p (g, x, h) us q (l, y, i) = (g ∷ l, rw append-nil (a_list (joined AGroup x y)), out_two p q (code_group g) (each code_group l) h i)

group_of : {t : ℕ} {xs ts us : List Token} {v : Name} {l : List Name} → AType xs t → AName ts v → Further 'comma AName us l → AGroup (xs ++ ts ++ us) (group t (v ∷ l))
group_of (a_type h) x y = a_group h (joined AName x y)

pub means_parameter_group : Means n_group (nt n_type ∷ act i_group ∷ nt n_parameter ∷ nt n_more_parameters ∷ [])
means_parameter_group xs r (t, g, j) ts p (v, x, h) us q (l, y, i) =
    (group t (v ∷ l), rw append-nil (rw append_assoc at (group_of g x y)), out_typed r t i_group p q (code_parameter v) (each code_parameter l) j h i)

pub means_parameter : Means n_parameter (tm any_name ∷ act i_parameter ∷ [])
means_parameter v = (v, a_name, refl)

pub means-message : Means n_message (tm any_name ∷ act i_message ∷ [])
means-message v = (v, a_name, refl)

-- units
pub means-global : Means n_unit (nt n_plain_type ∷ act i_global ∷ nt n_variable ∷ nt n_more_variables ∷ [])
means-global xs r (t, g, j) ts p (x, y, h) us q (l, z, i) =
    (global (declare t (x ∷ l)), rw append-nil (rw append_assoc at (u_global (declaration_of g y z))), out_typed r t i_global p q (code_variable x) (each code_variable l) j h i)

pub means-mtype : Means n_unit (key 'mtype ∷ nt n_after_mtype ∷ [])
means-mtype ts p (u, x, h) = (u, rw append-nil x, append-nil p ∙ h)

pub means_global_chan : Means n_unit (key 'chan ∷ act (i_type 43) ∷ act i_global ∷ nt n_chan_variable ∷ nt n_more_chan_variables ∷ [])
means_global_chan ts p (x, y, h) us q (l, z, i) =
    (global (declare 43 (x ∷ l)), rw append-nil (u_global (declaration is_chan (joined (AVariable 43) y z))), out_typed (i_type 43 ∷ []) 43 i_global p q (code_variable x) (each code_variable l) refl h i)

pub means_idle : Means n_unit (key 'proctype ∷ tm any_name ∷ act i_proctype ∷ nt n_process ∷ [])
means_idle v ts p f =
    carry AUnit code_part (i_name v ∷ i_proctype ∷ []) p ('proctype ∷ name v ∷ (ts ++ [])) ('proctype ∷ name v ∷ ts) (none_after ('proctype ∷ name v ∷ []) ts) (f [] idle v not_active)

pub means_some_active : Means n_unit (key 'active ∷ nt n_activity ∷ [])
means_some_active ts p (u, x, h) = (u, rw append-nil x, append-nil p ∙ h)

pub means_init : Means n_unit (key 'init ∷ act i_init ∷ nt n_body ∷ [])
means_init ts p (b, x, h) = (init b, rw append-nil (u_init x), ap (i_init ∷◌) (append-nil p ∙ h))

pub means_mtypes : Means n_after_mtype (key '= ∷ act i_mtypes ∷ key 'lbrace ∷ nt n_message ∷ nt n_more_messages ∷ key 'rbrace ∷ [])
means_mtypes ts p (v, x, h) us q (l, y, i) =
    (mtypes (v ∷ l), rw append_assoc at (u_mtypes (joined AName x y)), ap (i_mtypes ∷◌) (out_two p q (code_message v) (each code_message l) h i))

pub means_global_mtype : Means n_after_mtype (act (i_type 41) ∷ act i_global ∷ nt n_variable ∷ nt n_more_variables ∷ [])
means_global_mtype ts p (x, y, h) us q (l, z, i) =
    (global (declare 41 (x ∷ l)), rw append-nil (u_global (declaration_of (a_type is_mtype) y z)), out_typed (i_type 41 ∷ []) 41 i_global p q (code_variable x) (each code_variable l) refl h i)

pub means-active : Means n_activity (key 'proctype ∷ tm any_name ∷ act i_active ∷ nt n_process ∷ [])
means-active v ts p f =
    carry AUnit code_part (i_name v ∷ i_active ∷ []) p ('active ∷ 'proctype ∷ name v ∷ (ts ++ [])) ('active ∷ 'proctype ∷ name v ∷ ts) (none_after ('active ∷ 'proctype ∷ name v ∷ []) ts) (f ('active ∷ []) once v active)

pub means_active_many : Means n_activity (key '[ ∷ tm any_number ∷ key '] ∷ key 'proctype ∷ tm any_name ∷ act i_active_many ∷ nt n_process ∷ [])
means_active_many n v ts p f =
    carry AUnit code_part (i_number n ∷ i_name v ∷ i_active_many ∷ []) p ('active ∷ '[ ∷ number n ∷ '] ∷ 'proctype ∷ name v ∷ (ts ++ [])) ('active ∷ '[ ∷ number n ∷ '] ∷ 'proctype ∷ name v ∷ ts)
    (none_after ('active ∷ '[ ∷ number n ∷ '] ∷ 'proctype ∷ name v ∷ []) ts) (f ('active ∷ '[ ∷ number n ∷ '] ∷ []) (times n) v active_times)

process_of : (xs ts us : List Token) (a : Activity) (v : Name) (gs : List Group) (b : Body) → AnActivity xs a → MaybeListed 'semi AGroup ts gs → ABody us b →
    AUnit (xs ++ ('proctype ∷ name v ∷ 'lpar ∷ (ts ++ ('rpar ∷ (us ++ []))))) (process a v gs b)
process_of xs ts us a v gs b z x y = rw append-nil (rw append_assoc at (u_process {w = v} z x y))

pub means-process : Means n_process (key 'lpar ∷ nt n_parameters ∷ key 'rpar ∷ nt n_body ∷ [])
means-process ts p (gs, x, h) us q (b, y, i) xs a v z =
    (process a v gs b, process_of xs ts us a v gs b z x y, out_process (code_activity a v) p q (each code_group gs) (code_body b) h i)

-- models
semicolons_more : {us : List Token} → Semicolons us → Semicolons (us ++ 'semi ∷ [])
semicolons_more no_semi = semi no_semi
semicolons_more (semi u) = semi (semicolons_more u)

one-after : (ts us : List Token) → ts ++ (us ++ []) ≡ ts ++ [] ++ us
one-after ts us = simp append-nil

more_parts : (xs us ts : List Token) (u : Part) (p : List Item) → AUnit xs u → Semicolons us → Phrase Gram code ts p → (m : Model) × Gram (xs ++ us ++ ts) m × (code_part u ++ p ≡ code m)
more_parts xs us ts u p x s (m, y, h) = (u ∷ m, g_more x s y, ap (code_part u ++◌) h)

pub means-model : Means n_model (nt n_unit ∷ nt n_more_units ∷ [])
means-model ts p (u, x, h) us q f =
    carry_on Gram code p q (code_part u) (ts ++ (us ++ [])) (ts ++ [] ++ us) (one-after ts us) h (f ts [] u x no_semi)

pub means_no_units : Means n_more_units []
means_no_units xs us u x s = (u ∷ [], rw append-nil (g_last x s), refl)

pub means_unit_semi : Means n_more_units (key 'semi ∷ nt n_more_units ∷ [])
means_unit_semi vs p f xs us u x s =
    carry Gram code (code_part u) p (xs ++ us ++ ('semi ∷ (vs ++ []))) (xs ++ (us ++ 'semi ∷ []) ++ vs) (moved xs us vs 'semi) (f xs (us ++ 'semi ∷ []) u x (semicolons_more s))

pub means-units : Means n_more_units (nt n_unit ∷ nt n_more_units ∷ [])
means-units vs p (u', y, h) ws q f xs us u x s =
    more_parts xs us (vs ++ (ws ++ [])) u (p ++ (q ++ [])) x s (carry_on Gram code p q (code_part u') (vs ++ (ws ++ [])) (vs ++ [] ++ ws) (one-after vs ws) h (f vs [] u' y no_semi))

-- THE PRINTED TOKENS OF A TREE MAY STAND FOR ANY TOKENS OF IT: written they are no longer, they are tokens that a text can hold, and they nest no deeper.
use mathlib.Core.Path.{◌≡◌, refl, sym as inv}
use mathlib.Core.Bool.{Bool, true, false, not}
use mathlib.Core.List.{List, [], ◌∷◌, ◌++◌, append_assoc, append-nil}
use Prim.Native.Nat.{ℕ, suc, ◌≤◌, ◌<◌, ◌+◌}
use native.Mathlib.Omega.{arith}
use lib.Dec.{leb}
use borrow.Author.Tests.{le-leb, leb-true, ne_eqb, not-true}
use Rattle.base_bytes.specs.Choice.{both}
use Rattle.base_bytes.proofs.Tests.{both_true, true_false}
use Rattle.base_kinds.specs.Kinds.{Token, sym, name, number, text, level}
use Rattle.spec_grammar.specs.Marks.{'-, 'lpar, 'rpar, 'comma, 'semi, ':, '::, '->, '=, '++, 'mtype, 'active, 'assert, 'break, 'else, 'eval, 'false, 'goto, 'init, 'of, 'printf, 'proctype, 'run, 'skip, 'timeout, 'true, '--}
use Rattle.parse_grammar.specs.Marks.{'!, '?, 'len}
use Rattle.spec_grammar.specs.Tree.{Name, num, tru, fls, get, query, unary, binary, choice, Expr, Ref, Received, Sort, sequence, Tree, Value, Variable, Declaration, Group, Body, body, Activity, Part, Model}
use Rattle.spec_grammar.specs.Grammar.{is_len, is_bang, is_ask, Listed, one, more, MaybeListed, no_list, a_list, Message, commas, call, Semicolons, no_semi, semi, Trailing, none_trails, semi_trails, arrow_trails, Parted, by_semi, by_arrow, AName, a_name, IsType, is_bit, is_bool, is_byte, is_mtype, is_pid, is_chan, is_short, is_int, AType, a_type, IsUnary, is_minus, is_not, is_flip, E, e_plain, e_index, e_number, e_true, e_false, e_query, e_group, e_choice, e_unary, e_binary, e_up, AnExpression, AReference, AReceived, r_into, r_eval, r_number, r_true, r_false, D, s_leaf, s_express, s_assign, s_increment, s_decrement, s_send, s_receive, s_assert, s_print_alone, s_print, s_skip, s_goto, s_break, s_timeout, s_else, s_run, s_set_run, s_if, s_do, s_bare, s_label, q_last, q_then, o_last, o_also, AValue, v_number, v_minus, v_true, v_false, v_name, AVariable, x_bare, x_set, x_array, x_array_set, x_channel, ADeclaration, declaration, AGroup, a_group, Items, statements, declared, ABody, a_body, AnActivity, not_active, active, active_times, AUnit, u_mtypes, u_global, u_process, u_init, Gram, g_last, g_more}
use Rattle.spec_grammar.specs.Print.{wrap, print_exp, print_whole, join, print_received, print_tree, print_type, print_value, print_variable, print_declaration, print_name, print_group, print_items, print_body, print_activity, print_part, print_model}
use Rattle.spec_grammar.proofs.Levels.{operator_small}
use Rattle.spec_grammar.proofs.Printed.{join_more, further-more, sequence_before}
use Rattle.spec_grammar.specs.Depth.{opens_bracket, closes_bracket, opens_selection, closes_selection}
use Rattle.write_shortest_proof.specs.Lighter.{Lighter}
use Rattle.write_shortest_proof.proofs.Algebra.{nothing, beside, Neutral, keep, left_out, arrow, in_parentheses, in_squares, in_braces, in_if, in_do, peeled, called}

-- ---- tokens that stay
abbrev neither : Token → Bool
neither t = both (not (opens_bracket t)) (both (not (closes_bracket t)) (both (not (opens_selection t)) (not (closes_selection t))))

neutral : (t : Token) → neither t ≡ true → Neutral t
neutral t e =
    let p = both_true (not (opens_bracket t)) (both (not (closes_bracket t)) (both (not (opens_selection t)) (not (closes_selection t)))) e in
    let q = both_true (not (closes_bracket t)) (both (not (opens_selection t)) (not (closes_selection t))) p.1 in
    let r = both_true (not (opens_selection t)) (not (closes_selection t)) q.1 in
    record { open_bracket = not-true (opens_bracket t) p.0; close_bracket = not-true (closes_bracket t) q.0; open_selection = not-true (opens_selection t) r.0; close_selection = not-true (closes_selection t) r.1 }

stays : (t : Token) → neither t ≡ true → Lighter (t ∷ []) (t ∷ [])
stays t e = keep t (neutral t e)

unary_stays : {o : ℕ} → IsUnary o → Lighter (sym o ∷ []) (sym o ∷ [])
unary_stays is_minus = stays (sym 15) refl
unary_stays is_not = stays (sym 19) refl
unary_stays is_flip = stays (sym 20) refl

binary_stays : (o : ℕ) → o < 19 → Lighter (sym o ∷ []) (sym o ∷ [])
binary_stays o h =
    keep (sym o)
    record {
      open_bracket = rw (ne_eqb o 21 (λ e. omega arith), ne_eqb o 23 (λ e. omega arith), ne_eqb o 25 (λ e. omega arith)) refl;
      close_bracket = rw (ne_eqb o 22 (λ e. omega arith), ne_eqb o 24 (λ e. omega arith), ne_eqb o 26 (λ e. omega arith)) refl;
      open_selection = rw (ne_eqb o 55 (λ e. omega arith), ne_eqb o 49 (λ e. omega arith)) refl;
      close_selection = rw (ne_eqb o 53 (λ e. omega arith), ne_eqb o 58 (λ e. omega arith)) refl;
    }

type_stays : {k : ℕ} → IsType k → Lighter (sym k ∷ []) (sym k ∷ [])
type_stays is_bit = stays (sym 38) refl
type_stays is_bool = stays (sym 39) refl
type_stays is_byte = stays (sym 40) refl
type_stays is_mtype = stays (sym 41) refl
type_stays is_pid = stays (sym 42) refl
type_stays is_chan = stays (sym 43) refl
type_stays is_short = stays (sym 44) refl
type_stays is_int = stays (sym 45) refl

-- ---- expressions
wrapped : (x y : Bool) (inner ts : List Token) → (x ≡ true → y ≡ true) → Lighter (wrap y inner) ts → Lighter (wrap x inner) ('lpar ∷ ts ++ 'rpar ∷ [])
wrapped true true inner ts h p = peeled p
wrapped true false inner ts h p = absurd (true_false (inv (h refl)))
wrapped false true inner ts h p = in_parentheses p
wrapped false false inner ts h p = peeled p

grouped : (e : Expr) (l : ℕ) → 1 ≤ l → (ts : List Token) → Lighter (print_exp e 1) ts → Lighter (print_exp e l) ('lpar ∷ ts ++ 'rpar ∷ [])
grouped (num n) l a ts p = peeled p
grouped tru l a ts p = peeled p
grouped fls l a ts p = peeled p
grouped (get r) l a ts p = peeled p
grouped (query mk r) l a ts p = peeled p
grouped (unary o e) l a ts p = peeled p
grouped (binary o b c) l a ts p = wrapped (leb l (level o)) (leb 1 (level o)) _ ts (λ h. le-leb 1 (level o) (omega (arith, leb-true l (level o) h))) p
grouped (choice b c d) l a ts p = peeled p

exp_lighter : {k : ℕ} {ts : List Token} {e : Expr} → E k ts e → (l : ℕ) → 1 ≤ l → l ≤ k → Lighter (print_exp e l) ts
exp_lighter (e_plain {w = w}) l a b = stays (name w) refl
exp_lighter (e_index {w = w} x) l a b = beside (stays (name w) refl) (in_squares (exp_lighter x 1 (omega arith) (omega arith)))
exp_lighter (e_number {n = n}) l a b = stays (number n) refl
exp_lighter e_true l a b = stays 'true refl
exp_lighter e_false l a b = stays 'false refl
exp_lighter (e_query is_len x) l a b = beside (stays 'len refl) (in_parentheses (exp_lighter x 12 (omega arith) (omega arith)))
exp_lighter (e_group {ts = ts} {e = e} x) l a b = grouped e l a ts (exp_lighter x 1 (omega arith) (omega arith))
exp_lighter (e_choice x y z) l a b =
    in_parentheses
    (beside (beside (exp_lighter x 1 (omega arith) (omega arith)) (beside (stays '-> refl) (exp_lighter y 1 (omega arith) (omega arith)))) (beside (stays ': refl) (exp_lighter z 1 (omega arith) (omega arith))))
exp_lighter (e_unary u x) l a b = beside (unary_stays u) (exp_lighter x 11 (omega arith) (omega arith))
exp_lighter (e_binary {l = k} {o = o} i x y) l a b =
    rw (i, le-leb l (suc k) b)
    (beside (exp_lighter x (suc k) (omega arith) (omega arith)) (beside (binary_stays o (operator_small o k i)) (exp_lighter y (suc (suc k)) (omega arith) (omega arith))))
exp_lighter (e_up x) l a b = exp_lighter x l a (omega arith)

whole_lighter : (ts : List Token) (e : Expr) → AnExpression ts e → Lighter (print_whole e) ts
whole_lighter ts e x = exp_lighter x 1 (omega arith) (omega arith)

ref_lighter : {ts : List Token} {r : Ref} → AReference ts r → Lighter (print_exp r 12) ts
ref_lighter x = exp_lighter x 12 (omega arith) (omega arith)

-- ---- lists
module _ (s : Token) (t : Lighter (s ∷ []) (s ∷ [])) where
  list_lighter : {A : Type 0} (X : List Token → A → Type 0) (f : A → List Token) → ((ts : List Token) (a : A) → X ts a → Lighter (f a) ts) → {ts : List Token} {l : List A} → Listed s X ts l → Lighter (join s f l) ts
  list_lighter X f g (one {ts = ts} {a = a} x) = rw append-nil (g ts a x)
  list_lighter X f g (more {ts = ts} {a = a} x y) = rw (join_more s X f a y) (beside (g ts a x) (beside t (list_lighter X f g y)))

  maybe_lighter : {A : Type 0} (X : List Token → A → Type 0) (f : A → List Token) → ((ts : List Token) (a : A) → X ts a → Lighter (f a) ts) → {ts : List Token} {l : List A} → MaybeListed s X ts l → Lighter (join s f l) ts
  maybe_lighter X f g no_list = nothing
  maybe_lighter X f g (a_list x) = list_lighter X f g x

comma_stays : Lighter ('comma ∷ []) ('comma ∷ [])
comma_stays = stays 'comma refl

semi_stays : Lighter ('semi ∷ []) ('semi ∷ [])
semi_stays = stays 'semi refl

message_lighter : {A : Type 0} (X : List Token → A → Type 0) (f : A → List Token) → ((ts : List Token) (a : A) → X ts a → Lighter (f a) ts) → {ts : List Token} {l : List A} → Message X ts l → Lighter (join 'comma f l) ts
message_lighter X f g (commas x) = list_lighter 'comma comma_stays X f g x
message_lighter X f g (call {ts = ts} {us = us} {a = a} x y) =
    rw (join_more 'comma X f a y, append_assoc ts ('lpar ∷ us) ('rpar ∷ [])) (beside (g ts a x) (called (list_lighter 'comma comma_stays X f g y)))

received_lighter : (ts : List Token) (x : Received) → AReceived ts x → Lighter (print_received x) ts
received_lighter ts x (r_into y) = ref_lighter y
received_lighter ts x (r_eval y) = beside (stays 'eval refl) (in_parentheses (exp_lighter y 1 (omega arith) (omega arith)))
received_lighter ts x (r_number {n = n}) = stays (number n) refl
received_lighter ts x r_true = stays 'true refl
received_lighter ts x r_false = stays 'false refl

trailing_lighter : {us : List Token} → Trailing us → Lighter [] us
trailing_lighter none_trails = nothing
trailing_lighter (semi_trails u) = beside (left_out 'semi (neutral 'semi refl) (omega arith)) (trailing_lighter u)
trailing_lighter (arrow_trails u) = beside (left_out '-> (neutral '-> refl) (omega arith)) (trailing_lighter u)

parted_lighter : {us : List Token} → Parted us → Lighter ('semi ∷ []) us
parted_lighter (by_semi u) = beside semi_stays (trailing_lighter u)
parted_lighter (by_arrow u) = beside arrow (trailing_lighter u)

semicolons_lighter : {us : List Token} → Semicolons us → Lighter [] us
semicolons_lighter no_semi = nothing
semicolons_lighter (semi u) = beside (left_out 'semi (neutral 'semi refl) (omega arith)) (semicolons_lighter u)

-- ---- statements
tree_lighter : {k : Sort} {ts : List Token} {t : Tree k} → D k ts t → Lighter (print_tree t) ts
tree_lighter (s_leaf (s_express x)) = exp_lighter x 1 (omega arith) (omega arith)
tree_lighter (s_leaf (s_assign x y)) = beside (ref_lighter x) (beside (stays '= refl) (exp_lighter y 1 (omega arith) (omega arith)))
tree_lighter (s_leaf (s_increment x)) = beside (ref_lighter x) (stays '++ refl)
tree_lighter (s_leaf (s_decrement x)) = beside (ref_lighter x) (stays '-- refl)
tree_lighter (s_leaf (s_send is_bang x y)) = beside (ref_lighter x) (beside (stays '! refl) (message_lighter AnExpression print_whole whole_lighter y))
tree_lighter (s_leaf (s_receive is_ask x y)) = beside (ref_lighter x) (beside (stays '? refl) (message_lighter AReceived print_received received_lighter y))
tree_lighter (s_leaf (s_assert x)) = beside (stays 'assert refl) (in_parentheses (exp_lighter x 1 (omega arith) (omega arith)))
tree_lighter (s_leaf (s_print_alone {w = w})) = beside (stays 'printf refl) (in_parentheses (stays (text w) refl))
tree_lighter (s_leaf (s_print {w = w} x)) =
    rw (further-more 'comma AnExpression print_whole x) (beside (stays 'printf refl) (in_parentheses (beside (stays (text w) refl) (beside comma_stays (list_lighter 'comma comma_stays AnExpression print_whole whole_lighter x)))))
tree_lighter (s_leaf s_skip) = stays 'skip refl
tree_lighter (s_leaf (s_goto {w = w})) = beside (stays 'goto refl) (stays (name w) refl)
tree_lighter (s_leaf s_break) = stays 'break refl
tree_lighter (s_leaf s_timeout) = stays 'timeout refl
tree_lighter (s_leaf s_else) = stays 'else refl
tree_lighter (s_leaf (s_run {w = w} x)) = beside (stays 'run refl) (beside (stays (name w) refl) (in_parentheses (maybe_lighter 'comma comma_stays AnExpression print_whole whole_lighter x)))
tree_lighter (s_leaf (s_set_run {w = w} x y)) =
    simp append_assoc
    (beside (ref_lighter x) (beside (stays '= refl) (beside (stays 'run refl) (beside (stays (name w) refl) (in_parentheses (maybe_lighter 'comma comma_stays AnExpression print_whole whole_lighter y))))))
tree_lighter (s_if x) = in_if (tree_lighter x)
tree_lighter (s_do x) = in_do (tree_lighter x)
tree_lighter (s_bare x) = tree_lighter x
tree_lighter (s_label {w = w} x) = beside (stays (name w) refl) (beside (stays ': refl) (tree_lighter x))
tree_lighter (q_last x u) = beside (tree_lighter x) (trailing_lighter u)
tree_lighter (q_then {ts = ts} {us = us} {vs = vs} x u y) = rw (sequence_before y, append_assoc ts us vs) (beside (tree_lighter x) (beside (parted_lighter u) (tree_lighter y)))
tree_lighter (o_last x) = rw append-nil (beside (stays ':: refl) (tree_lighter x))
tree_lighter (o_also x y) = beside (beside (stays ':: refl) (tree_lighter x)) (tree_lighter y)

-- ---- declarations
type_lighter : (ts : List Token) (k : ℕ) → AType ts k → Lighter (print_type k) ts
type_lighter ts k (a_type x) = type_stays x

name_lighter : (ts : List Token) (w : Name) → AName ts w → Lighter (print_name w) ts
name_lighter ts w a_name = stays (name w) refl

value_lighter : {ts : List Token} {v : Value} → AValue ts v → Lighter (print_value v) ('= ∷ ts)
value_lighter (v_number {n = n}) = beside (stays '= refl) (stays (number n) refl)
value_lighter (v_minus {n = n}) = beside (stays '= refl) (beside (stays '- refl) (stays (number n) refl))
value_lighter v_true = beside (stays '= refl) (stays 'true refl)
value_lighter v_false = beside (stays '= refl) (stays 'false refl)
value_lighter (v_name {w = w}) = beside (stays '= refl) (stays (name w) refl)

variable_lighter : (k : ℕ) (ts : List Token) (x : Variable) → AVariable k ts x → Lighter (print_variable x) ts
variable_lighter k ts x (x_bare {w = w}) = stays (name w) refl
variable_lighter k ts x (x_set {w = w} v) = beside (stays (name w) refl) (value_lighter v)
variable_lighter k ts x (x_array {w = w} {n = n}) = beside (stays (name w) refl) (in_squares (stays (number n) refl))
variable_lighter k ts x (x_array_set {w = w} {n = n} v) = beside (beside (stays (name w) refl) (in_squares (stays (number n) refl))) (value_lighter v)
variable_lighter k ts x (x_channel {w = w} {n = n} y) =
    beside (stays (name w) refl)
    (beside (stays '= refl) (beside (in_squares (stays (number n) refl)) (beside (stays 'of refl) (in_braces (list_lighter 'comma comma_stays AType print_type type_lighter y)))))

declaration_lighter : {ts : List Token} {d : Declaration} → ADeclaration ts d → Lighter (print_declaration d) ts
declaration_lighter (declaration {k = k} h x) = beside (type_stays h) (list_lighter 'comma comma_stays (AVariable k) print_variable (variable_lighter k) x)

group_lighter : (ts : List Token) (g : Group) → AGroup ts g → Lighter (print_group g) ts
group_lighter ts g (a_group h x) = beside (type_stays h) (list_lighter 'comma comma_stays AName print_name name_lighter x)

-- ---- bodies, units, models
items_lighter : {ts : List Token} {ds : List Declaration} {q : Tree sequence} → Items ts (body ds q) → Lighter (print_items ds q) ts
items_lighter (statements x) = tree_lighter x
items_lighter (declared {ts = ts} {us = us} {vs = vs} x u y) = rw (append_assoc ts us vs) (beside (declaration_lighter x) (beside (parted_lighter u) (items_lighter y)))

body_lighter : {ts : List Token} (b : Body) → ABody ts b → Lighter (print_body b) ts
body_lighter (body ds q) (a_body x) = in_braces (items_lighter x)

activity_lighter : {ts : List Token} {a : Activity} → AnActivity ts a → Lighter (print_activity a) ts
activity_lighter not_active = nothing
activity_lighter active = stays 'active refl
activity_lighter (active_times {n = n}) = beside (stays 'active refl) (in_squares (stays (number n) refl))

unit_lighter : {ts : List Token} {u : Part} → AUnit ts u → Lighter (print_part u) ts
unit_lighter (u_mtypes x) = beside (stays 'mtype refl) (beside (stays '= refl) (in_braces (list_lighter 'comma comma_stays AName print_name name_lighter x)))
unit_lighter (u_global x) = declaration_lighter x
unit_lighter (u_process {w = w} {b = b} x y z) =
    simp append_assoc
    (simp append_assoc at (beside (activity_lighter x) (beside (stays 'proctype refl) (beside (stays (name w) refl) (beside (in_parentheses (maybe_lighter 'semi semi_stays AGroup print_group group_lighter y)) (body_lighter b z))))))
unit_lighter (u_init {b = b} x) = beside (stays 'init refl) (body_lighter b x)

pub model_lighter : {ts : List Token} {m : Model} → Gram ts m → Lighter (print_model m) ts
model_lighter (g_last x s) = beside (unit_lighter x) (semicolons_lighter s)
model_lighter (g_more {ts = ts} {us = us} {vs = vs} x s y) = rw (append_assoc ts us vs) (beside (unit_lighter x) (beside (semicolons_lighter s) (model_lighter y)))

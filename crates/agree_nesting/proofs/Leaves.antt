-- A statement that holds no other, by its items: it begins with a phrase and its mark, or with a mark of its own, and behind that come phrases whose marks begin no statement.
use Prim.Native.Nat.{ℕ, ◌≤◌, ◌<◌}
use native.Mathlib.Omega.{arith}
use native.Mathlib.Decide.{dec_lt}
use mathlib.Core.Path.{◌≡◌, refl, sym, ap, ◌∙◌, subst}
use mathlib.Core.Bool.{Bool, true, false}
use mathlib.Core.List.{List, [], ◌∷◌, ◌++◌, append_assoc}
use lib.ListN.{length}
use lib.Dec.{eqb}
use Rattle.base_bytes.specs.Choice.{pick}
use Rattle.base_bytes.proofs.Tests.{true_false}
use Rattle.base_codes.specs.Codes.{c_choice, c_else, c_end_body, c_if, c_label, c_text}
use Rattle.base_codes.specs.Items.{Item, code_of, i_argument, i_assert, i_assign, i_break, i_constant, i_decrement, i_else, i_end, i_equal, i_express, i_false, i_goto, i_increment, i_into, i_name, i_number, i_receive, i_run, i_send, i_set_run, i_skip, i_target, i_text, i_timeout, i_true}
use Rattle.base_codes.specs.Sets.{is_part, is_alone, is_lead}
use Rattle.spec_grammar.specs.Tree.{Shape, Exp, Expr, Received, into, equal, exactly, exactly_true, exactly_false, Leaf, express, assign, increment, decrement, send, receive, assert, print, skip, goto, break, timeout, else, run, set_run, is_else}
use Rattle.parse_code.specs.Code.{each, code_exp, code_argument, code_received, code_leaf}
use Rattle.link_phrases_proof.proofs.Inside.{mark-outside, text-outside}
use Rattle.link_phrases_proof.proofs.Starts.{some-items}
use Rattle.agree_eval.proofs.Ranges.{Every, every_append, every_lift, InPart, exp_parts}

-- ---- codes: no part of an expression, no statement that begins with its own mark, and no end of a body
unfoldable pub quiet : ℕ → Bool
quiet c = pick (is_part c) false (pick (is_alone c) false (pick (eqb c c_end_body) false true))

-- of no label, and of nothing that opens or closes
abbrev pub InLeaf : ℕ → Type 0
InLeaf c = (c < c_if) × (c ≡ c_label → ⊥)

-- a mark, of a statement or not
abbrev pub Mark : Bool → ℕ → Type 0
Mark b c = (quiet c ≡ true) × (is_lead c ≡ b) × InLeaf c

pub part_low : (c : ℕ) → is_part c ≡ true → (c ≤ c_choice) × (c ≡ c_text → ⊥)
part_low c e = (go (dec_lt c_choice c), λ z. true_false (sym e ∙ ap is_part z ∙ text-outside))
  where
    go : Dec (c_choice < c) → c ≤ c_choice
    go (yes h) = absurd (true_false (sym e ∙ mark-outside c (omega arith)))
    go (no h) = omega arith

-- ---- phrases, each with a mark behind it
pub data Phrases (P : ℕ → Type 0) : List Item → Type 0 where
  none : Phrases P []
  said : (p : List Item) (y : Item) {l : List Item} → Every InPart p → P (code_of y) → Phrases P l → Phrases P (p ++ y ∷ l)

pub phrases_append : {P : ℕ → Type 0} {x y : List Item} → Phrases P x → Phrases P y → Phrases P (x ++ y)
phrases_append none b = b
phrases_append {P} {y = v} (said p y {l} e q a) b = subst (Phrases P) (sym (append_assoc p (y ∷ l) v)) (said p y e q (phrases_append a b))

phrases_each : {P : ℕ → Type 0} {A : Type 0} (f : A → List Item) → ((a : A) → Phrases P (f a)) → (l : List A) → Phrases P (each f l)
phrases_each f h [] = none
phrases_each f h (a ∷ l) = phrases_append (h a) (phrases_each f h l)

-- ---- statements; the test says whether it is `else`
pub data Leafy : Bool → List Item → Type 0 where
  led : (p : List Item) (y : Item) {l : List Item} → 1 ≤ length p → Every InPart p → Mark true (code_of y) → Phrases (Mark false) l → Leafy false (p ++ y ∷ l)
  alone : (x : Item) {l : List Item} → is_alone (code_of x) ≡ true → InLeaf (code_of x) → Phrases (Mark false) l → Leafy (eqb (code_of x) c_else) (x ∷ l)

phrase : {s : Shape} (e : Exp s) (y : Item) → Mark false (code_of y) → Phrases (Mark false) (code_exp e ++ y ∷ [])
phrase e y m = said (code_exp e) y (exp_parts e) m none

by_phrase : {s : Shape} (e : Exp s) (y : Item) → Mark true (code_of y) → Leafy false (code_exp e ++ y ∷ [])
by_phrase e y m = led (code_exp e) y (some-items e) (exp_parts e) m none

spread : {s : Shape} (e : Exp s) (y : Item) (m l : List Item) → Mark true (code_of y) → Phrases (Mark false) (m ++ l) → Leafy false (code_exp e ++ y ∷ m ++ l)
spread e y m l k q = subst (Leafy false) (sym (append_assoc (code_exp e) (y ∷ m) l)) (led (code_exp e) y (some-items e) (exp_parts e) k q)

arguments : (es : List Expr) → Phrases (Mark false) (each code_argument es ++ i_end ∷ [])
unfolding quiet is_part is_alone is_lead
arguments es =
    phrases_append (phrases_each code_argument (λ e. phrase e i_argument (refl, refl, (omega arith, λ z. omega arith))) es) (said [] i_end tt (refl, refl, (omega arith, λ z. omega arith)) none)

received : (x : Received) → Phrases (Mark false) (code_received x)
unfolding quiet is_part is_alone is_lead
received (into r) = phrase r i_into (refl, refl, (omega arith, λ z. omega arith))
received (equal e) = phrase e i_equal (refl, refl, (omega arith, λ z. omega arith))
received (exactly n) = said (i_number n ∷ []) i_constant (λ k. refl, tt) (refl, refl, (omega arith, λ z. omega arith)) none
received exactly_true = said (i_true ∷ []) i_constant (λ k. refl, tt) (refl, refl, (omega arith, λ z. omega arith)) none
received exactly_false = said (i_false ∷ []) i_constant (λ k. refl, tt) (refl, refl, (omega arith, λ z. omega arith)) none

pub leafy : (l : Leaf) → Leafy (is_else l) (code_leaf l)
unfolding quiet is_part is_alone is_lead
leafy (express e) = by_phrase e i_express (refl, refl, (omega arith, λ z. omega arith))
leafy (assign r e) = spread r i_target (code_exp e) (i_assign ∷ []) (refl, refl, (omega arith, λ z. omega arith)) (phrase e i_assign (refl, refl, (omega arith, λ z. omega arith)))
leafy (increment r) = by_phrase r i_increment (refl, refl, (omega arith, λ z. omega arith))
leafy (decrement r) = by_phrase r i_decrement (refl, refl, (omega arith, λ z. omega arith))
leafy (send o r es) = spread r (i_send o) (each code_argument es) (i_end ∷ []) (refl, refl, (omega arith, λ z. omega arith)) (arguments es)
leafy (receive o r xs) =
    spread r (i_receive o) (each code_received xs) (i_end ∷ []) (refl, refl, (omega arith, λ z. omega arith))
    (phrases_append (phrases_each code_received received xs) (said [] i_end tt (refl, refl, (omega arith, λ z. omega arith)) none))
leafy (assert e) = by_phrase e i_assert (refl, refl, (omega arith, λ z. omega arith))
leafy (print w es) = alone (i_text w) refl (omega arith, λ z. omega arith) (arguments es)
leafy skip = alone i_skip refl (omega arith, λ z. omega arith) none
leafy (goto w) = led (i_name w ∷ []) i_goto (omega arith) (λ k. refl, tt) (refl, refl, (omega arith, λ z. omega arith)) none
leafy break = alone i_break refl (omega arith, λ z. omega arith) none
leafy timeout = alone i_timeout refl (omega arith, λ z. omega arith) none
leafy else = alone i_else refl (omega arith, λ z. omega arith) none
leafy (run w es) = led (i_name w ∷ []) i_run (omega arith) (λ k. refl, tt) (refl, refl, (omega arith, λ z. omega arith)) (arguments es)
leafy (set_run r w es) =
    spread r i_target (i_name w ∷ i_set_run ∷ each code_argument es) (i_end ∷ []) (refl, refl, (omega arith, λ z. omega arith))
    (said (i_name w ∷ []) i_set_run (λ k. refl, tt) (refl, refl, (omega arith, λ z. omega arith)) (arguments es))

-- ---- the codes of its items
parts_codes : (p : List Item) → Every InPart p → Every InLeaf p
parts_codes p e = every_lift InPart InLeaf (λ c h. let z = (part_low c h).0 in (omega arith, λ y. omega arith)) p e

phrases_codes : {l : List Item} → Phrases (Mark false) l → Every InLeaf l
phrases_codes none = tt
phrases_codes (said p y {l} e m q) = every_append InLeaf p (y ∷ l) (parts_codes p e) (λ k. m.2, phrases_codes q)

leafy_codes : {b : Bool} {l : List Item} → Leafy b l → Every InLeaf l
leafy_codes (led p y {l} n e m q) = every_append InLeaf p (y ∷ l) (parts_codes p e) (λ k. m.2, phrases_codes q)
leafy_codes (alone x a i q) = (λ k. i, phrases_codes q)

pub leaf_codes : (l : Leaf) → Every InLeaf (code_leaf l)
leaf_codes l = leafy_codes (leafy l)

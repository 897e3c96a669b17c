-- A terminal is eaten by kinds exactly where `parse_grammar` eats it by tokens. Assumes nothing.
use Prim.Native.Nat.{ℕ, zero, suc, ◌≤◌, ◌<◌, min}
use native.Mathlib.Omega.{arith}
use native.Mathlib.Nat.{not-suc-le-zero, le_of_suc-le-suc}
use mathlib.Core.Path.{◌≡◌, refl, sym as inv, subst}
use mathlib.Core.Bool.{Bool, true, false, cond}
use mathlib.Core.Option.{none, some}
use mathlib.Core.List.{List, [], ◌∷◌}
use mathlib.Core.Logic.{⊎_elim}
use lib.ListN.{length, get_or}
use lib.Dec.{eqb, ltb}
use borrow.Author.Tests.{eq-eqb, ne_eqb, lt-ltb, eqb-true, eqb-false}
use Rattle.base_kinds.specs.Kinds.{Token, sym, name, number, text, kind_of}
use Rattle.base_bytes.specs.Choice.{pick}
use Rattle.base_codes.specs.Items.{Item}
use Rattle.parse_grammar.specs.Productions.{Ter, sy, any_name, any_number, any_text, eats}
use Rattle.parse_tables.specs.Numbering.{terminal}
use Rattle.parse_machine.specs.Machine.{clipped}
use Rattle.parse_machine.specs.Items.{held, Proper, AllProper}

-- a terminal's number is one of three, or that of a fixed token
data View : ℕ → Ter → Type 0 where
  a_name : View 70 any_name
  a_number : View 71 any_number
  a_text : View 72 any_text
  fixed : {x : ℕ} → x < 70 → View x (sy x)

view : (x : ℕ) → x < 73 → View x (terminal x)
view x h = go (eqb x 70) refl (eqb x 71) refl (eqb x 72) refl
  where
    at : (j : ℕ) (t : Ter) → View j t → x ≡ j → View x t
    at j t w e = subst (λ (i : ℕ). View i t) (inv e) w

    go : (a : Bool) → eqb x 70 ≡ a → (b : Bool) → eqb x 71 ≡ b → (c : Bool) → eqb x 72 ≡ c → View x (cond a any_name (cond b any_number (cond c any_text (sy x))))
    go true e b f c g = at 70 any_name a_name (eqb-true x 70 e)
    go false e true f c g = at 71 any_number a_number (eqb-true x 71 f)
    go false e false f true g = at 72 any_text a_text (eqb-true x 72 g)
    go false e false f false g = fixed {x = x} (omega (arith, eqb-false x 70 e, eqb-false x 71 f, eqb-false x 72 g))

clipped_is : (k x : ℕ) → x < 73 → x ≡ clipped k → k ≡ x
clipped_is k x h e = go (eqb k 0) e
  where
    go : (b : Bool) → x ≡ pick b 73 (min k 73) → k ≡ x
    go true e' = absurd (omega arith)
    go false e' = omega arith

is_clipped : (k x : ℕ) → 1 ≤ x → x < 73 → k ≡ x → x ≡ clipped k
is_clipped k x l h e = let ne : k ≡ 0 → ⊥ = (λ z. omega arith) in simp (ne_eqb k 0 ne) (omega arith)

-- what is written
abbrev pub eaten_items : ℕ → Token → List Item
eaten_items x c = pick (ltb x 70) [] (held c ∷ [])

by_view : (c : Token) (x : ℕ) (t : Ter) → View x t → Proper c → kind_of c ≡ x → eats t c ≡ some (eaten_items x c)
by_view (sym k) x t a_name p e = absurd (⊎_elim (λ h. omega arith) (λ h. omega arith) p)
by_view (sym k) x t a_number p e = absurd (⊎_elim (λ h. omega arith) (λ h. omega arith) p)
by_view (sym k) x t a_text p e = absurd (⊎_elim (λ h. omega arith) (λ h. omega arith) p)
by_view (sym k) x t (fixed h) p e = simp (eq-eqb x k (inv e), lt-ltb x 70 h)
by_view (name w) x t a_name p e = refl
by_view (name w) x t a_number p e = absurd (let z : ◌≡◌ {A = ℕ} 70 71 = e in omega arith)
by_view (name w) x t a_text p e = absurd (let z : ◌≡◌ {A = ℕ} 70 72 = e in omega arith)
by_view (name w) x t (fixed h) p e = absurd (let z : 70 ≡ x = e in omega arith)
by_view (number n) x t a_name p e = absurd (let z : ◌≡◌ {A = ℕ} 71 70 = e in omega arith)
by_view (number n) x t a_number p e = refl
by_view (number n) x t a_text p e = absurd (let z : ◌≡◌ {A = ℕ} 71 72 = e in omega arith)
by_view (number n) x t (fixed h) p e = absurd (let z : 71 ≡ x = e in omega arith)
by_view (text w) x t a_name p e = absurd (let z : ◌≡◌ {A = ℕ} 72 70 = e in omega arith)
by_view (text w) x t a_number p e = absurd (let z : ◌≡◌ {A = ℕ} 72 71 = e in omega arith)
by_view (text w) x t a_text p e = refl
by_view (text w) x t (fixed h) p e = absurd (let z : 72 ≡ x = e in omega arith)

pub eats-same : (c : Token) (x : ℕ) → Proper c → x < 73 → x ≡ clipped (kind_of c) → eats (terminal x) c ≡ some (eaten_items x c)
eats-same c x p h e = by_view c x (terminal x) (view x h) p (clipped_is (kind_of c) x h e)

not_by_view : (c : Token) (x : ℕ) (t : Ter) → View x t → (kind_of c ≡ x → ⊥) → eats t c ≡ none
not_by_view (sym k) x t a_name ne = refl
not_by_view (sym k) x t a_number ne = refl
not_by_view (sym k) x t a_text ne = refl
not_by_view (sym k) x t (fixed h) ne = simp (ne_eqb x k (λ e. ne (inv e)))
not_by_view (name w) x t a_name ne = absurd (ne refl)
not_by_view (name w) x t a_number ne = refl
not_by_view (name w) x t a_text ne = refl
not_by_view (name w) x t (fixed h) ne = refl
not_by_view (number n) x t a_name ne = refl
not_by_view (number n) x t a_number ne = absurd (ne refl)
not_by_view (number n) x t a_text ne = refl
not_by_view (number n) x t (fixed h) ne = refl
not_by_view (text w) x t a_name ne = refl
not_by_view (text w) x t a_number ne = refl
not_by_view (text w) x t a_text ne = absurd (ne refl)
not_by_view (text w) x t (fixed h) ne = refl

pub eats_other : (c : Token) (x : ℕ) → 1 ≤ x → x < 73 → (x ≡ clipped (kind_of c) → ⊥) → eats (terminal x) c ≡ none
eats_other c x l h ne = not_by_view c x (terminal x) (view x h) (λ e. ne (is_clipped (kind_of c) x l h e))

pub proper_at : (ts : List Token) (i : ℕ) → AllProper ts → i < length ts → Proper (get_or ts i (sym 0))
proper_at [] i p h = absurd (not-suc-le-zero h)
proper_at (c ∷ ts) zero p h = p.0
proper_at (c ∷ ts) (suc i) p h = proper_at ts i p.1 (le_of_suc-le-suc h)

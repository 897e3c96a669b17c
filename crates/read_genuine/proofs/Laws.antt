-- The laws that the check cites.
use mathlib.Core.Path.{◌≡◌, refl, sym, ap, ◌∙◌}
use mathlib.Core.Bool.{Bool, true, false}
use mathlib.Core.List.{List, [], ◌∷◌, ◌++◌}
use Prim.Native.Nat.{ℕ, ◌≤◌, ◌<◌, min}
use native.Mathlib.Omega.{arith}
use borrow.Author.Tests.{lt-ltb, le-ltb}
use lib.ListN.{length, get_or, take, drop, length-append}
use lib.Seq.{take_at}
use Rattle.base_ceilings.specs.Ceilings.{normal_most, tables_room}
use Rattle.base_bytes.specs.Lists.{same}
use Rattle.parse_machine.proofs.Never.{lt_or_ge}
use mathlib.Core.Logic.{◌⊎◌, inl, inr}
use Rattle.base_pens.specs.Pen.{pen, puts}
use Rattle.base_pens.proofs.Pen.{puts_fit, puts-full, list_of, at_of}
use Rattle.table_layout.proofs.Holds.{holds-length}
use Rattle.table_layout.proofs.Fits.{length-tables}
use Rattle.table_layout.specs.Trees.{entries_in}
use Rattle.std.specs.Prelude.{Result, Ok, Err, is_ok}
use Rattle.base_refusal.specs.declared.Refusal.{Refusal}
use Rattle.read_passes.specs.Judging.{judge_of, tables_text}
use Rattle.read_accepts_proof.specs.Meaning.{Accepts, links_at}
use Rattle.read_accepts_proof.proofs.Main.{accepted_means}
use Rattle.read_accepts_proof.proofs.Tables.{text-tables}
use Rattle.read_entry.specs.Entries.{read_of, stays, left_of}
use Rattle.read_entry.proofs.Laws.{whole_room}
use Rattle.read_genuine.specs.Genuine.{written, agrees, returns}

-- ---- the tables of an accepted text, with anything behind them, are their own written part
pub counted : (t : List ℕ) → Accepts t → get_or (tables_text t) 0 0 ≡ length (tables_text t)
counted t a = rw (text-tables t a) (holds-length (entries_in a.tree) (links_at t a))

-- tables have at least four numbers
first_in : (xs ys : List ℕ) → get_or xs 0 0 ≡ length xs → 0 < length xs → get_or (xs ++ ys) 0 0 ≡ length xs
first_in [] ys e h = absurd (omega arith)
first_in (x ∷ xs) ys e h = e

pub written-front : (xs ys : List ℕ) → get_or xs 0 0 ≡ length xs → 0 < length xs → written (xs ++ ys) ≡ xs
written-front xs ys e h =
    ap (λ (n : ℕ). take (min n (length (xs ++ ys))) (xs ++ ys)) (first_in xs ys e h)
    ∙ take_at xs ys (min (length xs) (length (xs ++ ys))) (omega (arith, length-append xs ys))

pub some-numbers : (t : List ℕ) → Accepts t → 0 < length (tables_text t)
some-numbers t a = rw (text-tables t a) (omega (arith, length-tables (entries_in a.tree) (links_at t a)))

accepted_if : (r : Result (Unit {0}) Refusal) → is_ok r ≡ true → r ≡ Ok tt
accepted_if (Ok u) h = refl
accepted_if (Err x) h = absurd (let z : ◌≡◌ {A = ℕ} 0 1 = cc in omega arith)

-- ---- a text that is read into an array of the whole room
module _ (t old new : List ℕ) (r : Result (Unit {0}) Refusal) (l : length old ≡ tables_room) (e : r ≡ read_of t old) (f : new ≡ left_of t old) where
  left_is : new ≡ stays (judge_of t) (tables_text t) old
  unfolding left_of
  left_is = f ∙ ap (λ (j : Result (Unit {0}) Refusal). stays j (tables_text t) old) (sym e ∙ whole_room t old r l e)

  pub gives_accepted : (w : List ℕ) (b : Bool) → is_ok r ≡ true → b ≡ same w (written new) → b ≡ agrees (judge_of t) w (tables_text t)
  gives_accepted w b q g =
      let j : judge_of t ≡ Ok tt = sym (whole_room t old r l e) ∙ accepted_if r q in
      let a = accepted_means t j in
      let n : new ≡ tables_text t ++ drop (length (tables_text t)) old = left_is ∙ ap (λ (z : Result (Unit {0}) Refusal). stays z (tables_text t) old) j in
      g ∙ ap (λ (z : List ℕ). same w (written z)) n ∙ ap (same w) (written-front (tables_text t) (drop (length (tables_text t)) old) (counted t a) (some-numbers t a))
      ∙ sym (ap (λ (z : Result (Unit {0}) Refusal). agrees z w (tables_text t)) j)

  pub gives_refused : (w : List ℕ) → is_ok r ≡ false → false ≡ agrees (judge_of t) w (tables_text t)
  gives_refused w q = go (judge_of t) (ap is_ok (sym (whole_room t old r l e)) ∙ q)
    where
      go : (j : Result (Unit {0}) Refusal) → is_ok j ≡ false → false ≡ agrees j w (tables_text t)
      go (Ok u) h = absurd (let z : ◌≡◌ {A = ℕ} 0 1 = cc in omega arith)
      go (Err x) h = refl

-- ---- a text in an array
module _ (u old new : List ℕ) (r : ℕ) (l : length old ≡ normal_most) (e : pen new r ≡ puts u (pen old 0)) where
  long_if : normal_most < r → normal_most < length u
  long_if h = go (lt_or_ge (length old) (length u))
    where
      go : (length old < length u) ⊎ (length u ≤ length old) → normal_most < length u
      go (inl k) = omega arith
      go (inr k) = absurd (omega (arith, at_of (e ∙ puts_fit u old k)))

  short_if : r ≤ normal_most → length u ≤ length old
  short_if h = go (lt_or_ge (length old) (length u))
    where
      go : (length old < length u) ⊎ (length u ≤ length old) → length u ≤ length old
      go (inl k) = absurd (omega (arith, at_of (e ∙ puts-full u old k)))
      go (inr k) = k

  pub too_long : (w : List ℕ) → normal_most < r → false ≡ returns w u
  unfolding returns
  too_long w h = simp (lt-ltb normal_most (length u) (long_if h))

  pub text_in : r ≤ normal_most → take r new ≡ u
  text_in h =
      let k = short_if h in
      let p = e ∙ puts_fit u old k in
      ap (take r) (list_of p) ∙ take_at u (drop (length u) old) r (sym (at_of p))

  pub fits_in : (w : List ℕ) (b : Bool) → r ≤ normal_most → b ≡ agrees (judge_of (take r new)) w (tables_text (take r new)) → b ≡ returns w u
  unfolding returns
  fits_in w b h g = g ∙ rw (text_in h, le-ltb normal_most (length u) (omega (arith, short_if h)))

-- The laws that the entries cite.
use mathlib.Core.Path.{◌≡◌, refl, sym, ap, ap₂, ◌∙◌}
use mathlib.Core.List.{List}
use Prim.Native.Nat.{ℕ, ◌+◌, ◌-◌, ◌≤◌}
use native.Mathlib.Omega.{arith}
use borrow.Author.Tests.{le-ltb}
use lib.ListN.{length, take, drop}
use Rattle.base_ceilings.specs.Ceilings.{tables_room}
use Rattle.std.specs.Prelude.{Result, Ok, Err}
use Rattle.base_refusal.specs.declared.Refusal.{Refusal}
use Rattle.read_passes.specs.Judging.{judge_of, left, tables_text}
use Rattle.read_accepts_proof.proofs.Main.{accepted_means}
use Rattle.read_accepts_proof.proofs.Tables.{text-laid}
use Rattle.read_entry.specs.Entries.{read_of, stays, left_of, part_start, part, behind, Bounded}

-- ---- reading
module _ (t old : List ℕ) where
  room-read : (r : Result (Unit {0}) Refusal) → tables_room ≤ length old → r ≡ judge_of t → r ≡ read_of t old
  unfolding read_of
  room-read r h e = simp (le-ltb (length old) tables_room h) e

  clean : (r : Result (Unit {0}) Refusal) → tables_room ≤ length old → r ≡ judge_of t → left r (tables_text t) old ≡ stays r (tables_text t) old
  clean (Ok u) h e = text-laid t (accepted_means t (sym e)) old h
  clean (Err r) h e = refl

  pub room-left : (r : Result (Unit {0}) Refusal) (new : List ℕ) → tables_room ≤ length old → r ≡ judge_of t → new ≡ left r (tables_text t) old → new ≡ left_of t old
  unfolding left_of
  room-left r new h e g = g ∙ clean r h e ∙ ap (λ (j : Result (Unit {0}) Refusal). stays j (tables_text t) old) (room-read r h e)

-- in tables of the whole room the answer is that of the text alone
pub whole_room : (t old : List ℕ) (r : Result (Unit {0}) Refusal) → length old ≡ tables_room → r ≡ read_of t old → r ≡ judge_of t
unfolding read_of
whole_room t old r l e = e ∙ simp (le-ltb (length old) tables_room (omega arith))

-- ---- the part that an answer names
-- the part between bounds, and where it lies
pub part_is : (t : List ℕ) (j k : Result (Unit {0}) Refusal) (a e : ℕ) → j ≡ k → Bounded (length t) j a e → take (e - a) (drop a t) ≡ part t k
part_is t j k a e q b = ap₂ (λ x y. take (y - x) (drop x t)) b.begins b.ends ∙ ap (part t) q

pub part_lies : (n : ℕ) (j k : Result (Unit {0}) Refusal) (a e x y : ℕ) → j ≡ k → Bounded n j a e → ◌≡◌ {A = ℕ × ℕ} (x, a + y) (behind (x, y) (part_start n k))
part_lies n j k a e x y q b = ap (λ z. (x, z)) (let z : a + y ≡ y + a = omega arith in z ∙ ap (y +◌) (b.begins ∙ ap (part_start n) q))

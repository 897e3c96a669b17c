-- ANSWERS OF THE CODE by what the machine says, as `agree_machine` has them and as they are stated here.
use Prim.Native.Nat.{ℕ, zero, suc, ◌+◌, ◌-◌}
use native.Mathlib.Omega.{arith}
use mathlib.Core.Path.{◌≡◌, refl, ap, ◌∙◌}
use mathlib.Core.List.{List, [], ◌∷◌, ◌++◌}
use lib.ListN.{length, drop}
use lib.IntN.{ℤ}
use Rattle.base_outcome.specs.declared.Taken.{Taken}
use Rattle.base_outcome.specs.declared.Taken.TheVariants.{Done, Refuted, Faulted, Idle}
use Rattle.step_all.specs.Moving.{nth_in, verdict_as}
use Rattle.step_entry.specs.Entries.{Outcome, took_by, standing_of, offer_by}
use Rattle.step_entry.specs.declared.Listed.TheVariants as listed
use Rattle.step_entry.specs.declared.Stepped.{Stepped}
use Rattle.step_entry.specs.declared.Stepped.TheVariants as stepped
use Rattle.spec_machine.specs.Machine.{Step, Verdict, finished, blocked, «open»}
use Rattle.step_take.proofs.Still.{Still}
use Rattle.agree_machine.proofs.Step.{Silent}
use Rattle.demands.proofs.Entries.{standing_by, listed_by, done_by}

pub as-standing : (v : Verdict) → standing_of (verdict_as v) ≡ standing_by v
as-standing finished = refl
as-standing blocked = refl
as-standing «open» = refl

-- the n-th of the steps, behind k others
nth-listed : (l : List Step) (k n : ℕ) → offer_by (nth_in n l) (k + n) ≡ listed_by (k + length l) n l
unfolding nth_in
nth-listed [] k n = ap listed.Only (let z : k + n - n ≡ k + 0 = omega arith in z)
nth-listed (x ∷ l) k zero = refl
nth-listed (x ∷ l) k (suc n) =
    ap (offer_by (nth_in n l)) (let z : k + suc n ≡ suc k + n = omega arith in z) ∙ nth-listed l (suc k) n
    ∙ ap (λ i. listed_by i n l) (let z : suc k + length l ≡ k + suc (length l) = omega arith in z)

pub as-listed : (l : List Step) (n : ℕ) → offer_by (nth_in n l) n ≡ listed_by (length l) n l
as-listed l n =
    ap (offer_by (nth_in n l)) (let z : n ≡ 0 + n = omega arith in z) ∙ nth-listed l 0 n ∙ ap (λ i. listed_by i n l) (let z : 0 + length l ≡ length l = omega arith in z)

-- a step that is not done leaves the numbers as they were, and prints nothing
module _ {S : Type 0} (numbers : S → List ℤ) (σ : S) (out : List ℕ) where
  abbrev outcome : Taken → S → List ℕ → Outcome
  outcome k τ text = record { answer = took_by k (length text); state = numbers τ; printed = text ++ drop (length text) out }

  unmoved : (r : ℕ → Stepped) (a : Stepped) (τ : S) (text : List ℕ) → r 0 ≡ a → τ ≡ σ → text ≡ []
      → ◌≡◌ {A = Outcome} (record { answer = r (length text); state = numbers τ; printed = text ++ drop (length text) out }) (record { answer = a; state = numbers σ; printed = out })
  unmoved r a τ text q e z = rw (z, e, q)

  pub as-done : (k : Taken) (τ : S) (text : List ℕ) → Still σ k τ → Silent k text → outcome k τ text ≡ done_by (numbers σ) out k (numbers τ) text
  as-done Done τ text e z = refl
  as-done Refuted τ text e z = unmoved (took_by Refuted) stepped.Assert τ text refl e z
  as-done (Faulted f) τ text e z = unmoved (took_by (Faulted f)) (stepped.Fault f) τ text refl e z
  as-done Idle τ text e z = unmoved (took_by Idle) (stepped.Refused 11) τ text refl e z

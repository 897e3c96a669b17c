-- VERDICTS of a machine whose ended processes are offered nothing: finished exactly when all have ended, blocked exactly when no step is offered and some process has not ended, open exactly when a step is offered.
use Prim.Native.Nat.{ℕ, zero, suc, ◌+◌, ◌≤◌, ◌<◌}
use native.Mathlib.Omega.{arith}
use native.Mathlib.Decide.{ℕ_discrete}
use mathlib.Core.Path.{◌≡◌, refl, sym as inv, ap, ◌∙◌, subst}
use mathlib.Core.Bool.{Bool, true, false}
use mathlib.Core.Logic.{◌↔◌}
use mathlib.Core.List.{List, [], ◌∷◌}
use lib.ListN.{length}
use Rattle.base_bytes.specs.Choice.{pick}
use Rattle.base_bytes.proofs.Tests.{true_false}
use Rattle.spec_machine.specs.Machine.{Machine, Step, Verdict, finished, blocked, «open», late, offered, ended_from, verdict_by, verdict}
use Rattle.demands.specs.Walks.{Nth, here, later, Offers}
use Rattle.demands.proofs.Offers.{none-listed, first-offers}

-- verdicts by numbers, to tell them apart
abbrev rank : Verdict → ℕ
rank finished = 1
rank blocked = 2
rank «open» = 3

none-nth : {A : Type 0} {y : A} {k : ℕ} {l : List A} → Nth y k l → l ≡ [] → ⊥
none-nth (here {l = l}) e = let n : suc (length l) ≡ 0 = ap length e in omega arith
none-nth (later {l = l} h) e = let n : suc (length l) ≡ 0 = ap length e in omega arith

module _ {S : Type 0} (M : Machine S) (s : S) (rests : (p : ℕ) → M.ended s p ≡ true → M.steps s (late M s) p ≡ []) where
  ended-all : (p n : ℕ) → ended_from M s p n ≡ true → (i : ℕ) → p ≤ i → i < p + n → M.ended s i ≡ true
  unfolding ended_from
  ended-all p zero e i h g = absurd (omega arith)
  ended-all p (suc n) e i h g = go (M.ended s p) refl e (ℕ_discrete p i) (λ f a. ended-all (p + 1) n f i a (omega arith))
    where
      go : (b : Bool) → M.ended s p ≡ b → pick b (ended_from M s (p + 1) n) false ≡ true → Dec (p ≡ i) → (ended_from M s (p + 1) n ≡ true → p + 1 ≤ i → M.ended s i ≡ true) → M.ended s i ≡ true
      go true u e (yes z) f = subst (λ j. M.ended s j ≡ true) z u
      go true u e (no z) f = f e (omega arith)
      go false u e d f = absurd (true_false (inv e))

  all-ended : (p n : ℕ) → ((i : ℕ) → p ≤ i → i < p + n → M.ended s i ≡ true) → ended_from M s p n ≡ true
  unfolding ended_from
  all-ended p zero h = refl
  all-ended p (suc n) h = ap (λ b. pick b (ended_from M s (p + 1) n) false) (h p (omega arith) (omega arith)) ∙ all-ended (p + 1) n (λ i a b. h i (omega arith) (omega arith))

  record Unended (p n : ℕ) : Type 0 where
    process : ℕ
    least : p ≤ process
    most : process < p + n
    not : M.ended s process ≡ false

  some_unended : (p n : ℕ) → ended_from M s p n ≡ false → Unended p n
  unfolding ended_from
  some_unended p zero e = absurd (true_false e)
  some_unended p (suc n) e = go (M.ended s p) refl e (λ f. some_unended (p + 1) n f)
    where
      go : (b : Bool) → M.ended s p ≡ b → pick b (ended_from M s (p + 1) n) false ≡ false → (ended_from M s (p + 1) n ≡ false → Unended (p + 1) n) → Unended p (suc n)
      go true u e f = let r = f e in let a = r.least in let b = r.most in record { process = r.process; least = omega arith; most = omega arith; not = r.not }
      go false u e f = record { process = p; least = omega arith; most = omega arith; not = u }

  -- ---- the verdict
  abbrev all_ended : Bool
  all_ended = ended_from M s 0 (M.processes s)

  judged : (b : Bool) (l : List Step) → all_ended ≡ b → offered M s ≡ l → verdict M s ≡ verdict_by M b l
  unfolding verdict
  judged b l e f = ap (λ c. verdict_by M c (offered M s)) e ∙ ap (λ k. verdict_by M b k) f

  none_offered : all_ended ≡ true → (x : Step) → Offers M s x → ⊥
  none_offered e x h = let l = h.there in none-nth h.listed (rests x.process (ended-all 0 (M.processes s) e x.process (omega arith) (omega arith)))

  -- a case of the verdict, and what it means
  pub finished_exactly : verdict M s ≡ finished ↔ ((p : ℕ) → p < M.processes s → M.ended s p ≡ true)
  finished_exactly = (
    (λ e. go all_ended (offered M s) refl refl e),
    (λ h. judged true (offered M s) (all-ended 0 (M.processes s) (λ i a b. h i (omega arith))) refl),
  )
    where
      go : (b : Bool) (l : List Step) → ended_from M s 0 (M.processes s) ≡ b → offered M s ≡ l → verdict M s ≡ finished → (p : ℕ) → p < M.processes s → M.ended s p ≡ true
      go true l u v e p h = ended-all 0 (M.processes s) u p (omega arith) (omega arith)
      go false [] u v e p h = absurd (let z : ◌≡◌ {A = ℕ} 2 1 = ap rank (inv (judged false [] u v) ∙ e) in omega arith)
      go false (x ∷ l) u v e p h = absurd (let z : ◌≡◌ {A = ℕ} 3 1 = ap rank (inv (judged false (x ∷ l) u v) ∙ e) in omega arith)

  abbrev pub Blocked : Type 0
  Blocked = ((x : Step) → Offers M s x → ⊥) × ((p : ℕ) × (p < M.processes s) × (M.ended s p ≡ false))

  pub blocked_exactly : verdict M s ≡ blocked ↔ Blocked
  blocked_exactly = ((λ e. go all_ended (offered M s) refl refl e), (λ h. back h all_ended (offered M s) refl refl))
    where
      go : (b : Bool) (l : List Step) → ended_from M s 0 (M.processes s) ≡ b → offered M s ≡ l → verdict M s ≡ blocked
          → ((x : Step) → Offers M s x → ⊥) × ((p : ℕ) × (p < M.processes s) × (M.ended s p ≡ false))
      go true l u v e = absurd (let z : ◌≡◌ {A = ℕ} 1 2 = ap rank (inv (judged true l u v) ∙ e) in omega arith)
      go false [] u v e = let r = some_unended 0 (M.processes s) u in let h = r.most in (none-listed M s v, (r.process, omega arith, r.not))
      go false (x ∷ l) u v e = absurd (let z : ◌≡◌ {A = ℕ} 3 2 = ap rank (inv (judged false (x ∷ l) u v) ∙ e) in omega arith)

      back : ((x : Step) → Offers M s x → ⊥) × ((p : ℕ) × (p < M.processes s) × (M.ended s p ≡ false)) → (b : Bool) (l : List Step) → ended_from M s 0 (M.processes s) ≡ b → offered M s ≡ l
          → verdict M s ≡ blocked
      back h true l u v = let i = h.1.1 in absurd (true_false (inv (ended-all 0 (M.processes s) u h.1.0 (omega arith) (omega arith)) ∙ h.1.2))
      back h false [] u v = judged false [] u v
      back h false (x ∷ l) u v = absurd (h.0 x (first-offers M s x l v))

  pub opened_exactly : verdict M s ≡ «open» ↔ (x : Step) × Offers M s x
  opened_exactly = ((λ e. go all_ended (offered M s) refl refl e), (λ h. back h all_ended (offered M s) refl refl))
    where
      go : (b : Bool) (l : List Step) → ended_from M s 0 (M.processes s) ≡ b → offered M s ≡ l → verdict M s ≡ «open» → (x : Step) × Offers M s x
      go true l u v e = absurd (let z : ◌≡◌ {A = ℕ} 1 3 = ap rank (inv (judged true l u v) ∙ e) in omega arith)
      go false [] u v e = absurd (let z : ◌≡◌ {A = ℕ} 2 3 = ap rank (inv (judged false [] u v) ∙ e) in omega arith)
      go false (x ∷ l) u v e = (x, first-offers M s x l v)

      back : (x : Step) × Offers M s x → (b : Bool) (l : List Step) → ended_from M s 0 (M.processes s) ≡ b → offered M s ≡ l → verdict M s ≡ «open»
      back h true l u v = absurd (none_offered u h.0 h.1)
      back h false [] u v = absurd (none-listed M s v h.0 h.1)
      back h false (x ∷ l) u v = judged false (x ∷ l) u v

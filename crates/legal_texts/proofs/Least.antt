-- "WITHIN A PASS THE SMALLEST PLACE WINS, THEN THE SMALLEST NUMBER": what `checked` answers is the least of the items' faults.
use Prim.Native.Nat.{ℕ, zero, suc, ◌+◌, ◌≤◌, ◌<◌}
use native.Mathlib.Omega.{arith}
use mathlib.Core.Path.{◌≡◌, refl, sym, ap, ◌∙◌, subst}
use mathlib.Core.Bool.{Bool, true, false}
use mathlib.Core.Logic.{◌⊎◌, inl, inr, ◌↔◌}
use mathlib.Core.List.{List, [], ◌∷◌, ◌++◌}
use lib.ListN.{length}
use lib.Dec.{eqb, ltb}
use borrow.Author.Tests.{ltb-true, ltb-false}
use Rattle.base_bytes.specs.Choice.{pick}
use Rattle.rule_item.specs.Rules.{bad}
use Rattle.rule_least.specs.Faults.{place, sooner, joined, least_from, least_of, checked}
use Rattle.rule_least.specs.declared.Fault as answers
use Rattle.rule_least.specs.declared.Fault.TheVariants.{None, At}
use Rattle.rule_least.proofs.Theorems.{sooner-some}
use Rattle.spec_faults.specs.Faults.{Fault, Faults, fault_at, Among, here, there, Least}
use Rattle.legal_terms.specs.Faulted.{homes, starts, heights, fault_of, faults_from}

-- the least of a list, from its end
abbrev pub least_in : Faults → answers.Fault
least_in [] = None
least_in (f ∷ l) = sooner f.token f.number (least_in l)

-- number x at k comes no later than y at j
abbrev NoLater : ℕ → ℕ → ℕ → ℕ → Type 0
NoLater x k y j = (k < j) ⊎ ((k ≡ j) × (x ≤ y))

not_none : {x k : ℕ} → None ≡ At x k → ⊥
not_none e = let z : ◌≡◌ {A = ℕ} 0 1 = cc in omega arith

later : (x k y j z i : ℕ) → NoLater x k y j → NoLater y j z i → NoLater x k z i
later x k y j z i (inl a) (inl b) = inl (omega arith)
later x k y j z i (inl a) (inr (b, c)) = inl (omega arith)
later x k y j z i (inr (a, b)) (inl c) = inl (omega arith)
later x k y j z i (inr (a, b)) (inr (c, d)) = inr (omega arith, omega arith)

-- the sooner of two
record First (p m : ℕ) (q l : ℕ) (x k : ℕ) : Type 0 where
  one : ((x ≡ m) × (k ≡ p)) ⊎ ((x ≡ l) × (k ≡ q))
  left : NoLater x k m p
  right : NoLater x k l q

first : (p m q l x k : ℕ) → sooner p m (At l q) ≡ At x k → First p m q l x k
unfolding sooner
first p m q l x k e = go (ltb p q) refl (ltb q p) refl (ltb l m) refl e
  where
    mine : At m p ≡ At x k → NoLater m p l q → First p m q l x k
    mine e n =
        let a : m ≡ x = cc in
        let b : p ≡ k = cc in
        record { one = inl (sym a, sym b); left = inr (sym b, omega arith); right = subst (λ y. NoLater y k l q) a (subst (λ y. NoLater m y l q) b n) }

    other : At l q ≡ At x k → NoLater l q m p → First p m q l x k
    other e n =
        let a : l ≡ x = cc in
        let b : q ≡ k = cc in
        record { one = inr (sym a, sym b); left = subst (λ y. NoLater y k m p) a (subst (λ y. NoLater l y m p) b n); right = inr (sym b, omega arith) }

    go : (a : Bool) → ltb p q ≡ a → (b : Bool) → ltb q p ≡ b → (c : Bool) → ltb l m ≡ c → pick a (At m p) (pick b (At l q) (pick c (At l q) (At m p))) ≡ At x k → First p m q l x k
    go true u b v c w e = mine e (inl (ltb-true p q u))
    go false u true v c w e = other e (inl (ltb-true q p v))
    go false u false v true w e = other e (inr (let y = ltb-false p q u in let z = ltb-false q p v in omega arith, let y = ltb-true l m w in omega arith))
    go false u false v false w e = mine e (inr (let y = ltb-false p q u in let z = ltb-false q p v in omega arith, ltb-false l m w))

-- ---- of a list
empty-least : (l : Faults) → least_in l ≡ None → l ≡ []
empty-least [] h = refl
empty-least (g ∷ m) h = absurd (sooner-some g.token g.number (least_in m) h)

alone : (f : Fault) (x k : ℕ) → sooner f.token f.number None ≡ At x k → (f.number ≡ x) × (f.token ≡ k)
unfolding sooner
alone f x k e = (cc, cc)

same_head : (f : Fault) (l : Faults) {y j : ℕ} → f.number ≡ y → f.token ≡ j → Among y j (f ∷ l)
same_head f l a b = rw (← a, ← b) here

in_least : (l : Faults) (x k : ℕ) → least_in l ≡ At x k → Least l x k
in_least [] x k e = absurd (not_none e)
in_least (f ∷ l) x k e = go (least_in l) refl (in_least l) e
  where
    near : (y j : ℕ) → Among y j (f ∷ []) → f.number ≡ x → f.token ≡ k → NoLater x k y j
    near y j here a b = inr (sym b, omega arith)
    near y j (there x8) a b = elim x8 [ ]

    go : (r : answers.Fault) → least_in l ≡ r → ((y j : ℕ) → least_in l ≡ At y j → Least l y j) → sooner f.token f.number r ≡ At x k → Least (f ∷ l) x k
    go None q r e =
        let z = alone f x k e in
        let w = empty-least l q in
        record { is = same_head f l z.0 z.1; soonest = λ y j n. near y j (subst (λ m. Among y j (f ∷ m)) w n) z.0 z.1 }
    go (At y j) q r e =
        let z = first f.token f.number j y x k e in
        let s = r y j q in
        record { is = place z.one s.is; soonest = λ a b n. after a b n z.left z.right s.soonest }
      where
        place : ((x ≡ f.number) × (k ≡ f.token)) ⊎ ((x ≡ y) × (k ≡ j)) → Among y j l → Among x k (f ∷ l)
        place (inl (a, b)) n = same_head f l (sym a) (sym b)
        place (inr (a, b)) n = there {l = l} (rw (a, b) n)

        after : (a b : ℕ) → Among a b (f ∷ l) → NoLater x k f.number f.token → NoLater x k y j → ((c d : ℕ) → Among c d l → NoLater y j c d) → NoLater x k a b
        after a b here u v w = u
        after a b (there n) u v w = later x k y j a b v (w a b n)

-- two that are both the least are one
once : (x k y j : ℕ) → NoLater x k y j → NoLater y j x k → (x ≡ y) × (k ≡ j)
once x k y j (inl a) (inl b) = absurd (omega arith)
once x k y j (inl a) (inr (b, c)) = absurd (omega arith)
once x k y j (inr (a, b)) (inl c) = absurd (omega arith)
once x k y j (inr (a, b)) (inr (c, d)) = (omega arith, a)

least_in_lem : (l : Faults) (x k : ℕ) → Least l x k → least_in l ≡ At x k
least_in_lem l x k s = go (least_in l) refl
  where
    some : {l : Faults} → Among x k l → 0 < length l
    some here = omega arith
    some (there n) = omega arith

    go : (r : answers.Fault) → least_in l ≡ r → r ≡ At x k
    go None q = absurd (omega (arith, some s.is, ap length (empty-least l q)))
    go (At y j) q =
        let z = in_least l y j q in
        let (a, b) = once x k y j (s.soonest y j z.is) (z.soonest x k s.is) in
        rw (a, b) refl

-- ---- of items
module _ (cs vs toks : List ℕ) where
  joins-fault : (j : ℕ) (l : Faults) → joined cs vs (homes cs vs toks) (starts cs vs toks) (heights cs vs toks) toks j (least_in l) ≡ least_in (fault_of cs vs toks j ++ l)
  unfolding joined fault_of
  joins-fault j l = go (eqb (bad cs vs (homes cs vs toks) (starts cs vs toks) (heights cs vs toks) j) 0)
    where
      go : (b : Bool)
          → pick b (least_in l) (sooner (place cs vs (homes cs vs toks) (starts cs vs toks) (heights cs vs toks) toks j) (bad cs vs (homes cs vs toks) (starts cs vs toks) (heights cs vs toks) j) (least_in l))
          ≡ least_in (pick b [] (record { number = bad cs vs (homes cs vs toks) (starts cs vs toks) (heights cs vs toks) j; token = place cs vs (homes cs vs toks) (starts cs vs toks) (heights cs vs toks) toks j } ∷ []) ++ l)
      go true = refl
      go false = refl

  least-from : (n j : ℕ) → least_from cs vs (homes cs vs toks) (starts cs vs toks) (heights cs vs toks) toks j n ≡ least_in (faults_from cs vs toks j n)
  unfolding least_from faults_from
  least-from zero j = refl
  least-from (suc n) j =
      let e : j + 1 ≡ suc j = omega arith in
      ap (joined cs vs (homes cs vs toks) (starts cs vs toks) (heights cs vs toks) toks j)
      (ap (λ i. least_from cs vs (homes cs vs toks) (starts cs vs toks) (heights cs vs toks) toks i n) e ∙ least-from n (suc j))
      ∙ joins-fault j (faults_from cs vs toks (suc j) n)

  checked_in : checked cs vs toks ≡ least_in (faults_from cs vs toks 0 (length cs))
  unfolding checked least_of
  checked_in = least-from (length cs) 0

  pub checked-least : (x k : ℕ) → (checked cs vs toks ≡ At x k) ↔ Least (faults_from cs vs toks 0 (length cs)) x k
  checked-least x k = (λ e. in_least (faults_from cs vs toks 0 (length cs)) x k (sym checked_in ∙ e), λ s. checked_in ∙ least_in_lem (faults_from cs vs toks 0 (length cs)) x k s)

  pub checked-none : (checked cs vs toks ≡ None) ↔ (faults_from cs vs toks 0 (length cs) ≡ [])
  checked-none = (λ e. empty-least (faults_from cs vs toks 0 (length cs)) (sym checked_in ∙ e), λ e. checked_in ∙ ap least_in e)

-- WHICH STEPS ARE LISTED AND ASKED FOR, of any machine: exactly those that it offers, by process number, then by their number.
use Prim.Native.Nat.{ℕ, zero, suc, ◌+◌, ◌<◌}
use native.Mathlib.Omega.{arith}
use mathlib.Core.Path.{◌≡◌, refl, sym as inv, ap, ◌∙◌, subst}
use mathlib.Core.Bool.{Bool, true, false}
use mathlib.Core.Option.{some}
use mathlib.Core.Logic.{◌⊎◌, inl, inr, ◌↔◌}
use mathlib.Core.List.{List, [], ◌∷◌, ◌++◌}
use lib.ListN.{length}
use lib.Dec.{eqb}
use Rattle.base_bytes.specs.Choice.{pick}
use Rattle.spec_machine.specs.Machine.{Move, Machine, Step, step_of, move_of, numbered, late, list_from, offered, asked}
use Rattle.step_all.proofs.Asked.{move_at, step_as, one-asked, asked-given}
use Rattle.demands.specs.Walks.{Nth, here, later, Offers}

-- ---- the k-th of a list
record Place (y : Move) (k : ℕ) (l : List Move) : Type 0 where
  before : ℕ
  number : k ≡ suc before
  found : move_at before l ≡ some y

nth-place : {y : Move} {k : ℕ} {l : List Move} → Nth y k l → Place y k l
unfolding move_at
nth-place here = record { before = 0; number = refl; found = refl }
nth-place (later h) = let r = nth-place h in record { before = suc r.before; number = ap suc r.number; found = r.found }

place-nth : (y : Move) (j : ℕ) (l : List Move) → move_at j l ≡ some y → Nth y (suc j) l
unfolding move_at
place-nth y j [] e = absurd (let z : ◌≡◌ {A = ℕ} 0 1 = cc in omega arith)
place-nth y zero (x ∷ l) e = let z : x ≡ y = cc in subst (λ i. Nth y 1 (i ∷ l)) (inv z) here
place-nth y (suc j) (x ∷ l) e = later (place-nth y j l e)

-- ---- one of the steps
pub data Among (x : Step) : List Step → Type 0 where
  front : {l : List Step} → Among x (x ∷ l)
  back : {y : Step} {l : List Step} → Among x l → Among x (y ∷ l)

nth-among : {x : Step} {k : ℕ} {l : List Step} → Nth x k l → Among x l
nth-among here = front
nth-among (later h) = back (nth-among h)

among-nth : {x : Step} {l : List Step} → Among x l → (k : ℕ) × Nth x k l
among-nth front = (1, here)
among-nth (back h) = let r = among-nth h in (suc r.0, later r.1)

in_nothing : {A : Type 0} {x : Step} → Among x [] → A
in_nothing {x = x} h = absurd (go h refl)
  where
    go : {l : List Step} → Among x l → l ≡ [] → ⊥
    go (front {l = l}) e = let n : suc (length l) ≡ 0 = ap length e in omega arith
    go (back {l = l} h) e = let n : suc (length l) ≡ 0 = ap length e in omega arith

record Numbered (p k : ℕ) (qs : List Move) (x : Step) : Type 0 where
  process : x.process ≡ p
  index : ℕ
  number : x.number + 1 ≡ k + index
  nth : Nth (move_of x) index qs

numbered-among : (p k : ℕ) (qs : List Move) (r : List Step) (x : Step) → Among x (numbered p k qs ++ r) → Numbered p k qs x ⊎ Among x r
numbered-among p k [] r x h = inr h
numbered-among p k (q ∷ qs) r x front = inl (record { process = refl; index = 1; number = refl; nth = here })
numbered-among p k (q ∷ qs) r x (back h) = go (numbered-among p (k + 1) qs r x h)
  where
    go : Numbered p (k + 1) qs x ⊎ Among x r → Numbered p k (q ∷ qs) x ⊎ Among x r
    go (inl n) = let e = n.number in inl (record { process = n.process; index = suc n.index; number = omega arith; nth = later n.nth })
    go (inr g) = inr g

module _ {S : Type 0} (M : Machine S) (s : S) where
  list-among : (l : Bool) (p n : ℕ) (x : Step) → Among x (list_from M s l p n) → (x.process < p + n) × Nth (move_of x) x.number (M.steps s l x.process)
  unfolding list_from
  list-among l p zero x h = in_nothing h
  list-among l p (suc n) x h = go (numbered-among p 1 (M.steps s l p) (list_from M s l (p + 1) n) x h) (λ g. list-among l (p + 1) n x g)
    where
      go : Numbered p 1 (M.steps s l p) x ⊎ Among x (list_from M s l (p + 1) n)
          → (Among x (list_from M s l (p + 1) n) → (x.process < p + 1 + n) × Nth (move_of x) x.number (M.steps s l x.process))
          → (x.process < p + suc n) × Nth (move_of x) x.number (M.steps s l x.process)
      go (inl r) f =
          let e = r.process in
          let i = r.number in
          let j : r.index ≡ x.number = omega arith in
          (omega arith, subst (λ k. Nth (move_of x) k (M.steps s l x.process)) j (subst (λ y. Nth (move_of x) r.index (M.steps s l y)) (inv e) r.nth))
      go (inr g) f = let r = f g in let z = r.0 in (omega arith, r.1)

  among-offers : (x : Step) → Among x (offered M s) → Offers M s x
  unfolding offered
  among-offers x h = let r = list-among (late M s) 0 (M.processes s) x h in let z = r.0 in record { there = omega arith; listed = r.1 }

  -- ---- asked for
  pub asked-offers : (p k : ℕ) (x : Step) → asked M p k (offered M s) ≡ some x → (x ≡ step_of p k (move_of x)) × Offers M s (step_of p k (move_of x))
  asked-offers p k x e =
      let g = asked-given M s p k x e in (
        g.is,
        record { there = g.there; listed = subst (λ i. Nth (move_of x) i (M.steps s (late M s) p)) (inv g.number) (place-nth (move_of x) g.before (M.steps s (late M s) p) g.found) },
      )

  pub offers-asked : (x : Step) → Offers M s x → asked M x.process x.number (offered M s) ≡ some x
  offers-asked x h =
      let r = nth-place h.listed in inv (one-asked M s x.process x.number r.before r.number h.there) ∙ ap (step_as x.process x.number) r.found

  asked-among : (p k : ℕ) (x : Step) (l : List Step) → asked M p k l ≡ some x → Among x l
  unfolding asked
  asked-among p k x [] e = absurd (let z : ◌≡◌ {A = ℕ} 0 1 = cc in omega arith)
  asked-among p k x (y ∷ l) e = go (eqb y.process p) (eqb y.number k) e (λ f. asked-among p k x l f)
    where
      go : (b c : Bool) → pick b (pick c (some y) (asked M p k l)) (asked M p k l) ≡ some x → (asked M p k l ≡ some x → Among x l) → Among x (y ∷ l)
      go true true e f = let z : y ≡ x = cc in subst (λ w. Among x (w ∷ l)) (inv z) front
      go true false e f = back (f e)
      go false c e f = back (f e)

  -- ---- listed
  pub listed_exactly : (x : Step) → ((k : ℕ) × Nth x k (offered M s)) ↔ Offers M s x
  listed_exactly x = (λ r. among-offers x (nth-among r.1), λ h. among-nth (asked-among x.process x.number x (offered M s) (offers-asked x h)))

  pub none-listed : offered M s ≡ [] → (x : Step) → Offers M s x → ⊥
  none-listed e x h = in_nothing (subst (Among x) e (asked-among x.process x.number x (offered M s) (offers-asked x h)))

  pub first-offers : (x : Step) (l : List Step) → offered M s ≡ x ∷ l → Offers M s x
  first-offers x l e = among-offers x (subst (Among x) (inv e) front)

-- ---- in order: by process number, then by the number of the step
abbrev pub Before : ℕ → ℕ → ℕ → ℕ → Type 0
Before p k p' k' = (p < p') ⊎ ((p ≡ p') × (k < k'))

abbrev Above : ℕ → ℕ → List Step → Type 0
Above p k [] = Unit {0}
Above p k (x ∷ l) = Before p k x.process x.number × Above p k l

abbrev Rising : List Step → Type 0
Rising [] = Unit {0}
Rising (x ∷ l) = Above x.process x.number l × Rising l

above_own : (p k j : ℕ) (qs : List Move) (r : List Step) → k < j → Above p k r → Above p k (numbered p j qs ++ r)
above_own p k j [] r h g = g
above_own p k j (q ∷ qs) r h g = (inr (refl, h), above_own p k (j + 1) qs r (omega arith) g)

above_other : (p k q j : ℕ) (qs : List Move) (r : List Step) → p < q → Above p k r → Above p k (numbered q j qs ++ r)
above_other p k q j [] r h g = g
above_other p k q j (x ∷ qs) r h g = (inl h, above_other p k q (j + 1) qs r h g)

rising_own : (p j : ℕ) (qs : List Move) (r : List Step) → ((k : ℕ) → Above p k r) → Rising r → Rising (numbered p j qs ++ r)
rising_own p j [] r h g = g
rising_own p j (q ∷ qs) r h g = (above_own p j (j + 1) qs r (omega arith) (h j), rising_own p (j + 1) qs r h g)

module _ {S : Type 0} (M : Machine S) (s : S) where
  above-list : (l : Bool) (p k q n : ℕ) → p < q → Above p k (list_from M s l q n)
  unfolding list_from
  above-list l p k q zero h = tt
  above-list l p k q (suc n) h = above_other p k q 1 (M.steps s l q) (list_from M s l (q + 1) n) h (above-list l p k (q + 1) n (omega arith))

  rising_list : (l : Bool) (p n : ℕ) → Rising (list_from M s l p n)
  unfolding list_from
  rising_list l p zero = tt
  rising_list l p (suc n) = rising_own p 1 (M.steps s l p) (list_from M s l (p + 1) n) (λ k. above-list l p k (p + 1) n (omega arith)) (rising_list l (p + 1) n)

  rising_offered : Rising (offered M s)
  unfolding offered
  rising_offered = rising_list (late M s) 0 (M.processes s)

above-nth : {p k : ℕ} {x : Step} {k' : ℕ} {l : List Step} → Nth x k' l → Above p k l → Before p k x.process x.number
above-nth here h = h.0
above-nth (later n) h = above-nth n h.1

rising_nth : {x y : Step} {k k' : ℕ} {l : List Step} → Nth x k l → Nth y k' l → Rising l → k < k' → Before x.process x.number y.process y.number
rising_nth here here h i = absurd (omega arith)
rising_nth here (later n) h i = above-nth n h.0
rising_nth (later m) here h i = absurd (omega arith)
rising_nth (later m) (later n) h i = rising_nth m n h.1 (omega arith)

pub listed_in_order : {S : Type 0} (M : Machine S) (s : S) {k k' : ℕ} {x y : Step} → k < k' → Nth x k (offered M s) → Nth y k' (offered M s) → Before x.process x.number y.process y.number
listed_in_order M s h m n = rising_nth m n (rising_offered M s) h

-- A STEP OF THE LIST is one of its process (`offered-listed`), and so is one that is asked for (`asked_in`).
use Prim.Native.Nat.{ℕ, zero, suc, ◌+◌, ◌<◌, ◌≤◌}
use native.Mathlib.Omega.{arith}
use mathlib.Core.Path.{◌≡◌, refl, sym as inv, subst}
use mathlib.Core.Bool.{Bool, true, false}
use mathlib.Core.Option.{some}
use mathlib.Core.List.{List, [], ◌∷◌, ◌++◌}
use lib.Dec.{eqb}
use Rattle.base_bytes.specs.Choice.{pick}
use Rattle.spec_machine.specs.Machine.{Move, Machine, Step, move_of, numbered, late, list_from, offered, asked}
use Rattle.agree_transfer.specs.Alike.{In, first, behind}
use Rattle.agree_tables.proofs.Main.{none_in}

-- in one of two lists
in_two : {A B : Type 0} {z : A} (l k : List A) → (In z l → B) → (In z k → B) → In z (l ++ k) → B
in_two [] k f g i = g i
in_two (y ∷ l) k f g first = f first
in_two (y ∷ l) k f g (behind i) = in_two l k (λ j. f (behind j)) g i

module _ {S : Type 0} (M : Machine S) where
  abbrev pub Listed : S → Step → Type 0
  Listed x z = (z.process < M.processes x) × In (move_of z) (M.steps x (late M x) z.process)

  numbered_in : (z : Step) (p n : ℕ) (qs : List Move) → In z (numbered p n qs) → (z.process ≡ p) × In (move_of z) qs
  numbered_in z p n [] i = none_in i
  numbered_in z p n (q ∷ qs) first = (refl, first)
  numbered_in z p n (q ∷ qs) (behind i) = let r = numbered_in z p (n + 1) qs i in (r.0, behind r.1)

  list_in : (x : S) (l : Bool) (z : Step) (p n : ℕ) → p + n ≤ M.processes x → In z (list_from M x l p n) → (z.process < M.processes x) × In (move_of z) (M.steps x l z.process)
  unfolding list_from
  list_in x l z p zero h i = none_in i
  list_in x l z p (suc n) h i =
      in_two (numbered p 1 (M.steps x l p)) (list_from M x l (p + 1) n)
      (λ j. let r = numbered_in z p 1 (M.steps x l p) j in subst (λ c. (c < M.processes x) × In (move_of z) (M.steps x l c)) (inv r.0) (omega arith, r.1))
      (λ j. list_in x l z (p + 1) n (omega arith) j) i

  pub offered-listed : (x : S) (z : Step) → In z (offered M x) → Listed x z
  unfolding offered
  offered-listed x z i = list_in x (late M x) z 0 (M.processes x) (omega arith) i

  pub asked_in : (p n : ℕ) (z : Step) (l : List Step) → asked M p n l ≡ some z → In z l
  unfolding asked
  asked_in p n z [] e = absurd (let v : ◌≡◌ {A = ℕ} 0 1 = cc in omega arith)
  asked_in p n z (y ∷ l) e = go (eqb y.process p) (eqb y.number n) (λ d. asked_in p n z l d) e
    where
      go : (b c : Bool) → (asked M p n l ≡ some z → In z l) → pick b (pick c (some y) (asked M p n l)) (asked M p n l) ≡ some z → In z (y ∷ l)
      go true true h e = let v : y ≡ z = cc in subst (λ w. In z (w ∷ l)) (inv v) first
      go true false h e = behind (h e)
      go false c h e = behind (h e)

-- A STEP THAT IS ASKED FOR is one of its process.
use Prim.Native.Nat.{ℕ, zero, suc, ◌<◌}
use native.Mathlib.Omega.{arith}
use mathlib.Core.Path.{◌≡◌, sym as inv, ap, subst}
use mathlib.Core.Option.{some}
use mathlib.Core.List.{List, [], ◌∷◌}
use Rattle.spec_machine.specs.Machine.{Move, Machine, Step, move_of, late, offered, asked}
use Rattle.step_all.proofs.Asked.{move_at, asked-given}
use Rattle.agree_transfer.specs.Alike.{In, first, behind}

found_in : (q : Move) (i : ℕ) (l : List Move) → move_at i l ≡ some q → In q l
unfolding move_at
found_in q i [] e = absurd (let v : ◌≡◌ {A = ℕ} 0 1 = cc in omega arith)
found_in q zero (x ∷ l) e = let v : x ≡ q = cc in subst (λ y. In q (y ∷ l)) (inv v) first
found_in q (suc i) (x ∷ l) e = behind (found_in q i l e)

module _ {S : Type 0} (M : Machine S) where
  pub asked-listed : (x : S) (p k : ℕ) (z : Step) → asked M p k (offered M x) ≡ some z → (z.process < M.processes x) × In (move_of z) (M.steps x (late M x) z.process)
  asked-listed x p k z e =
      let g = asked-given M x p k z e in
      subst (λ i. (i < M.processes x) × In (move_of z) (M.steps x (late M x) i)) (inv (ap (λ (y : Step). y.process) g.is))
      (g.there, found_in (move_of z) g.before (M.steps x (late M x) p) g.found)

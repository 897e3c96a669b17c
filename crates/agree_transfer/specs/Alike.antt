-- Bridge, for `demand2` (crate `demands`).
-- WHEN TWO MACHINES ARE ALIKE, where R says which states belong together.
use Rattle.std.specs.Prelude.{ℕ, ◌<◌, ◌≡◌, Bool, List, ◌∷◌}
use Rattle.spec_machine.specs.Machine.{Machine, Step, move_of}
use Rattle.agree_transfer.specs.Agrees.{Related}

pub data In {A : Type 0} (q : A) : List A → Type 0 where
  first : {l : List A} → In q (q ∷ l)
  behind : {x : A} {l : List A} → In q l → In q (x ∷ l)

pub record Alike {S T : Type 0} (R : S → T → Type 0) (M : Machine S) (N : Machine T) : Type 0 where
  pub processes : {x : S} {y : T} → R x y → M.processes x ≡ N.processes y
  pub steps : {x : S} {y : T} → R x y → (late : Bool) (p : ℕ) → p < M.processes x → M.steps x late p ≡ N.steps y late p
  pub ended : {x : S} {y : T} → R x y → (p : ℕ) → p < M.processes x → M.ended x p ≡ N.ended y p
  pub take : {x : S} {y : T} → R x y → (late : Bool) (z : Step) → z.process < M.processes x → In (move_of z) (M.steps x late z.process) → Related R (M.take x z) (N.take y z)

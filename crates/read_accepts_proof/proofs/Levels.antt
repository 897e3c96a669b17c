-- THE LEVELS BY WHICH TEXTS ARE READ are those that `base_values::level` gives, document 01, "Operators follow table 3.2 of 002". Assumes nothing.
use Prim.Native.Nat.{ℕ}
use mathlib.Core.Path.{◌≡◌, refl}
use Rattle.base_kinds.specs.Kinds.{level}
use Rattle.base_values.specs.Operators.{level_of}

pub levels_same : (o : ℕ) → level o ≡ level_of o
unfolding level_of
levels_same o = refl

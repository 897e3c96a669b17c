-- The rows laid over an array of their own length are the rows. Assumes nothing.
use Prim.Native.Nat.{ℕ}
use mathlib.Core.Path.{◌≡◌, refl}
use mathlib.Core.List.{List}
use lib.ListN.{length}
use Rattle.base_bytes.specs.Lists.{pasted}
use Rattle.base_bytes.proofs.Lists.{paste_whole}
use Rattle.write_rows.specs.Rules.{rows, cells}

cells_long : length cells ≡ 1340
unfolding cells rows
cells_long = refl

pub cells-laid : (ys : List ℕ) → length ys ≡ 1340 → pasted 1340 cells ys ≡ cells
cells-laid ys e = paste_whole 1340 cells ys cells_long e

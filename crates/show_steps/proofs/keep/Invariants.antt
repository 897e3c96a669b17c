use mathlib.Core.List.{◌++◌}
use lib.IntN.{pos}
use lib.ListN.{length, take, replicate}
use mathlib.Core.Path.{◌≡◌}
use Rattle.show_steps.proofs.keep.Given as goal

abbrev pub invariant-loop-i : goal.invariant-loop-i
invariant-loop-i l = take l.i l.kept ≡ take l.i (l.s ++ replicate (length l.initial.kept) (pos 0))

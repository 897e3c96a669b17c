use Rattle.text_pieces.specs.Spans.{in_run, span}
use lib.ListN.{drop}
use mathlib.Core.Path.{◌≡◌}
use Prim.Native.Nat.{◌+◌}
use Rattle.text_pieces.proofs.run.Given as goal

abbrev pub invariant-loop-i : goal.invariant-loop-i
invariant-loop-i l = l.i + span (in_run l.letters) (drop l.i l.s) ≡ span (in_run l.letters) l.s

use Rattle.trail_form.specs.Records.{is_not}
use Rattle.text_pieces.specs.Spans.{span}
use lib.ListN.{drop}
use mathlib.Core.Path.{◌≡◌}
use Prim.Native.Nat.{◌+◌}
use Rattle.trail_form.proofs.up_to.Given as goal

abbrev pub invariant-loop-i : goal.invariant-loop-i
invariant-loop-i l = l.i + span (is_not l.c) (drop l.i l.s) ≡ span (is_not l.c) l.s

use mathlib.Core.Path.{◌≡◌}
use lib.ListN.{drop}
use Rattle.base_pens.specs.Pen.{pen}
use Rattle.base_pens.specs.Pack as pack
use Rattle.base_pens.proofs.pour.Given as goal

abbrev pub invariant-loop-b : goal.invariant-loop-b
invariant-loop-b l = pack.pour (drop l.b-index l.s) (pack.well (pen l.out l.w.at) l.w.held l.w.a l.w.b l.w.c) ≡ pack.pour l.s (pack.well (pen l.initial.out l.initial.w.at) l.initial.w.held l.initial.w.a l.initial.w.b l.initial.w.c)

use Prim.Native.Nat.{◌-◌}
use mathlib.Core.Path.{◌≡◌}
use Rattle.base_pens.specs.Pen.{pen, puts}
use Rattle.show_lists.specs.Tally as spec
use Rattle.show_lists.proofs.tally.put_each.Given as goal

abbrev pub invariant-loop-k : goal.invariant-loop-k
invariant-loop-k l = puts (spec.each_of l.kept l.k (l.m - l.k)) (pen l.out l.q) ≡ puts (spec.each_of l.kept 0 l.m) (pen l.initial.out l.initial.q)

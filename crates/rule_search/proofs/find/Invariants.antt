use mathlib.Core.Path.{◌≡◌}
use Prim.Native.Nat.{◌-◌, ◌<◌}
use Rattle.rule_search.proofs.Rest.{rest}
use Rattle.rule_search.specs.Chain.{Chained}
use Rattle.rule_search.specs.Search as finding
use Rattle.rule_search.proofs.find.Given as goal

abbrev pub invariant-loop-d : goal.invariant-loop-d
invariant-loop-d l = Chained l.codes l.args l.chain → l.set < 3 → rest (finding.declares l.codes l.args l.homes l.set l.w l.h) l.d l.to ≡ finding.find l.codes l.args l.homes l.set l.w l.h l.to

abbrev pub decreases-loop-d : goal.decreases-loop-d
decreases-loop-d l = l.to - l.d

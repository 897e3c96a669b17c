use Rattle.rule_search.specs.Search as finding
use Rattle.rule_sheets.proofs.Walks as laws
use Prim.Native.Nat.{◌-◌}
use mathlib.Core.Path.{◌∙◌}
use native.Mathlib.Omega.{arith}
use Rattle.rule_search.proofs.count.Goals as goal

pub loop-j-init : goal.loop-j-init
unfolding finding.count
loop-j-init c = (omega arith, laws.sum-start (finding.one c.args.codes.now c.args.homes.now c.args.set c.args.h) c.args.from (c.args.to - c.args.from))

pub loop-j-preserved : goal.loop-j-preserved
loop-j-preserved c = (omega (arith, c.one-n.ensures.upper_bound), laws.sum_more (finding.one c.args.codes.now c.args.homes.now c.args.set c.args.h) c.loop-j.j c.args.to c.loop-j.n (omega arith) c.one-n.ensures.value ∙ c.loop-j.invariant.1)

pub returns : goal.returns
returns c = laws.sum_end (finding.one c.args.codes.now c.args.homes.now c.args.set c.args.h) c.loop-j.j c.args.to c.loop-j.n (omega arith) ∙ c.loop-j.invariant.1

use Rattle.rule_ceilings.specs.Ceilings as tops
use Rattle.rule_sheets.proofs.Walks as laws
use lib.ListN.{length}
use mathlib.Core.Path.{◌∙◌}
use native.Mathlib.Omega.{arith}
use Rattle.rule_ceilings.proofs.numbers.Goals as goal

pub loop-j-init : goal.loop-j-init
unfolding tops.numbers
loop-j-init c = (omega arith, laws.sum_from_start (tops.numbers_at c.args.codes.now c.args.args.now c.args.homes.now c.args.h) (length c.args.codes.now))

pub loop-j-preserved : goal.loop-j-preserved
loop-j-preserved c = (omega (arith, c.numbers_at-n.ensures.upper_bound), laws.sum_more (tops.numbers_at c.args.codes.now c.args.args.now c.args.homes.now c.args.h) c.loop-j.j (length c.args.codes.now) c.loop-j.n (omega arith) c.numbers_at-n.ensures.value ∙ c.loop-j.invariant.1)

pub returns : goal.returns
returns c = laws.sum_end (tops.numbers_at c.args.codes.now c.args.args.now c.args.homes.now c.args.h) c.loop-j.j (length c.args.codes.now) c.loop-j.n (omega arith) ∙ c.loop-j.invariant.1

use native.Mathlib.Omega.{arith}
use mathlib.Core.Path.{◌∙◌}
use lib.ListN.{get_or}
use Rattle.rule_sheets.proofs.Walks as laws
use Rattle.rule_ceilings.specs.Ceilings.{numbers_at}
use Rattle.link_items.specs.Links.{offset_at}
use Rattle.link_items.proofs.offset_at.Goals as goal

pub loop-j-preserved : goal.loop-j-preserved
loop-j-preserved c = (omega (arith, c.numbers_at-n.ensures.upper_bound), laws.sum_more (numbers_at c.args.codes.now c.args.args.now c.args.homes.now (get_or c.args.homes.now c.args.d 0)) c.loop-j.j c.args.d c.loop-j.n (omega arith) (rw (← c.word_at.ensures.value) c.numbers_at-n.ensures.value) ∙ c.loop-j.invariant.1)

pub returns : goal.returns
unfolding offset_at
returns c = record { value = rw (← (laws.sum_end (numbers_at c.args.codes.now c.args.args.now c.args.homes.now (get_or c.args.homes.now c.args.d 0)) c.loop-j.j c.args.d c.loop-j.n (omega arith) ∙ c.loop-j.invariant.1)) c.least.ensures; upper_bound = omega (arith, c.least.ensures) }

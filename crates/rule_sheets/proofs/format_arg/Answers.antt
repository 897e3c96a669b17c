use Rattle.rule_sheets.proofs.Payload as formats
use lib.Dec.{eqb}
use mathlib.Core.Path.{◌∙◌}
use native.Mathlib.Omega.{arith}
use Rattle.rule_sheets.proofs.format_arg.Goals as goal

pub loop-b-preserved : goal.loop-b-preserved
loop-b-preserved c = (omega (arith, formats.one_most (eqb c.move_of-m.result 2) c.choose_size-n.ensures), formats.chosen_most (eqb c.move_of-m.result 3) c.choose_size-bad.ensures c.loop-b.invariant.1, formats.format-more c.loop-b.opened c.loop-b.n c.loop-b.bad c.args.s.now c.loop-b.b-index (omega arith) c.move_of-m.ensures c.choose_size-n.ensures c.choose_size-bad.ensures ∙ c.loop-b.invariant.2)

pub returns : goal.returns
returns c = record { value = formats.format_end c.loop-b.opened c.loop-b.n c.loop-b.bad c.args.s.now c.loop-b.b-index (omega arith) c.choose_size.ensures ∙ c.loop-b.invariant.2; upper_bound = omega (arith, formats.chosen_most c.loop-b.opened c.choose_size.ensures c.loop-b.invariant.1) }

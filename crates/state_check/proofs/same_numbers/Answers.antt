use mathlib.Core.Path.{◌∙◌}
use borrow.Author.Tests.{eq-eqb, ne_eqb}
use Rattle.base_ceilings.specs.Ceilings.{state_room}
use Rattle.state_check.specs.Standing.{same_at}
use Rattle.state_types.proofs.Laws.{every_more, every_stop, every_end}
use Rattle.state_check.proofs.Laws.{same_at_lem, same-all}
use Rattle.state_check.proofs.same_numbers.Goals as goal

pub returns-then-cell : goal.returns-then-cell
returns-then-cell c = same-all c.args.x.now c.args.s.now (every_stop (same_at c.args.x.now c.args.s.now) c.loop-i.i state_room c.loop-i-test.true (same_at_lem c.args.x.now c.args.s.now c.loop-i.i c.cell.type_inv c.cell.ensures c.cell-in-loop-i.type_inv c.cell-in-loop-i.ensures) (ne_eqb _ _ c.if-cell.true) ∙ c.loop-i.invariant)

pub loop-i-preserved : goal.loop-i-preserved
loop-i-preserved c = every_more (same_at c.args.x.now c.args.s.now) c.loop-i.i state_room c.loop-i-test.true (same_at_lem c.args.x.now c.args.s.now c.loop-i.i c.cell.type_inv c.cell.ensures c.cell-in-loop-i.type_inv c.cell-in-loop-i.ensures) (eq-eqb _ _ c.if-cell.false) ∙ c.loop-i.invariant

pub returns : goal.returns
returns c = same-all c.args.x.now c.args.s.now (every_end (same_at c.args.x.now c.args.s.now) c.loop-i.i state_room c.loop-i-test.false ∙ c.loop-i.invariant)

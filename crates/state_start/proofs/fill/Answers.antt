use mir.ValLaws.{to_z-of_z}
use mir.Val.{to_z, of_z}
use mir.Syntax.{w32}
use Rattle.state_start.proofs.Laws.{filled-all}
use Rattle.step_eval.specs.Variables.{slot_of}
use Rattle.state_layout.proofs.Walks.{walk_more, walk_end}
use Rattle.state_layout.specs.Walks.{walk}
use lib.ListN.{set}
use mathlib.Core.Path.{◌∙◌, ap}
use Rattle.state_start.proofs.fill.Goals as goal

pub loop-k-preserved : goal.loop-k-preserved
loop-k-preserved c = walk_more (λ i x. set x (slot_of c.args.l c.args.p i) (to_z w32 (of_z w32 c.args.v))) c.loop-k.k c.size_of-n.result c.loop-k-test.true (c.put.ensures ∙ ap (λ i. set c.loop-k.s i (to_z w32 (of_z w32 c.args.v))) c.slot.ensures) ∙ c.loop-k.invariant

pub returns : goal.returns
returns c = filled-all c.args.l c.args.p c.args.v c.args.s.now c.loop-k.s c.size_of-n.ensures.value (walk_end (λ i x. set x (slot_of c.args.l c.args.p i) (to_z w32 (of_z w32 c.args.v))) c.loop-k.k c.size_of-n.result c.loop-k.s c.loop-k-test.false ∙ c.loop-k.invariant ∙ ap (λ z. walk (λ i x. set x (slot_of c.args.l c.args.p i) z) 0 c.size_of-n.result c.args.s.now) (to_z-of_z w32 c.args.v c.ranges.v))

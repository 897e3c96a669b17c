use mathlib.Core.Path.{◌∙◌}
use native.Mathlib.Omega.{arith}
use lib.ListN.{set, get_or}
use lib.IntN.{pos}
use Rattle.base_values.specs.Types.{cast_of}
use Rattle.state_layout.specs.Layout.{field_at}
use Rattle.state_layout.proofs.Walks.{walk_start, walk_more, walk_end}
use Rattle.step_messages.specs.Messages.{field_type}
use Rattle.step_messages.proofs.Laws.{field_turn, put_all}
use Rattle.step_messages.proofs.put.Goals as goal

pub loop-f-init : goal.loop-f-init
loop-f-init c = walk_start (λ i x. set x (field_at c.args.c c.args.w i) (cast_of (field_type c.args.t.now c.declared_of-d.result i) (get_or c.args.values.now i (pos 0)))) c.fields-n.result c.args.s.now

pub loop-f-preserved : goal.loop-f-preserved
loop-f-preserved c = walk_more (λ i x. set x (field_at c.args.c c.args.w i) (cast_of (field_type c.args.t.now c.declared_of-d.result i) (get_or c.args.values.now i (pos 0)))) c.loop-f.f c.fields-n.result (omega arith) (field_turn c.args.t.now c.loop-f.s _ c.declared_of-d.result c.args.c c.args.w c.loop-f.f c.args.values.now c.cell.type_inv c.cell.ensures c.put_field.ensures) ∙ c.loop-f.invariant

pub returns : goal.returns
returns c = put_all c.args.t.now c.args.c c.args.w c.args.values.now c.args.s.now c.loop-f.s _ c.declared_of-d.ensures.value c.fields-n.ensures.value (walk_end (λ i x. set x (field_at c.args.c c.args.w i) (cast_of (field_type c.args.t.now c.declared_of-d.result i) (get_or c.args.values.now i (pos 0)))) c.loop-f.f c.fields-n.result c.loop-f.s (omega arith) ∙ c.loop-f.invariant) c.channel_at.ensures c.put_count.ensures

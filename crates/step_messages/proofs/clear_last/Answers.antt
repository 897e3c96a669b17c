use Rattle.base_ceilings.specs.Ceilings.{capacity_most, fields_most}
use Rattle.state_layout.proofs.Walks.{walk_more, walk_end}
use Rattle.state_layout.specs.Layout.{field_at}
use lib.IntN.{pos}
use lib.ListN.{set}
use native.Mathlib.Omega.{arith}
use mathlib.Core.Path.{refl, ap, ◌∙◌}
use Prim.Native.Nat.{◌-◌}
use Rattle.step_messages.proofs.clear_last.Goals as goal

pub loop-i-init : goal.loop-i-init
loop-i-init c = refl

pub loop-i-preserved : goal.loop-i-preserved
loop-i-preserved c = walk_more (λ n x. set x (field_at c.args.c (capacity_most - 1) n) (pos 0)) c.loop-i.i fields_most (omega arith) (c.put.ensures ∙ ap (λ n. set c.loop-i.s n (pos 0)) c.field_at.ensures) ∙ c.loop-i.invariant

pub returns : goal.returns
returns c = walk_end (λ n x. set x (field_at c.args.c (capacity_most - 1) n) (pos 0)) c.loop-i.i fields_most c.loop-i.s (omega arith) ∙ c.loop-i.invariant

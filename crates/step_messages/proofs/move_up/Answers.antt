use Prim.Native.Nat.{◌+◌}
use mathlib.Core.Path.{ap, ◌∙◌}
use native.Mathlib.Omega.{arith}
use lib.ListN.{set}
use Rattle.state_layout.specs.Layout.{field_at, cell_of}
use Rattle.state_layout.specs.Walks.{walk}
use Rattle.state_layout.proofs.Walks.{walk_start, walk_more, walk_end}
use Rattle.step_messages.proofs.move_up.Goals as goal

pub loop-i-init : goal.loop-i-init
loop-i-init c = walk_start (λ j x. set x (field_at c.args.c c.args.w j) (cell_of x (field_at c.args.c (c.args.w + 1) j))) c.behind-n.result c.args.s.now

pub loop-i-preserved : goal.loop-i-preserved
loop-i-preserved c = walk_more (λ j x. set x (field_at c.args.c c.args.w j) (cell_of x (field_at c.args.c (c.args.w + 1) j))) c.loop-i.i c.behind-n.result (omega arith) (c.copy_cell.ensures ∙ (λ j. set c.loop-i.s (c.field_at.ensures j) (cell_of c.loop-i.s (c.field_at-in-loop-i.ensures j)))) ∙ c.loop-i.invariant

pub returns : goal.returns
returns c = walk_end (λ j x. set x (field_at c.args.c c.args.w j) (cell_of x (field_at c.args.c (c.args.w + 1) j))) c.loop-i.i c.behind-n.result c.loop-i.s (omega arith) ∙ c.loop-i.invariant ∙ ap (λ k. walk (λ j x. set x (field_at c.args.c c.args.w j) (cell_of x (field_at c.args.c (c.args.w + 1) j))) 0 k c.args.s.now) c.behind-n.ensures

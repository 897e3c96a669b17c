use Prim.Native.Nat.{◌+◌, ◌-◌}
use native.Mathlib.Omega.{arith}
use Rattle.parse_items.proofs.Laws.{push_law, push-start, side_at}
use Rattle.parse_items.proofs.push.Goals as goal

pub loop-k-init : goal.loop-k-init
loop-k-init c = push-start c.args.stack.now c.args.top c.args.first c.args.n c.args.marking (omega arith)

pub loop-k-preserved : goal.loop-k-preserved
loop-k-preserved c = push_law c.loop-k.stack _ (c.args.top - c.args.n + c.loop-k.k) (c.args.top - c.args.n + (c.loop-k.k - 1)) c.loop-k.k (c.loop-k.k - 1) c.args.first c.args.n c.args.marking _ (omega arith) (omega arith) (omega arith) (omega arith) (side_at c.args.sides.now _ c.args.marking _ _ c.requires.0 c.from.ensures c.byte_at.ensures) c.loop-k.invariant

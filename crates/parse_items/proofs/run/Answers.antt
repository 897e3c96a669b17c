use Prim.Native.Nat.{◌+◌, ◌-◌}
use mathlib.Core.Path.{◌∙◌}
use native.Mathlib.Omega.{arith}
use Rattle.parse_items.proofs.Runs.{start_law, go_run, stop_run, done_run, spent_run, dry}
use borrow.Author.Rules.{rules}
use Rattle.parse_items.proofs.run.Goals as goal

pub loop-init : goal.loop-init
loop-init c = (search rules, search rules, search rules, start_law c.args.kinds.now c.args.stack.now c.args.out.now 81920 c.requires.3)

pub loop-preserved : goal.loop-preserved
loop-preserved c = let w = go_run c.args.kinds.now c.loop.stack c.loop.out c.step_on-next.new.stack c.step_on-next.new.out c.loop.s (81920 - c.loop.counter) (81920 - (c.loop.counter + 1)) _ c.step_on-next.result (omega arith) c.loop.invariant.3 c.step_on-next.ensures _ c.in-Go.is in (w.0, w.1, w.2, w.3)

pub returns-in-Stop : goal.returns-in-Stop
returns-in-Stop c = stop_run c.args.kinds.now c.loop.stack c.loop.out c.step_on-next.new.stack c.step_on-next.new.out c.loop.s (81920 - c.loop.counter) (81920 - (c.loop.counter + 1)) _ c.step_on-next.result (omega arith) c.loop.invariant.3 c.step_on-next.ensures _ c.in-Stop.is

pub returns-in-Done : goal.returns-in-Done
returns-in-Done c = done_run c.args.kinds.now c.loop.stack c.loop.out c.step_on-next.new.stack c.step_on-next.new.out c.loop.s (81920 - c.loop.counter) (81920 - (c.loop.counter + 1)) _ c.step_on-next.result (omega arith) c.loop.invariant.3 c.step_on-next.ensures _ c.in-Done.is

pub returns-in-Spent : goal.returns-in-Spent
returns-in-Spent c = spent_run c.args.kinds.now c.loop.stack c.loop.out c.step_on-next.new.stack c.step_on-next.new.out c.loop.s (81920 - c.loop.counter) (81920 - (c.loop.counter + 1)) _ c.step_on-next.result (omega arith) c.loop.invariant.3 c.step_on-next.ensures c.in-Spent.is

pub returns : goal.returns
returns c = c.loop.invariant.3 ∙ dry c.args.kinds.now (81920 - c.loop.counter) _ (omega arith)

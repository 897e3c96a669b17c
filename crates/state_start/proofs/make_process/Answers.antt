use Rattle.state_start.proofs.Laws.{process-full, process-more}
use Rattle.state_start.specs.Starting.{entered}
use Rattle.state_layout.proofs.Walks.{walk_more, walk_end}
use mathlib.Core.Path.{◌∙◌}
use Prim.Native.Nat.{◌+◌}
use Rattle.state_start.proofs.make_process.Goals as goal

pub loop-k-preserved : goal.loop-k-preserved
loop-k-preserved c = walk_more (λ i x. entered c.args.t.now c.processes-p.result (c.args.u + i) x) c.loop-k.k c.unit_length-n.result c.loop-k-test.true c.enter.ensures ∙ c.loop-k.invariant

pub returns-after-loop-k : goal.returns-after-loop-k
returns-after-loop-k c = process-more c.args.t.now c.args.s.now c.args.u c.processes-p.ensures.value c.if-p-lt-PROCESSES_MOST.true c.process_at.ensures c.put_count.ensures c.put_count-then-p-lt-PROCESSES_MOST.ensures c.unit_length-n.ensures.value (walk_end (λ i x. entered c.args.t.now c.processes-p.result (c.args.u + i) x) c.loop-k.k c.unit_length-n.result c.loop-k.s c.loop-k-test.false ∙ c.loop-k.invariant)

pub returns-else-p-lt-PROCESSES_MOST : goal.returns-else-p-lt-PROCESSES_MOST
returns-else-p-lt-PROCESSES_MOST c = process-full c.args.t.now c.args.s.now c.args.u c.processes-p.ensures.value c.if-p-lt-PROCESSES_MOST.false

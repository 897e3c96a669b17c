use native.Mathlib.Omega.{arith}
use mathlib.Core.Path.{◌∙◌}
use Rattle.spec_machine.specs.Machine.{any_from}
use Rattle.step_all.specs.Moving.{processes, machine_in}
use Rattle.step_all.proofs.Laws as laws
use Rattle.step_all.proofs.is_any.Goals as goal

pub loop-p-init : goal.loop-p-init
loop-p-init c = laws.from_start c.args.t.now c.args.s.now (any_from (machine_in c.args.t.now) c.args.s.now c.args.late) c.processes-n.result (processes c.args.s.now) c.processes-n.ensures.value

pub returns-then-is_offered : goal.returns-then-is_offered
returns-then-is_offered c = laws.any_here c.args.t.now c.args.s.now c.args.late c.loop-p.p _ (omega arith) c.is_offered.ensures c.if-is_offered.true ∙ c.loop-p.invariant

pub loop-p-preserved : goal.loop-p-preserved
loop-p-preserved c = laws.any-more c.args.t.now c.args.s.now c.args.late c.loop-p.p _ (omega arith) c.is_offered.ensures c.if-is_offered.false ∙ c.loop-p.invariant

pub returns : goal.returns
returns c = laws.any_end c.args.t.now c.args.s.now c.args.late c.loop-p.p _ (omega arith) ∙ c.loop-p.invariant

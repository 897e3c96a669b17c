use native.Mathlib.Omega.{arith}
use mathlib.Core.Path.{◌∙◌}
use Rattle.spec_machine.specs.Machine.{ended_from}
use Rattle.step_all.specs.Moving.{processes, machine_in}
use Rattle.step_all.proofs.Laws as laws
use Rattle.step_all.proofs.is_ended.Goals as goal

pub loop-p-init : goal.loop-p-init
loop-p-init c = laws.from_start c.args.t.now c.args.s.now (ended_from (machine_in c.args.t.now) c.args.s.now) c.processes-n.result (processes c.args.s.now) c.processes-n.ensures.value

pub returns-then-code : goal.returns-then-code
returns-then-code c = laws.ended-not c.args.t.now c.args.s.now c.loop-p.p _ (omega arith) (rw (← c.place_of.ensures.value) c.code.ensures) c.if-code.true ∙ c.loop-p.invariant

pub loop-p-preserved : goal.loop-p-preserved
loop-p-preserved c = laws.ended-more c.args.t.now c.args.s.now c.loop-p.p _ (omega arith) (rw (← c.place_of.ensures.value) c.code.ensures) c.if-code.false ∙ c.loop-p.invariant

pub returns : goal.returns
returns c = laws.ended_end c.args.t.now c.args.s.now c.loop-p.p _ (omega arith) ∙ c.loop-p.invariant

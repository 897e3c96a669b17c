use mathlib.Core.Path.{◌∙◌}
use Rattle.state_check.specs.Standing.{process_sound}
use Rattle.state_types.proofs.Laws.{every_more, every_stop, every_end}
use Rattle.state_check.proofs.processes_sound.Goals as goal

pub returns-then-not-process_sound : goal.returns-then-not-process_sound
returns-then-not-process_sound c = every_stop (process_sound c.args.t.now c.args.s.now) c.loop-p.p c.args.n c.loop-p-test.true c.process_sound.ensures (c.if-not-process_sound.true) ∙ c.loop-p.invariant

pub loop-p-preserved : goal.loop-p-preserved
loop-p-preserved c = every_more (process_sound c.args.t.now c.args.s.now) c.loop-p.p c.args.n c.loop-p-test.true c.process_sound.ensures (c.if-not-process_sound.false) ∙ c.loop-p.invariant

pub returns : goal.returns
returns c = every_end (process_sound c.args.t.now c.args.s.now) c.loop-p.p c.args.n c.loop-p-test.false ∙ c.loop-p.invariant

use Rattle.step_ready.proofs.Laws.{fits-full, fits_by}
use Rattle.step_ready.proofs.has_room.Goals as goal

pub returns-then-processes-lt-PROCESSES_MOST : goal.returns-then-processes-lt-PROCESSES_MOST
returns-then-processes-lt-PROCESSES_MOST c = fits_by c.args.t.now c.args.s.now c.args.u c.processes.ensures.value c.if-processes-lt-PROCESSES_MOST.true c.channels.ensures.value c.channels_in.ensures.value

pub returns-else-processes-lt-PROCESSES_MOST : goal.returns-else-processes-lt-PROCESSES_MOST
returns-else-processes-lt-PROCESSES_MOST c = fits-full c.args.t.now c.args.s.now c.args.u c.processes.ensures.value c.if-processes-lt-PROCESSES_MOST.false

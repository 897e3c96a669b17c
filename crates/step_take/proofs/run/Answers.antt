use Rattle.step_take.proofs.Laws.{run_idle, run-fault, run_done, room-below}
use Rattle.step_take.proofs.run.Goals as goal

pub returns-then-not-has_room : goal.returns-then-not-has_room
returns-then-not-has_room c = run_idle c.args.t.now c.args.p c.args.m c.args.s.now c.link-u.ensures.value c.has_room.ensures (c.if-not-has_room.true)

pub call-requires : goal.call-requires
call-requires c = room-below c.args.t.now c.args.s.now c.link-u.result c.has_room.ensures (c.if-not-has_room.false)

pub returns-in-Ok : goal.returns-in-Ok
returns-in-Ok c = run_done c.args.t.now c.args.p c.args.m c.args.s.now c.link-u.ensures.value c.has_room.ensures (c.if-not-has_room.false) c.gather-g.ensures.value c.in-Ok.is c.gather-g.ensures.values_after c.call.ensures c.link.ensures.value c.move_to.ensures

pub returns-in-Err : goal.returns-in-Err
returns-in-Err c = run-fault c.args.t.now c.args.p c.args.m c.args.s.now c.link-u.ensures.value c.has_room.ensures (c.if-not-has_room.false) c.gather-g.ensures.value c.in-Err.is

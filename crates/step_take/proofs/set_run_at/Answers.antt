use Rattle.step_take.proofs.Laws.{set_run_none, set_run_fault, set_run_done, room-below}
use Rattle.step_take.proofs.set_run_at.Goals as goal

pub returns-then-not-has_room : goal.returns-then-not-has_room
returns-then-not-has_room c = set_run_none c.args.t.now c.args.p c.args.i c.args.m c.args.e c.args.s.now c.link-u.ensures.value c.has_room.ensures (c.if-not-has_room.true) c.store_at.ensures c.end_of.ensures c.link.ensures.value c.move_to.ensures

pub call-requires : goal.call-requires
call-requires c = room-below c.args.t.now c.args.s.now c.link-u.result c.has_room.ensures (c.if-not-has_room.false)

pub returns-in-Ok : goal.returns-in-Ok
returns-in-Ok c = set_run_done c.args.t.now c.args.p c.args.i c.args.m c.args.e c.args.s.now c.link-u.ensures.value c.has_room.ensures (c.if-not-has_room.false) c.gather-g.ensures.value c.in-Ok.is c.gather-g.ensures.values_after c.processes-n.ensures.value c.call.ensures c.kept.type_inv c.kept.ensures c.store_at-in-Ok.ensures c.link-in-Ok.ensures.value c.move_to-in-Ok.ensures

pub returns-in-Err : goal.returns-in-Err
returns-in-Err c = set_run_fault c.args.t.now c.args.p c.args.i c.args.m c.args.e c.args.s.now c.link-u.ensures.value c.has_room.ensures (c.if-not-has_room.false) c.gather-g.ensures.value c.in-Err.is

use Rattle.state_check.proofs.Laws.{state-short, state_as}
use Rattle.state_check.proofs.is_state.Goals as goal

pub returns-then-s-lt-STATE_ROOM : goal.returns-then-s-lt-STATE_ROOM
returns-then-s-lt-STATE_ROOM c = state-short c.args.t.now c.args.s.now c.if-s-lt-STATE_ROOM.true

pub returns : goal.returns
returns c = state_as c.args.t.now c.args.s.now c.if-s-lt-STATE_ROOM.false c.shape.ensures c.sound.ensures c.same_numbers.ensures c.both.ensures

use Rattle.step_messages.proofs.Laws.{take_all}
use Rattle.step_messages.proofs.take.Goals as goal

pub returns : goal.returns
returns c = take_all c.args.c c.args.w c.args.s.now _ _ _ c.waiting_of-n.ensures.value c.move_up.ensures c.clear_last.ensures c.channel_at.ensures c.minus_one.ensures c.put_count.ensures

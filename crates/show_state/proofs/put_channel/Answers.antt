use Rattle.show_state.proofs.Laws as laws
use Rattle.show_state.proofs.put_channel.Goals as goal

pub returns : goal.returns
returns c = laws.channel-put c.args.t.now c.args.s.now c.args.c _ _ _ _ _ _ _ _ _ _ c.declared_of-d.ensures.value c.put_all-a.ensures c.put_count-b.ensures c.put-e.ensures c.capacity.ensures c.put_count-f.ensures c.fields.ensures.value c.put_messages-g.ensures c.put.ensures

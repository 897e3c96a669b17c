use Rattle.show_words.proofs.Laws as laws
use Rattle.show_words.proofs.put_message.Goals as goal

pub returns : goal.returns
returns c = laws.message-put c.args.s.now c.args.c c.args.m c.args.n _ _ _ _ c.put_all-a.ensures c.put_fields-b.ensures c.put.ensures

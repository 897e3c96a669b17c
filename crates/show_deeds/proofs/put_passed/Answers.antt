use Rattle.show_deeds.proofs.Laws as laws
use Rattle.show_deeds.proofs.put_passed.Goals as goal

pub returns : goal.returns
returns c = laws.passed-put c.args.t.now c.args.s.now c.args.c c.args.k _ c.declared_of.ensures.value c.fields-n.ensures.value c.put_count-a.ensures c.put_message-b.ensures c.put.ensures

use Rattle.show_state.proofs.Laws as laws
use Rattle.show_state.proofs.put_variable.Goals as goal

pub returns : goal.returns
returns c = laws.variable_put c.args.t.now c.args.s.now c.args.word.now c.args.x c.args.j _ _ _ _ _ _ _ c.put_all-a.ensures c.minus_one.ensures c.put_name-b.ensures c.link.ensures.value c.put_numbers-c.ensures c.put.ensures

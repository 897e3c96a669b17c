use Rattle.show_statement.proofs.Laws as laws
use Rattle.show_statement.proofs.place.Goals as goal

pub returns : goal.returns
returns c = laws.place_is c.args.t.now c.args.q _ _ _ c.length_from.ensures c.length_from-2.ensures c.minus.ensures

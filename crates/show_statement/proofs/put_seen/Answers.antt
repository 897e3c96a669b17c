use Rattle.show_statement.proofs.Laws as laws
use Rattle.show_statement.proofs.put_seen.Goals as goal

pub returns : goal.returns
returns c = laws.seen_put c.args.t.now c.args.q _ _ _ _ _ c.put_statement-n.ensures c.part.ensures c.put_visible.ensures

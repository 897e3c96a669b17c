use Rattle.show_statement.proofs.Laws as laws
use Rattle.show_statement.proofs.put_statement.Goals as goal

pub returns : goal.returns
returns c = laws.statement_put c.args.t.now c.args.q _ _ _ _ c.last_of.ensures c.least-last.ensures c.write_tokens.ensures

use Rattle.show_deeds.proofs.Laws as laws
use Rattle.show_deeds.proofs.put_index.Goals as goal

pub returns-then-code : goal.returns-then-code
returns-then-code c = laws.index_put c.args.t.now c.args.r c.args.n _ c.code.ensures c.if-code.true c.put-a.ensures c.put_count-b.ensures c.put.ensures

pub returns : goal.returns
returns c = laws.index_none c.args.t.now c.args.r c.args.n _ c.code.ensures c.if-code.false

use Rattle.show_answers.proofs.Laws as laws
use Rattle.show_answers.proofs.put_where.Goals as goal

pub returns : goal.returns
returns c = laws.where_put c.args.before.now _ _ _ _ _ _ _ c.located-at.ensures c.put_all-a.ensures c.put_count-b.ensures c.put_all-c.ensures c.put_count.ensures

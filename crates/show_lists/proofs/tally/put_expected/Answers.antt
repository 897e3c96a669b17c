use Rattle.show_lists.proofs.Laws as laws
use Rattle.show_lists.proofs.tally.put_expected.Goals as goal

pub returns-then-n-eq0 : goal.returns-then-n-eq0
returns-then-n-eq0 c = laws.empty-put c.args.x _ _ _ c.if-n-eq0.true c.put_all.ensures

pub returns-in-None : goal.returns-in-None
returns-in-None c = laws.any-put c.args.x _ _ c.if-n-eq0.false c.in-None.is

pub returns-in-Some : goal.returns-in-Some
returns-in-Some c = laws.exactly_put c.args.x _ _ _ _ c.if-n-eq0.false c.in-Some.is c.put_other.ensures

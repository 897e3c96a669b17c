use Rattle.show_answers.proofs.Laws as laws
use Rattle.show_answers.proofs.put_marks.Goals as goal

pub returns-then-s-eq0 : goal.returns-then-s-eq0
returns-then-s-eq0 c = laws.mark-none c.args.s.now _ _ c.if-s-eq0.true c.put_all.ensures

pub returns : goal.returns
returns c = laws.mark-some c.args.s.now _ _ c.if-s-eq0.false c.put_under.ensures

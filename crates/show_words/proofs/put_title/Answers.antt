use Rattle.show_words.proofs.Laws as laws
use Rattle.show_words.proofs.put_title.Goals as goal

pub returns-then-code : goal.returns-then-code
returns-then-code c = laws.title_init c.args.t.now c.args.u c.code.result _ _ c.code.ensures c.if-code.true c.put_all.ensures

pub returns : goal.returns
returns c = laws.title_name c.args.t.now c.args.u c.code.result _ _ c.code.ensures _ c.if-code.false c.minus_one.ensures c.put_name.ensures

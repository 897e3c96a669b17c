use Rattle.base_pens.proofs.Pen as laws
use Rattle.text_pens.proofs.put.Goals as goal

pub returns-then-p-out : goal.returns-then-p-out
returns-then-p-out c = laws.write_in c.args.out.now c.args.p c.args.v c.if-p-out.true

pub returns-else-p-out : goal.returns-else-p-out
returns-else-p-out c = laws.write_out c.args.out.now c.args.p c.args.v c.if-p-out.false

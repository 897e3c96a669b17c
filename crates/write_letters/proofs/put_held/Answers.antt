use Rattle.write_letters.proofs.Tokens as laws
use Rattle.write_letters.proofs.put_held.Goals as goal

pub returns-then-c-eq-NUMBER : goal.returns-then-c-eq-NUMBER
returns-then-c-eq-NUMBER c = laws.number_spelled c.args.t.now c.args.i _ _ _ c.code-c.ensures _ c.if-c-eq-NUMBER.true c.number.ensures.value c.put_digits.ensures

pub returns-then-c-eq-TEXT : goal.returns-then-c-eq-TEXT
returns-then-c-eq-TEXT c = laws.text-spelled c.args.t.now c.args.i _ _ _ c.code-c.ensures _ _ c.if-c-eq-TEXT.true c.put-a.ensures c.put_name-b.ensures c.put.ensures

pub returns : goal.returns
returns c = laws.name-spelled c.args.t.now c.args.i _ _ _ c.code-c.ensures c.if-c-eq-NUMBER.false c.if-c-eq-TEXT.false c.put_name.ensures

use Rattle.write_letters.proofs.Tokens as laws
use Rattle.write_letters.proofs.put_spelling.Goals as goal

pub returns-then-v-lt70 : goal.returns-then-v-lt70
returns-then-v-lt70 c = laws.fixed_spelled c.args.t.now c.args.v _ _ c.if-v-lt70.true c.put_fixed.ensures

pub returns : goal.returns
returns c = laws.held-spelled c.args.t.now c.args.v _ _ _ c.if-v-lt70.false c.item_of.ensures c.put_held.ensures

use Rattle.write_letters.proofs.Tokens as laws
use Rattle.write_letters.proofs.kind_by.Goals as goal

pub returns-then-v-lt70 : goal.returns-then-v-lt70
returns-then-v-lt70 c = laws.kind_fixed c.args.t.now c.args.v c.if-v-lt70.true

pub returns-then-c-eq-NUMBER : goal.returns-then-c-eq-NUMBER
returns-then-c-eq-NUMBER c = laws.kind_number c.args.t.now c.args.v _ _ c.if-v-lt70.false c.item_of.ensures c.code-c.ensures c.if-c-eq-NUMBER.true

pub returns-then-c-eq-TEXT : goal.returns-then-c-eq-TEXT
returns-then-c-eq-TEXT c = laws.kind_text c.args.t.now c.args.v _ _ c.if-v-lt70.false c.item_of.ensures c.code-c.ensures c.if-c-eq-TEXT.true

pub returns-else-c-eq-TEXT : goal.returns-else-c-eq-TEXT
returns-else-c-eq-TEXT c = laws.kind_name c.args.t.now c.args.v _ _ c.if-v-lt70.false c.item_of.ensures c.code-c.ensures c.if-c-eq-NUMBER.false c.if-c-eq-TEXT.false

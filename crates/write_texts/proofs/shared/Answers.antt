use Rattle.write_texts.proofs.Rows as laws
use Rattle.write_texts.proofs.shared.Goals as goal

pub returns-then-s-le100 : goal.returns-then-s-le100
returns-then-s-le100 c = laws.shared-low c.args.s c.if-s-le100.true

pub returns-then-s-lt113 : goal.returns-then-s-lt113
returns-then-s-lt113 c = laws.shared_mid c.args.s c.if-s-le100.false c.if-s-lt113.true

pub returns-else-s-lt113 : goal.returns-else-s-lt113
returns-else-s-lt113 c = laws.shared-high c.args.s c.if-s-le100.false c.if-s-lt113.false

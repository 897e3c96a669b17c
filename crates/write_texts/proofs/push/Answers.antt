use Rattle.write_texts.proofs.Stack as laws
use mathlib.Core.Path.{refl}
use Rattle.write_texts.proofs.push.Goals as goal

pub returns-then-v-eq0 : goal.returns-then-v-eq0
returns-then-v-eq0 c = laws.push-none c.args.stack.now c.args.sp c.args.v c.if-v-eq0.true

pub returns-else-v-eq0 : goal.returns-else-v-eq0
returns-else-v-eq0 c = laws.push-some c.args.stack.now c.args.sp c.args.v _ refl c.requires.0 c.requires.1 c.if-v-eq0.false

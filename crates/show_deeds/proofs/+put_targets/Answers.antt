use mathlib.Core.Path.{refl}
use Rattle.show_deeds.proofs.Laws as laws
use Rattle.show_deeds.proofs.+put_targets.Goals as goal

pub returns-then-n-eq0 : goal.returns-then-n-eq0
returns-then-n-eq0 t c = laws.targets-none c.args.t.now c.args.before.now c.args.after.now c.args.p c.args.n c.args.a _ c.if-n-eq0.true

pub returns-then-code : goal.returns-then-code
returns-then-code t c = laws.targets_end c.args.t.now c.args.before.now c.args.after.now c.args.p c.args.n c.args.a _ c.if-n-eq0.false c.code.ensures c.if-code.true

pub returns : goal.returns
returns t c = laws.targets-more c.args.t.now c.args.before.now c.args.after.now c.args.p c.args.n c.args.a _ _ _ c.if-n-eq0.false c.code.ensures c.if-code.false c.link-m.ensures.value c.put_target-q.ensures refl refl c.put_targets.ensures

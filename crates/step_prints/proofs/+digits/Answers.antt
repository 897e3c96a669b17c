use Rattle.step_prints.proofs.Laws.{digits-none, digits-one, digits_more}
use Rattle.step_prints.specs.Printing.{pen}
use mathlib.Core.Path.{◌∙◌}
use Rattle.step_prints.proofs.+digits.Goals as goal

pub returns-then-f-eq0 : goal.returns-then-f-eq0
returns-then-f-eq0 t c = digits-none c.args.f c.args.n (pen c.args.out.now c.args.w) c.if-f-eq0.true

pub shape_of-out-then-n-lt10 : goal.shape_of-out-then-n-lt10
shape_of-out-then-n-lt10 t c = c.put.auto.out

pub returns-then-n-lt10 : goal.returns-then-n-lt10
returns-then-n-lt10 t c = digits-one c.args.f c.args.n (pen c.args.out.now c.args.w) c.if-f-eq0.false c.digit.ensures c.if-n-lt10.true c.put.ensures

pub shape_of-out-else-n-lt10 : goal.shape_of-out-else-n-lt10
shape_of-out-else-n-lt10 t c = c.put-else-n-lt10.auto.out ∙ c.digits-q.auto.out

pub returns-else-n-lt10 : goal.returns-else-n-lt10
returns-else-n-lt10 t c = digits_more c.args.f c.args.n (pen c.args.out.now c.args.w) c.if-f-eq0.false c.digit-else-n-lt10.ensures c.if-n-lt10.false c.digits-q.ensures c.put-else-n-lt10.ensures

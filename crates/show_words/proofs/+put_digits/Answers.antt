use Rattle.text_pens.proofs.Laws as laws
use native.Mathlib.Omega.{arith}
use mathlib.Core.Path.{sym, ◌∙◌}
use Rattle.show_words.proofs.+put_digits.Goals as goal

pub returns-then-fuel-eq0 : goal.returns-then-fuel-eq0
returns-then-fuel-eq0 t c = sym (laws.digits-none c.args.fuel c.args.n _ c.if-fuel-eq0.true)

pub shape_of-out-then-n-lt10 : goal.shape_of-out-then-n-lt10
shape_of-out-then-n-lt10 t c = c.put.auto.out

pub returns-then-n-lt10 : goal.returns-then-n-lt10
returns-then-n-lt10 t c = laws.digits_last c.args.fuel c.args.n _ _ _ c.if-fuel-eq0.false c.if-n-lt10.true c.last_digit.ensures c.put.ensures

pub shape_of-out-else-n-lt10 : goal.shape_of-out-else-n-lt10
shape_of-out-else-n-lt10 t c = c.put-else-n-lt10.auto.out ∙ c.put_digits-q.auto.out

pub returns-else-n-lt10 : goal.returns-else-n-lt10
returns-else-n-lt10 t c = laws.digits_more c.args.fuel _ c.args.n _ _ _ _ (omega (arith, c.if-fuel-eq0.false)) c.if-n-lt10.false c.last_digit-else-n-lt10.ensures c.put_digits-q.ensures c.put-else-n-lt10.ensures

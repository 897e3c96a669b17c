use Rattle.std.proofs.Common.{arith}
use mathlib.Core.Path.{sym, ◌∙◌}
use Rattle.trail_form.proofs.Quick as quick
use Rattle.trail_form.proofs.short_number.Goals as goal

pub overflow_sub-first : goal.overflow_sub-first
overflow_sub-first c = quick.digit_low c.args.a (sym c.is_digit.ensures ∙ c.if-not-is_digit.false)

pub returns-then-not-is_digit-2 : goal.returns-then-not-is_digit-2
returns-then-not-is_digit-2 c = let all = quick.one-digit c.args.a c.args.b (sym c.is_digit.ensures ∙ c.if-not-is_digit.false) in record { count_bound = all.0; count_value = all.1.0; value_value = all.1.1 }

pub overflow_sub-result : goal.overflow_sub-result
overflow_sub-result c = quick.digit_low c.args.b (sym c.is_digit-2.ensures ∙ c.if-not-is_digit-2.false)

pub returns : goal.returns
returns c = let all = quick.two_digits c.args.a c.args.b (sym c.is_digit.ensures ∙ c.if-not-is_digit.false) (sym c.is_digit-2.ensures ∙ c.if-not-is_digit-2.false) (λ e. omega (arith, e)) in record { count_bound = all.0; count_value = all.1.0; value_value = all.1.1 }

use Rattle.std.proofs.Common.{pos, ◌-ℤ◌, neg_ℤ, ap, ◌∙◌, lit<, ne_eqb}
use lib.IntN.{+ℤ_idl}
use Rattle.base_values.specs.Operators.{unary_of, same}
use Rattle.base_values.specs.Bits.{wrap32}
use Rattle.base_values.proofs.Machine.{small, back, zero_bits}
use Rattle.base_values.proofs.Arms.{one_if_lem, of_value, complement_bits}
use Rattle.base_values.proofs.apply_unary.Goals as goal

pub returns-in-15 : goal.returns-in-15
unfolding unary_of
returns-in-15 c = rw c.in-15.is (of_value {a = pos 0} (small (lit< tt)) c.ranges.a (λ a b. wrap32 (a -ℤ b)) c.subtract.type_inv c.subtract.ensures ∙ ap wrap32 (+ℤ_idl (neg_ℤ c.args.a)))

pub returns-in-19 : goal.returns-in-19
unfolding unary_of
returns-in-19 c = rw (c.in-19.is, zero_bits c.ranges.a) (one_if_lem (same c.args.a (pos 0)))

pub returns-in-20 : goal.returns-in-20
unfolding unary_of
returns-in-20 c = rw c.in-20.is (complement_bits c.ranges.a)

pub returns-in_default : goal.returns-in_default
unfolding unary_of
returns-in_default c = let k = c.args.op in let r = c.in_default.in_default-own.rest in simp (ne_eqb k 15 r.0.0.1, ne_eqb k 19 r.0.1, ne_eqb k 20 r.1) (back c.ranges.a)

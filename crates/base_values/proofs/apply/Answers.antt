use Rattle.std.proofs.Common.{not, ◌&&◌, ◌||◌, ◌+ℤ◌, ◌-ℤ◌, ◌*ℤ◌, ap, ne_eqb, Ok}
use lib.Bits.{bit_and, bit_or, bit_xor}
use lib.Signed.{lt_z, le_z}
use Rattle.base_values.specs.Operators.{apply_of, divide_of, remainder_of, shift_left_of, shift_right_of}
use Rattle.base_values.specs.Bits.{wrap32}
use Rattle.base_values.proofs.Machine.{back}
use Rattle.base_values.proofs.Arms.{of_bits, of_truths, of_same, of_test, of_value, of_answer}
use Rattle.base_values.proofs.apply.Goals as goal

pub returns-in-1 : goal.returns-in-1
unfolding apply_of
returns-in-1 c = rw c.in-1.is (ap Ok (of_truths c.ranges.a c.ranges.b ◌||◌))

pub returns-in-2 : goal.returns-in-2
unfolding apply_of
returns-in-2 c = rw c.in-2.is (ap Ok (of_truths c.ranges.a c.ranges.b ◌&&◌))

pub returns-in-3 : goal.returns-in-3
unfolding apply_of
returns-in-3 c = rw c.in-3.is (ap Ok (of_bits c.ranges.a c.ranges.b bit_or))

pub returns-in-4 : goal.returns-in-4
unfolding apply_of
returns-in-4 c = rw c.in-4.is (ap Ok (of_bits c.ranges.a c.ranges.b bit_xor))

pub returns-in-5 : goal.returns-in-5
unfolding apply_of
returns-in-5 c = rw c.in-5.is (ap Ok (of_bits c.ranges.a c.ranges.b bit_and))

pub returns-in-6 : goal.returns-in-6
unfolding apply_of
returns-in-6 c = rw c.in-6.is (ap Ok (of_same c.ranges.a c.ranges.b (λ t. t)))

pub returns-in-7 : goal.returns-in-7
unfolding apply_of
returns-in-7 c = rw c.in-7.is (ap Ok (of_same c.ranges.a c.ranges.b not))

pub returns-in-8 : goal.returns-in-8
unfolding apply_of
returns-in-8 c = rw c.in-8.is (ap Ok (of_test c.ranges.a c.ranges.b lt_z))

pub returns-in-9 : goal.returns-in-9
unfolding apply_of
returns-in-9 c = rw c.in-9.is (ap Ok (of_test c.ranges.a c.ranges.b le_z))

pub returns-in-10 : goal.returns-in-10
unfolding apply_of
returns-in-10 c = rw c.in-10.is (ap Ok (of_test c.ranges.b c.ranges.a lt_z))

pub returns-in-11 : goal.returns-in-11
unfolding apply_of
returns-in-11 c = rw c.in-11.is (ap Ok (of_test c.ranges.b c.ranges.a le_z))

pub returns-in-12 : goal.returns-in-12
unfolding apply_of
returns-in-12 c = rw c.in-12.is (of_answer c.ranges.a c.ranges.b shift_left_of c.shift_left.ensures)

pub returns-in-13 : goal.returns-in-13
unfolding apply_of
returns-in-13 c = rw c.in-13.is (of_answer c.ranges.a c.ranges.b shift_right_of c.shift_right.ensures)

pub returns-in-14 : goal.returns-in-14
unfolding apply_of
returns-in-14 c = rw c.in-14.is (ap Ok (of_value c.ranges.a c.ranges.b (λ a b. wrap32 (a +ℤ b)) c.add.type_inv c.add.ensures))

pub returns-in-15 : goal.returns-in-15
unfolding apply_of
returns-in-15 c = rw c.in-15.is (ap Ok (of_value c.ranges.a c.ranges.b (λ a b. wrap32 (a -ℤ b)) c.subtract.type_inv c.subtract.ensures))

pub returns-in-16 : goal.returns-in-16
unfolding apply_of
returns-in-16 c = rw c.in-16.is (ap Ok (of_value c.ranges.a c.ranges.b (λ a b. wrap32 (a *ℤ b)) c.multiply.type_inv c.multiply.ensures))

pub returns-in-17 : goal.returns-in-17
unfolding apply_of
returns-in-17 c = rw c.in-17.is (of_answer c.ranges.a c.ranges.b divide_of c.divide.ensures)

pub returns-in-18 : goal.returns-in-18
unfolding apply_of
returns-in-18 c = rw c.in-18.is (of_answer c.ranges.a c.ranges.b remainder_of c.remainder.ensures)

pub returns-in_default : goal.returns-in_default
unfolding apply_of
returns-in_default c = let k = c.args.op in let r = c.in_default.in_default-own.rest in simp (ne_eqb k 1 r.0.0.0.0.0.0.0.0.0.0.0.0.0.0.0.0.0.1, ne_eqb k 2 r.0.0.0.0.0.0.0.0.0.0.0.0.0.0.0.0.1, ne_eqb k 3 r.0.0.0.0.0.0.0.0.0.0.0.0.0.0.0.1, ne_eqb k 4 r.0.0.0.0.0.0.0.0.0.0.0.0.0.0.1, ne_eqb k 5 r.0.0.0.0.0.0.0.0.0.0.0.0.0.1, ne_eqb k 6 r.0.0.0.0.0.0.0.0.0.0.0.0.1, ne_eqb k 7 r.0.0.0.0.0.0.0.0.0.0.0.1, ne_eqb k 8 r.0.0.0.0.0.0.0.0.0.0.1, ne_eqb k 9 r.0.0.0.0.0.0.0.0.0.1, ne_eqb k 10 r.0.0.0.0.0.0.0.0.1, ne_eqb k 11 r.0.0.0.0.0.0.0.1, ne_eqb k 12 r.0.0.0.0.0.0.1, ne_eqb k 13 r.0.0.0.0.0.1, ne_eqb k 14 r.0.0.0.0.1, ne_eqb k 15 r.0.0.0.1, ne_eqb k 16 r.0.0.1, ne_eqb k 17 r.0.1, ne_eqb k 18 r.1) (ap Ok (back c.ranges.a))

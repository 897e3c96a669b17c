use native.Mathlib.Omega.{arith}
use Rattle.trail_form.proofs.Quick as quick
use Rattle.trail_form.proofs.line_of.Goals as goal

pub returns : goal.returns
returns c = let x = c.in-Some in let y = c.in-Some-short_number in let all = quick.quick_line c.args.s.now (omega arith) c.begins.ensures (c.if-not-begins.false) x.a.count y.b.count x.a.value y.b.value (x.ensures.count_bound, (x.ensures.count_value, x.ensures.value_value)) c.if-s-m-ne9.false (y.ensures.count_bound, (y.ensures.count_value, y.ensures.value_value)) c.if-s-e-ne10.false in record { length_value = all.0; record_value = all.1 }

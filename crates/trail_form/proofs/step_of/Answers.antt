use Rattle.spec_text.specs.Digits.{decimal}
use Rattle.trail_form.specs.Records.{well_formed}
use lib.Seq.{length-take-le}
use Rattle.trail_form.proofs.Laws as laws
use native.Mathlib.Omega.{arith}
use mathlib.Core.Path.{◌∙◌, sym, ap}
use Prim.Native.Nat.{min}
use Rattle.trail_form.proofs.step_of.Goals as goal

pub overflow_add-n : goal.overflow_add-n
overflow_add-n c = omega (arith, laws.front_length c.args.x.now c.up_to-n.result c.up_to-n.ensures)

pub slice_bounds-is_number-end : goal.slice_bounds-is_number-end
slice_bounds-is_number-end c = sym (length-take-le c.up_to-n.result c.args.x.now (laws.front_length c.args.x.now c.up_to-n.result c.up_to-n.ensures))

pub returns-then-not-is_number : goal.returns-then-not-is_number
returns-then-not-is_number c = laws.no_first c.args.x.now (c.is_number.ensures ∙ (ap well_formed (laws.front c.args.x.now c.up_to-n.result c.up_to-n.ensures))) (c.if-not-is_number.true)

pub returns-then-not-is_number-2 : goal.returns-then-not-is_number-2
returns-then-not-is_number-2 c = laws.no_second c.args.x.now (c.is_number.ensures ∙ (ap well_formed (laws.front c.args.x.now c.up_to-n.result c.up_to-n.ensures))) (c.if-not-is_number.false) (c.is_number-2.ensures ∙ (ap well_formed (laws.behind c.args.x.now c.up_to-n.result c.least-k.result c.up_to-n.ensures c.least-k.ensures))) (c.if-not-is_number-2.true)

pub slice_bounds-small-end : goal.slice_bounds-small-end
slice_bounds-small-end c = sym (length-take-le c.up_to-n.result c.args.x.now (laws.front_length c.args.x.now c.up_to-n.result c.up_to-n.ensures))

pub returns : goal.returns
returns c = laws.two-numbers c.args.x.now c.small.result c.small-2.result (c.is_number.ensures ∙ (ap well_formed (laws.front c.args.x.now c.up_to-n.result c.up_to-n.ensures))) (c.if-not-is_number.false) (c.is_number-2.ensures ∙ (ap well_formed (laws.behind c.args.x.now c.up_to-n.result c.least-k.result c.up_to-n.ensures c.least-k.ensures))) (c.if-not-is_number-2.false) (c.small.ensures ∙ ap (λ y. min 2147483648 (decimal y)) (laws.front c.args.x.now c.up_to-n.result c.up_to-n.ensures)) (c.small-2.ensures ∙ ap (λ y. min 2147483648 (decimal y)) (laws.behind c.args.x.now c.up_to-n.result c.least-k.result c.up_to-n.ensures c.least-k.ensures))

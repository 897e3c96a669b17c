use native.Mathlib.Omega.{arith}
use mathlib.Core.Path.{refl, ◌∙◌}
use Rattle.write_lines.proofs.Lines as laws
use Rattle.write_lines.proofs.put_lines.Goals as goal

pub loop-v-init : goal.loop-v-init
loop-v-init c = (omega arith, refl)

pub put_next-q-requires : goal.put_next-q-requires
put_next-q-requires c = omega (arith, c.well_formed.1.0.1, c.loop-v.invariant.0)

pub open_behind-open-requires : goal.open_behind-open-requires
open_behind-open-requires c = omega (arith, c.well_formed.1.0.1, c.loop-v.invariant.0)

pub loop-v-preserved : goal.loop-v-preserved
loop-v-preserved c = (omega (arith, c.open_behind-open.ensures.upper_bound, c.loop-v.invariant.0), laws.lines_more c.args.t.now c.args.toks.now c.loop-v.v-index _ _ _ _ _ _ _ _ _ _ _ _ _ c.loop-v-test.true refl c.kind_by-b.ensures c.starts_line.ensures c.either.ensures c.put_next-q.ensures c.ends_line-ended.ensures c.place_behind-place.ensures c.open_behind-open.ensures.value ∙ c.loop-v.invariant.1)

pub shape_of-out : goal.shape_of-out
shape_of-out c = omega (arith, c.put.auto.out)

pub returns : goal.returns
returns c = laws.lines_end c.args.t.now c.args.toks.now c.loop-v.v-index c.loop-v.k c.loop-v.place c.loop-v.open c.loop-v.ended _ _ c.loop-v-test.false c.put.ensures ∙ c.loop-v.invariant.1

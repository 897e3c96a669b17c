use mathlib.Core.Path.{refl, sym, ◌∙◌}
use native.Mathlib.Omega.{arith}
use Rattle.step_all.proofs.Shut.{known-none, known-told, nth-known, told-by}
use Rattle.step_all.proofs.Laws as laws
use Rattle.step_all.proofs.nth_by.Goals as goal

pub loop-p-init : goal.loop-p-init
loop-p-init c = (known-none c.args.t.now c.args.s.now, laws.nth-start c.args.t.now c.args.s.now c.args.late c.args.n c.processes-count.ensures.value)

pub loop-p-preserved-then-eq : goal.loop-p-preserved-then-eq
loop-p-preserved-then-eq c = (c.loop-p.invariant.0, nth-known c.args.t.now c.args.s.now c.args.late c.loop-p.p c.processes-count.result c.loop-p.left (omega arith) c.place_of-q.ensures.value (told-by c.loop-p.shut c.place_of-q.result (sym c.eq.ensures ∙ c.if-eq.true)) c.loop-p.invariant.0 ∙ c.loop-p.invariant.1)

pub loop-p-preserved-then-is_shut : goal.loop-p-preserved-then-is_shut
loop-p-preserved-then-is_shut c = let w = known-told c.args.t.now c.args.s.now c.place_of-q.result c.is_shut.ensures c.if-is_shut.true in (w, nth-known c.args.t.now c.args.s.now c.args.late c.loop-p.p c.processes-count.result c.loop-p.left (omega arith) c.place_of-q.ensures.value refl w ∙ c.loop-p.invariant.1)

pub overflow_add-left : goal.overflow_add-left
overflow_add-left c = omega (arith, laws.found_few c.args.t.now c.args.s.now c.args.late c.loop-p.p c.processes-count.result c.loop-p.left (omega arith) c.offered-w.ensures c.in-Found.field-0 c.in-Found.is)

pub returns-in-Found : goal.returns-in-Found
returns-in-Found c = laws.nth_here c.args.t.now c.args.s.now c.args.late c.loop-p.p c.processes-count.result c.loop-p.left (omega arith) c.offered-w.ensures c.in-Found.field-0 c.in-Found.is c.offer_of.ensures ∙ c.loop-p.invariant.1

pub loop-p-preserved : goal.loop-p-preserved
loop-p-preserved c = (c.loop-p.invariant.0, laws.nth-more c.args.t.now c.args.s.now c.args.late c.loop-p.p c.processes-count.result c.loop-p.left (omega arith) c.offered-w.ensures c.in-Left.m c.in-Left.is ∙ c.loop-p.invariant.1)

pub returns : goal.returns
returns c = laws.nth_end c.args.t.now c.args.s.now c.args.late c.loop-p.p c.processes-count.result c.loop-p.left (omega arith) ∙ c.loop-p.invariant.1

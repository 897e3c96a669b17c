use mathlib.Core.Path.{refl, sym, ◌∙◌}
use Rattle.show_waits.specs.Waits.{stuck_of}
use Rattle.show_waits.proofs.Laws as laws
use Rattle.show_waits.proofs.put_waits.Goals as goal

pub loop-i-init : goal.loop-i-init
loop-i-init c = (refl, laws.waits_start c.args.t.now c.args.s.now _ _ c.processes.ensures.value c.least-n.ensures)

pub returns-in-Found : goal.returns-in-Found
returns-in-Found c = laws.line-put _ _ _ _ _ _ c.loop-i.invariant.0 (sym (laws.waits_there c.args.t.now c.args.s.now c.loop-i.i _ c.loop-i-test.true _ (stuck_of c.args.t.now c.args.s.now c.loop-i.i) refl (sym c.in-Found.is ∙ c.stuck_of-w.ensures)) ∙ c.loop-i.invariant.1) c.put_wait.ensures

pub loop-i-preserved : goal.loop-i-preserved
loop-i-preserved c = (c.loop-i.invariant.0, sym (laws.waits-later c.args.t.now c.args.s.now c.loop-i.i _ c.loop-i-test.true _ (stuck_of c.args.t.now c.args.s.now c.loop-i.i) refl (sym c.in-Left.is ∙ c.stuck_of-w.ensures)) ∙ c.loop-i.invariant.1)

pub returns : goal.returns
returns c = laws.nothing_put _ _ _ _ c.loop-i.invariant.0 (sym (laws.waits_end c.args.t.now c.args.s.now c.loop-i.i _ c.loop-i-test.false) ∙ c.loop-i.invariant.1)

use native.Mathlib.Omega.{arith}
use Prim.Native.Nat.{◌-◌, ◌+◌}
use mathlib.Core.Path.{sym, ◌∙◌}
use Rattle.step_ready.proofs.Laws.{found_stop, found_more, found_end, found_start}
use Rattle.step_ready.proofs.find.Goals as goal

pub loop-w-init : goal.loop-w-init
loop-w-init c = found_start c.args.t.now c.args.s.now c.args.p c.args.c c.args.a c.args.n

pub returns-then-finds : goal.returns-then-finds
returns-then-finds c = sym (found_stop c.args.t.now c.args.s.now c.args.p c.args.c c.args.a (c.args.n - c.loop-w.w) (c.args.n - (c.loop-w.w + 1)) c.loop-w.w (omega arith) c.matches.ensures c.found_by-x.ensures c.finds.ensures c.if-finds.true) ∙ c.loop-w.invariant

pub loop-w-preserved : goal.loop-w-preserved
loop-w-preserved c = sym (found_more c.args.t.now c.args.s.now c.args.p c.args.c c.args.a (c.args.n - c.loop-w.w) (c.args.n - (c.loop-w.w + 1)) c.loop-w.w (omega arith) c.matches.ensures c.found_by-x.ensures c.finds.ensures c.if-finds.false) ∙ c.loop-w.invariant

pub returns : goal.returns
returns c = sym (found_end c.args.t.now c.args.s.now c.args.p c.args.c c.args.a (c.args.n - c.loop-w.w) c.loop-w.w (omega arith)) ∙ c.loop-w.invariant

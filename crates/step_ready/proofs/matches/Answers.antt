use Prim.Native.Nat.{◌-◌, ◌+◌}
use mathlib.Core.Path.{sym, ◌∙◌}
use native.Mathlib.Omega.{arith}
use Rattle.step_ready.proofs.Laws.{matches_over, matches_more, matches_stop, matches_end}
use Rattle.base_ceilings.specs.Ceilings.{fields_most}
use Rattle.step_ready.proofs.matches.Goals as goal

pub returns-then-code : goal.returns-then-code
returns-then-code c = sym (matches_over c.args.t.now c.args.s.now c.args.p c.args.c c.args.w (fields_most - c.loop-f.f) c.loop-f.j c.loop-f.f c.code.ensures c.if-code.true) ∙ c.loop-f.invariant

pub returns-then-not-holds : goal.returns-then-not-holds
returns-then-not-holds c = sym (matches_stop c.args.t.now c.args.s.now c.args.p c.args.c c.args.w (fields_most - c.loop-f.f) (fields_most - (c.loop-f.f + 1)) c.loop-f.j c.loop-f.f (omega arith) c.code.ensures c.if-code.false c.link-m.ensures.value c.agrees-x.ensures c.holds.ensures (c.if-not-holds.true)) ∙ c.loop-f.invariant

pub loop-f-preserved : goal.loop-f-preserved
loop-f-preserved c = sym (matches_more c.args.t.now c.args.s.now c.args.p c.args.c c.args.w (fields_most - c.loop-f.f) (fields_most - (c.loop-f.f + 1)) c.loop-f.j c.loop-f.f (omega arith) c.code.ensures c.if-code.false c.link-m.ensures.value c.agrees-x.ensures c.holds.ensures (c.if-not-holds.false)) ∙ c.loop-f.invariant

pub returns : goal.returns
returns c = sym (matches_end c.args.t.now c.args.s.now c.args.p c.args.c c.args.w (fields_most - c.loop-f.f) c.loop-f.j c.loop-f.f (omega arith)) ∙ c.loop-f.invariant

use Rattle.run_entry.proofs.Laws as laws
use native.Mathlib.Omega.{arith}
use Rattle.show_run.proofs.run.Goals as goal

pub loop-n-init : goal.loop-n-init
loop-n-init c = laws.none-behind c.args.t.now c.args.limit c.args.s.now

pub loop-n-preserved : goal.loop-n-preserved
loop-n-preserved c = laws.go_on c.args.t.now c.args.limit c.loop-n.n _ _ c.loop-n.invariant (omega arith) c.turn-r.ensures c.in-Done.is

pub returns-in-Refuted : goal.returns-in-Refuted
returns-in-Refuted c = laws.refuted c.args.t.now c.args.limit c.loop-n.n _ _ c.loop-n.invariant (omega arith) c.turn-r.ensures c.in-Refuted.is

pub returns-in-Faulted : goal.returns-in-Faulted
returns-in-Faulted c = laws.faulted c.args.t.now c.args.limit c.loop-n.n _ _ c.loop-n.invariant (omega arith) c.turn-r.ensures c.in-Faulted.f c.in-Faulted.is

pub returns-in-Idle : goal.returns-in-Idle
returns-in-Idle c = laws.none_left c.args.t.now c.args.limit c.loop-n.n _ _ c.loop-n.invariant (omega arith) c.turn-r.ensures c.in-Idle.is c.verdict_of.ensures c.into.ensures

pub returns : goal.returns
returns c = laws.ended_at c.args.t.now c.args.limit c.loop-n.n _ _ c.loop-n.invariant (omega arith) c.verdict_of-2.ensures c.into-2.ensures

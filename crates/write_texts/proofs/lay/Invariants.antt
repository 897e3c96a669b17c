use Rattle.write_texts.proofs.Stack.{Laying}
use Rattle.write_texts.proofs.lay.Given as goal

abbrev pub invariant-loop-k : goal.invariant-loop-k
invariant-loop-k l = Laying l.initial.stack l.sp l.r l.i l.stack l.p l.k

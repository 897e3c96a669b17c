use Rattle.write_texts.proofs.Stack.{Flushing}
use Rattle.write_texts.proofs.flush.Given as goal

abbrev pub invariant-loop-p : goal.invariant-loop-p
invariant-loop-p l = Flushing l.stack l.sp l.initial.toks l.tp l.toks l.p l.q

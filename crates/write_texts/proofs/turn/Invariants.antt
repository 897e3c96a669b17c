use Rattle.write_texts.proofs.Stack.{Going}
use Rattle.write_texts.proofs.turn.Given as goal

abbrev pub invariant-loop-i : goal.invariant-loop-i
invariant-loop-i l = Going l.symbol l.codes l.stack l.sp l.toks l.tp l.i

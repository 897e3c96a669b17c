use Rattle.text_pieces.proofs.Laws as laws
use native.Mathlib.Omega.{arith}
use Rattle.text_pieces.proofs.comment.Goals as goal

pub overflow_add-result : goal.overflow_add-result
overflow_add-result c = omega (arith, laws.closed-within c.closing_in.result c.args.s.now c.in-Some.n c.closing_in.ensures c.in-Some.is)

pub returns-in-Some : goal.returns-in-Some
returns-in-Some c = rw (← c.closing_in.ensures, c.in-Some.is)

pub returns-in-None : goal.returns-in-None
returns-in-None c = rw (← c.closing_in.ensures, c.in-None.is)

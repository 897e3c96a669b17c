use Rattle.trail_form.specs.Records.{is_not}
use Rattle.text_pieces.proofs.Laws.{span_end}
use Rattle.trail_form.proofs.Laws as laws
use native.Mathlib.Omega.{arith}
use borrow.Author.Rules.{rules}
use Rattle.trail_form.proofs.up_to.Goals as goal

pub returns-then-b-c : goal.returns-then-b-c
returns-then-b-c c = omega (arith, c.loop-i.invariant, laws.stop_here c.args.c c.args.s.now c.loop-i.i (search rules) c.if-b-c.true)

pub loop-i-preserved : goal.loop-i-preserved
loop-i-preserved c = omega (arith, c.loop-i.invariant, laws.go_on c.args.c c.args.s.now c.loop-i.i (search rules) c.if-b-c.false)

pub returns : goal.returns
returns c = omega (arith, c.loop-i.invariant, span_end (is_not c.args.c) c.args.s.now c.loop-i.i (search rules))

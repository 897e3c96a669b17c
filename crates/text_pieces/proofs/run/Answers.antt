use Rattle.text_pieces.specs.Spans.{in_run}
use Rattle.text_pieces.proofs.Laws as laws
use native.Mathlib.Omega.{arith}
use mathlib.Core.Path.{◌∙◌, sym}
use borrow.Author.Rules.{rules}
use Rattle.text_pieces.proofs.run.Goals as goal

pub loop-i-init : goal.loop-i-init
loop-i-init c = (omega arith)

pub returns-then-not-is_run : goal.returns-then-not-is_run
returns-then-not-is_run c = omega (arith, c.loop-i.invariant, laws.span_stop (in_run c.args.letters) c.args.s.now c.loop-i.i (search rules) (sym c.is_run.ensures ∙ c.if-not-is_run.true))

pub loop-i-preserved : goal.loop-i-preserved
loop-i-preserved c = (omega (arith, c.loop-i.invariant, laws.span_more (in_run c.args.letters) c.args.s.now c.loop-i.i (search rules) (sym c.is_run.ensures ∙ c.if-not-is_run.false)))

pub returns : goal.returns
returns c = omega (arith, c.loop-i.invariant, laws.span_end (in_run c.args.letters) c.args.s.now c.loop-i.i (search rules))

use native.Mathlib.Omega.{arith}
use mathlib.Core.Path.{sym, ◌∙◌}
use Rattle.show_lists.proofs.Laws as laws
use Rattle.show_lists.proofs.words.is_passed.Goals as goal

pub returns-then-not-is_blank : goal.returns-then-not-is_blank
returns-then-not-is_blank c = laws.passed_there c.args.line.now c.loop-b.b-index (omega arith) (sym (c.if-not-is_blank.true) ∙ c.is_blank.ensures) ∙ c.loop-b.invariant

pub loop-b-preserved : goal.loop-b-preserved
loop-b-preserved c = laws.passed-more c.args.line.now c.loop-b.b-index (omega arith) (sym (c.if-not-is_blank.false) ∙ c.is_blank.ensures) ∙ c.loop-b.invariant

pub returns : goal.returns
returns c = laws.passed_end c.args.line.now c.loop-b.b-index (omega arith) ∙ c.loop-b.invariant

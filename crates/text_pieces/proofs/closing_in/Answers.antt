use lib.Dec.{eqb}
use Rattle.spec_text.specs.Bytes.{star}
use Rattle.text_pieces.proofs.Laws as laws
use mathlib.Core.Path.{◌∙◌, sym}
use borrow.Author.Rules.{rules}
use Rattle.text_pieces.proofs.closing_in.Goals as goal

pub loop-i-init : goal.loop-i-init
loop-i-init c = (laws.closing-start c.args.s.now)

pub returns-then-closes : goal.returns-then-closes
returns-then-closes c = sym (laws.closing-here (eqb c.loop-i.before star) c.args.s.now c.loop-i.i (search rules) (sym c.closes.ensures ∙ c.if-closes.true)) ∙ c.loop-i.invariant

pub loop-i-preserved : goal.loop-i-preserved
loop-i-preserved c = (sym (laws.closing-more (eqb c.loop-i.before star) c.args.s.now c.loop-i.i (search rules) (sym c.closes.ensures ∙ c.if-closes.false)) ∙ c.loop-i.invariant)

pub returns : goal.returns
returns c = sym (laws.closing_end (eqb c.loop-i.before star) c.args.s.now c.loop-i.i (search rules)) ∙ c.loop-i.invariant

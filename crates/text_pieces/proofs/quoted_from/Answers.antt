use Rattle.text_pieces.proofs.Laws as laws
use mathlib.Core.Path.{◌∙◌, sym}
use borrow.Author.Rules.{rules}
use Rattle.text_pieces.proofs.quoted_from.Goals as goal

pub loop-i-init : goal.loop-i-init
loop-i-init c = (laws.quoted-start c.args.s.now)

pub returns-in-End : goal.returns-in-End
returns-in-End c = sym (laws.quoted-closed c.loop-i.escaped c.args.s.now c.loop-i.i (search rules) (sym c.move_on.ensures ∙ c.in-End.is)) ∙ c.loop-i.invariant

pub returns-in-Bad : goal.returns-in-Bad
returns-in-Bad c = sym (laws.quoted_spoiled c.loop-i.escaped c.args.s.now c.loop-i.i (search rules) (sym c.move_on.ensures ∙ c.in-Bad.is)) ∙ c.loop-i.invariant

pub loop-i-preserved : goal.loop-i-preserved
loop-i-preserved c = (sym (laws.quoted_on c.loop-i.escaped c.in-On.next c.args.s.now c.loop-i.i (search rules) (sym c.move_on.ensures ∙ c.in-On.is)) ∙ c.loop-i.invariant)

pub returns : goal.returns
returns c = sym (laws.quoted_end c.loop-i.escaped c.args.s.now c.loop-i.i (search rules)) ∙ c.loop-i.invariant

use Rattle.parse_depth.proofs.Laws.{many-brackets, many-selections, none_yet, none_deep, within, past_end}
use borrow.Author.Rules.{rules}
use native.Mathlib.Omega.{arith}
use Rattle.parse_depth.proofs.first_too_deep.Goals as goal

pub returns-then-b-gt-BRACKETS_MOST : goal.returns-then-b-gt-BRACKETS_MOST
returns-then-b-gt-BRACKETS_MOST c = within c.args.kinds.now c.loop-i.i _ c.loop-i-test.true (many-brackets c.args.kinds.now c.loop-i.b c.loop-i.s c.loop-i.i c.brackets-b.result c.selections-s.result _ c.loop-i-test.true c.brackets-b.ensures c.selections-s.ensures c.loop-i.invariant.2 c.if-b-gt-BRACKETS_MOST.true)

pub returns-then-s-gt-SELECTIONS_MOST : goal.returns-then-s-gt-SELECTIONS_MOST
returns-then-s-gt-SELECTIONS_MOST c = within c.args.kinds.now c.loop-i.i _ c.loop-i-test.true (many-selections c.args.kinds.now c.loop-i.b c.loop-i.s c.loop-i.i c.brackets-b.result c.selections-s.result _ c.loop-i-test.true c.brackets-b.ensures c.selections-s.ensures c.loop-i.invariant.2 c.if-b-gt-BRACKETS_MOST.false c.if-s-gt-SELECTIONS_MOST.true)

pub loop-i-preserved : goal.loop-i-preserved
loop-i-preserved c = (search rules, search rules, none_yet c.args.kinds.now c.loop-i.b c.loop-i.s c.loop-i.i c.brackets-b.result c.selections-s.result _ c.loop-i-test.true c.brackets-b.ensures c.selections-s.ensures c.loop-i.invariant.2 c.if-b-gt-BRACKETS_MOST.false c.if-s-gt-SELECTIONS_MOST.false)

pub returns : goal.returns
returns c = past_end c.args.kinds.now _ (none_deep c.args.kinds.now c.loop-i.b c.loop-i.s c.loop-i.i _ (omega arith) c.loop-i.invariant.2)

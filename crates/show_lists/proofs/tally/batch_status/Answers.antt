use Rattle.show_lists.proofs.Laws as laws
use mathlib.Core.Path.{refl, ap, ◌∙◌}
use mathlib.Core.Bool.{not}
use borrow.Author.Tests.{eq-eqb, lt-ltb, le-ltb}
use Rattle.show_lists.specs.Tally.{batch_status}
use Rattle.show_lists.proofs.tally.batch_status.Goals as goal

pub returns-then-commands-eq0 : goal.returns-then-commands-eq0
unfolding batch_status
returns-then-commands-eq0 c = rw (eq-eqb _ _ c.if-commands-eq0.true) refl

pub returns-then-not-is_expected : goal.returns-then-not-is_expected
returns-then-not-is_expected c = laws.unexpected_status c.args.x _ _ _ _ c.if-commands-eq0.false c.is_expected.ensures (ap not c.if-not-is_expected.true)

pub returns-then-t-gt0 : goal.returns-then-t-gt0
returns-then-t-gt0 c = rw (lt-ltb _ _ c.if-t-gt0.true) refl ∙ laws.expected_status c.args.x _ c.args.t.wrong c.args.t.errors _ c.if-commands-eq0.false c.is_expected.ensures (ap not c.if-not-is_expected.false)

pub returns-then-t-gt0-2 : goal.returns-then-t-gt0-2
returns-then-t-gt0-2 c = rw (le-ltb _ _ c.if-t-gt0.false, lt-ltb _ _ c.if-t-gt0-2.true) refl ∙ laws.expected_status c.args.x _ c.args.t.wrong c.args.t.errors _ c.if-commands-eq0.false c.is_expected.ensures (ap not c.if-not-is_expected.false)

pub returns-else-t-gt0-2 : goal.returns-else-t-gt0-2
returns-else-t-gt0-2 c = rw (le-ltb _ _ c.if-t-gt0.false, le-ltb _ _ c.if-t-gt0-2.false) refl ∙ laws.expected_status c.args.x _ c.args.t.wrong c.args.t.errors _ c.if-commands-eq0.false c.is_expected.ensures (ap not c.if-not-is_expected.false)

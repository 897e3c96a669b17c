use Rattle.show_printed.proofs.Laws as laws
use mathlib.Core.Path.{sym, ◌∙◌}
use Rattle.show_printed.proofs.put_seen.Goals as goal

pub returns-then-is_visible : goal.returns-then-is_visible
returns-then-is_visible c = laws.seen_put _ _ _ (sym c.if-is_visible.true ∙ c.is_visible.ensures) c.put.ensures

pub returns : goal.returns
returns c = laws.unseen_put _ _ _ (sym c.if-is_visible.false ∙ c.is_visible.ensures) c.put_coded.ensures

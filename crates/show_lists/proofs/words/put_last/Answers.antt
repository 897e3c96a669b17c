use mathlib.Core.Path.{sym, ◌∙◌}
use Rattle.show_lists.proofs.Laws as laws
use Rattle.show_lists.proofs.words.put_last.Goals as goal

pub returns-then-ends_last : goal.returns-then-ends_last
returns-then-ends_last c = laws.last-put c.args.x _ _ (sym c.if-ends_last.true ∙ c.ends_last.ensures) c.put.ensures

pub returns : goal.returns
returns c = laws.no_last c.args.x _ (sym c.if-ends_last.false ∙ c.ends_last.ensures)

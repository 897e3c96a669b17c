use Rattle.show_printed.proofs.Laws as laws
use mathlib.Core.Path.{sym, ◌∙◌}
use Rattle.show_printed.proofs.put_escaped.Goals as goal

pub returns-then-is_plain : goal.returns-then-is_plain
returns-then-is_plain c = laws.plain_put _ _ _ (sym c.if-is_plain.true ∙ c.is_plain.ensures) c.put.ensures

pub returns : goal.returns
returns c = laws.escaped-put _ _ _ (sym c.if-is_plain.false ∙ c.is_plain.ensures) c.put_coded.ensures

use Rattle.show_printed.proofs.Laws as laws
use mathlib.Core.Bool.{true, false}
use mathlib.Core.Path.{sym, ◌∙◌}
use Rattle.show_printed.proofs.width.Goals as goal

pub returns-then-is_visible : goal.returns-then-is_visible
returns-then-is_visible c = laws.width_is c.args.b true (sym c.if-is_visible.true ∙ c.is_visible.ensures)

pub returns-else-is_visible : goal.returns-else-is_visible
returns-else-is_visible c = laws.width_is c.args.b false (sym c.if-is_visible.false ∙ c.is_visible.ensures)

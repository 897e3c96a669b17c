use mathlib.Core.Path.{sym, ◌∙◌}
use Rattle.show_lists.proofs.Laws as laws
use Rattle.show_lists.proofs.words.put_byte.Goals as goal

pub returns-then-is_kept : goal.returns-then-is_kept
returns-then-is_kept c = laws.kept_put c.args.x _ _ _ (sym c.if-is_kept.true ∙ c.is_kept.ensures) c.put.ensures

pub returns-then-ends_word : goal.returns-then-ends_word
returns-then-ends_word c = laws.ended-put c.args.x _ _ _ (sym c.if-is_kept.false ∙ c.is_kept.ensures) (sym c.if-ends_word.true ∙ c.ends_word.ensures) c.put-then-ends_word.ensures

pub returns : goal.returns
returns c = laws.nothing_put c.args.x _ _ (sym c.if-is_kept.false ∙ c.is_kept.ensures) (sym c.if-ends_word.false ∙ c.ends_word.ensures)

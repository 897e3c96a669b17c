use mathlib.Core.Path.{refl, sym, ap, ◌∙◌}
use Rattle.base_bytes.specs.Lists.{same}
use Rattle.read_genuine.proofs.Laws as laws
use Rattle.read_genuine.proofs.gives.Goals as goal

pub returns-then-is_ok : goal.returns-then-is_ok
returns-then-is_ok c = laws.gives_accepted c.args.text.now _ _ c.read.result refl c.read.ensures.value c.read.ensures.tables_after c.args.w.now c.same_words.result (sym c.if-is_ok.ensures.value) (c.same_words.ensures ∙ ap (same c.args.w.now) c.written.ensures)

pub returns-else-is_ok : goal.returns-else-is_ok
returns-else-is_ok c = c.if-is_ok.false ∙ laws.gives_refused c.args.text.now _ _ c.read.result refl c.read.ensures.value c.read.ensures.tables_after c.args.w.now (sym c.if-is_ok.ensures.value)

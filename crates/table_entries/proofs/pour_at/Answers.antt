use Rattle.base_pens.specs.Pen.{pen}
use Rattle.base_pens.specs.Pack as pack
use mathlib.Core.Path.{ap, ◌∙◌}
use Rattle.table_entries.proofs.Sources as laws
use Rattle.table_entries.proofs.pour_at.Goals as goal

pub returns : goal.returns
returns c = c.pour.ensures ∙ ap (λ s. pack.pour s (pack.well (pen c.args.out.now c.args.w.at) c.args.w.held c.args.w.a c.args.w.b c.args.w.c)) (laws.bytes_at c.args.text.now c.args.starts.now c.args.ends.now c.args.codes.now c.args.toks.now c.args.i c.word_at-t.ensures.value c.byte_at.ensures c.word_at.ensures.value c.word_at-2.ensures.value c.bytes_of.ensures)

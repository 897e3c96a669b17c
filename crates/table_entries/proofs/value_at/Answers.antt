use Rattle.table_entries.proofs.Sources as laws
use Rattle.table_entries.proofs.value_at.Goals as goal

pub returns : goal.returns
returns c = laws.value_at_lem c.args.text.now c.args.starts.now c.args.ends.now c.args.codes.now c.args.toks.now c.args.i c.word_at-t.ensures.value c.byte_at.ensures c.word_at.ensures.value c.word_at-2.ensures.value c.value_of.ensures

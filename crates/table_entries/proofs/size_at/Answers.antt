use lib.ListN.{length}
use mathlib.Core.Path.{ap}
use Rattle.table_entries.proofs.Sources as laws
use Rattle.table_entries.proofs.size_at.Goals as goal

pub returns : goal.returns
returns c = record { value = ap length (laws.bytes_at c.args.text.now c.args.starts.now c.args.ends.now c.args.codes.now c.args.toks.now c.args.i c.word_at-t.ensures.value c.byte_at.ensures c.word_at.ensures.value c.word_at-2.ensures.value c.bytes_of-s.ensures); upper_bound = rw c.bytes_of-s.ensures (laws.bytes_most c.args.text.now c.byte_at.result c.word_at.result c.word_at-2.result) }

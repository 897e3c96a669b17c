use native.Mathlib.Omega.{arith}
use mathlib.Core.Path.{sym, ◌∙◌, refl}
use Rattle.show_lists.proofs.Laws as laws
use Rattle.show_lists.proofs.words.put_words.Goals as goal

pub loop-b-preserved : goal.loop-b-preserved
loop-b-preserved c = sym (laws.words_more c.args.line.now c.loop-b.b-index c.loop-b.x _ _ _ _ (omega arith) refl c.put_byte-q.ensures c.behind-x.ensures) ∙ c.loop-b.invariant

pub returns : goal.returns
returns c = laws.words_end c.args.line.now c.loop-b.b-index c.loop-b.x _ _ (omega arith) c.put_last.ensures ∙ c.loop-b.invariant

use Rattle.text_pens.proofs.Laws as laws
use Rattle.text_pens.specs.Sheet.{spelled_by}
use mathlib.Core.Path.{sym, ◌∙◌}
use native.Mathlib.Omega.{arith}
use Rattle.text_pens.proofs.put_fixed.Goals as goal

pub loop-j-preserved : goal.loop-j-preserved
loop-j-preserved c = laws.puts-more (spelled_by c.args.k) c.loop-j.j _ _ _ (omega (arith, c.size_of-n.ensures)) c.letter.ensures c.put-q.ensures ∙ c.loop-j.invariant

pub returns : goal.returns
returns c = sym (laws.puts_end (spelled_by c.args.k) c.loop-j.j _ (omega (arith, c.size_of-n.ensures))) ∙ c.loop-j.invariant

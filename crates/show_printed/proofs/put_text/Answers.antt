use native.Mathlib.Omega.{arith}
use mathlib.Core.Path.{sym, refl, ◌∙◌}
use Rattle.show_printed.proofs.Laws as laws
use Rattle.show_printed.proofs.put_text.Goals as goal

pub loop-b-preserved : goal.loop-b-preserved
loop-b-preserved c = sym (laws.shown-more c.args.text.now c.loop-b.b-index c.loop-b.f _ _ _ (omega arith) refl c.put_byte-q.ensures) ∙ c.loop-b.invariant

pub returns : goal.returns
returns c = sym (laws.shown_end c.args.text.now c.loop-b.b-index c.loop-b.f _ (omega arith)) ∙ c.loop-b.invariant

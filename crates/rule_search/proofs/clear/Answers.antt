use native.Mathlib.Omega.{arith}
use mathlib.Core.Path.{refl, ◌∙◌}
use Rattle.rule_sheets.proofs.Walks as laws
use Rattle.rule_search.proofs.clear.Goals as goal

pub loop-w-preserved : goal.loop-w-preserved
loop-w-preserved c = laws.filled_more (λ l v. c.args.n) c.loop-w.w c.args.n c.loop-w.chain c.args.n c.put.new.s (omega arith) refl c.put.ensures ∙ c.loop-w.invariant

pub returns : goal.returns
returns c = laws.filled_end (λ l v. c.args.n) c.loop-w.w c.args.n c.loop-w.chain (omega arith) ∙ c.loop-w.invariant

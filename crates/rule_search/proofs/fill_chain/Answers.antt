use native.Mathlib.Omega.{arith}
use mathlib.Core.Path.{◌∙◌}
use Prim.Native.Nat.{◌-◌}
use Rattle.rule_search.proofs.Chain.{back_more, back_end, chain_long, chain_filled}
use Rattle.rule_search.proofs.fill_chain.Goals as goal

pub returns-then-codes-gt-ITEMS_MOST : goal.returns-then-codes-gt-ITEMS_MOST
returns-then-codes-gt-ITEMS_MOST c = chain_long c.args.codes.now c.args.args.now c.args.chain.now (omega arith)

pub loop-j-preserved : goal.loop-j-preserved
loop-j-preserved c = back_more c.args.codes.now c.args.args.now c.loop-j.j (c.loop-j.j - 1) c.loop-j.chain c.link.new.chain (omega arith) c.link.ensures ∙ c.loop-j.invariant

pub returns : goal.returns
returns c = chain_filled c.args.codes.now c.args.args.now c.args.chain.now c.clear.new.chain c.loop-j.chain (omega arith) c.clear.ensures (back_end c.args.codes.now c.args.args.now c.loop-j.j c.loop-j.chain (omega arith) ∙ c.loop-j.invariant)

use native.Mathlib.Omega.{arith}
use mathlib.Core.Path.{refl, sym, ◌∙◌}
use Rattle.base_bytes.proofs.Lists as laws
use borrow.Author.Rules.{rules}
use Rattle.base_bytes.proofs.same.Goals as goal

pub returns-then-x-y : goal.returns-then-x-y
returns-then-x-y c = sym (laws.same-differ c.args.x.now c.args.y.now c.if-x-y.true)

pub loop-k-init : goal.loop-k-init
loop-k-init c = refl

pub returns-then-x-k : goal.returns-then-x-k
returns-then-x-k c = sym (sym c.loop-k.invariant ∙ laws.same_stop c.args.x.now c.args.y.now c.loop-k.k (search rules) (omega arith) c.if-x-k.true)

pub loop-k-preserved : goal.loop-k-preserved
loop-k-preserved c = sym (laws.same_more c.args.x.now c.args.y.now c.loop-k.k (search rules) (omega arith) c.if-x-k.false) ∙ c.loop-k.invariant

pub returns : goal.returns
returns c = sym (sym c.loop-k.invariant ∙ laws.same_end c.args.x.now c.args.y.now c.loop-k.k (search rules) (omega arith))

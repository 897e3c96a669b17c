use native.Mathlib.Omega.{arith}
use mathlib.Core.Path.{◌≡◌, ◌∙◌}
use Rattle.show_statement.proofs.Laws as laws
use Rattle.show_statement.proofs.leaf_end.Goals as goal

pub loop-i-init : goal.loop-i-init
loop-i-init c = (omega arith, laws.leaf-start c.args.t.now c.args.q c.items-n.result c.items-n.ensures.value)

pub returns-then-ends_leaf : goal.returns-then-ends_leaf
returns-then-ends_leaf c = laws.leaf_found c.args.t.now c.loop-i.i c.items-n.result _ _ _ c.loop-i-test.true c.code.ensures c.ends_leaf.ensures c.if-ends_leaf.true c.loop-i.invariant.1

pub loop-i-preserved : goal.loop-i-preserved
loop-i-preserved c = (omega arith, laws.leaf-more c.args.t.now c.loop-i.i c.items-n.result _ _ _ c.loop-i-test.true c.code.ensures c.ends_leaf.ensures c.if-ends_leaf.false c.loop-i.invariant.1)

pub returns : goal.returns
returns c = let e : c.max.result ≡ c.loop-i.i = omega (arith, c.max.ensures, c.loop-i.invariant.0) in e ∙ laws.leaf-none c.args.t.now c.loop-i.i c.items-n.result _ c.loop-i-test.false c.loop-i.invariant.1

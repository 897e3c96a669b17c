use native.Mathlib.Omega.{arith}
use mathlib.Core.Path.{◌∙◌}
use Rattle.write_texts.proofs.Tokens as laws
use Rattle.write_texts.proofs.mark.Goals as goal

pub loop-i-init : goal.loop-i-init
loop-i-init c = laws.mark-start c.args.t.now c.args.codes.now c.args.from c.args.n

pub loop-i-preserved : goal.loop-i-preserved
loop-i-preserved c = laws.mark-more c.args.t.now c.loop-i.codes c.loop-i.b c.after-b.result c.args.from c.loop-i.i c.args.n c.code-c.result c.marked.result c.unless_before.result c.loop-i-test.true (omega arith) c.code-c.ensures c.marked.ensures c.unless_before.ensures c.after-b.ensures ∙ c.loop-i.invariant

pub returns : goal.returns
returns c = laws.mark_end c.args.t.now c.loop-i.codes c.loop-i.b c.args.from c.loop-i.i c.args.n _ (omega arith) c.loop-i.invariant

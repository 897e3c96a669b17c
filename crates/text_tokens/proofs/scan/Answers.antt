use Rattle.text_pieces.proofs.Sizes.{size}
use Rattle.text_pieces.specs.declared.Piece.TheVariants.{Skip, Take, Stop}
use Rattle.text_tokens.proofs.Scans as laws
use native.Mathlib.Omega.{arith}
use mathlib.Core.Path.{ap}
use borrow.Author.Rules.{rules}
use Rattle.text_tokens.proofs.scan.Goals as goal

pub loop-i-init : goal.loop-i-init
loop-i-init c = laws.at_start c.args.text.now c.args.kinds.now c.args.starts.now c.args.ends.now c.requires.1 c.requires.2 c.requires.3

pub overflow_add-i : goal.overflow_add-i
overflow_add-i c = let w = laws.within c.args.text.now c.loop-i.i c.front-p.result c.front-p.ensures (search rules) in let e = ap size c.in-Skip.is in omega arith

pub loop-i-smaller-in-Skip : goal.loop-i-smaller-in-Skip
loop-i-smaller-in-Skip c = let w = laws.within c.args.text.now c.loop-i.i c.front-p.result c.front-p.ensures (search rules) in let e = ap size c.in-Skip.is in omega arith

pub loop-i-preserved-in-Skip : goal.loop-i-preserved-in-Skip
loop-i-preserved-in-Skip c = laws.past_skip c.loop-i.invariant c.in-Skip.m (search rules) (laws.seen c.args.text.now c.loop-i.i c.front-p.result (Skip c.in-Skip.m) c.front-p.ensures c.in-Skip.is)

pub returns-then-n-eq-TOKENS_MOST : goal.returns-then-n-eq-TOKENS_MOST
returns-then-n-eq-TOKENS_MOST c = laws.full c.loop-i.invariant c.in-Take.k c.in-Take.m (search rules) c.if-n-eq-TOKENS_MOST.true (laws.seen c.args.text.now c.loop-i.i c.front-p.result (Take c.in-Take.k c.in-Take.m) c.front-p.ensures c.in-Take.is)

pub overflow_add-ends : goal.overflow_add-ends
overflow_add-ends c = let w = laws.within c.args.text.now c.loop-i.i c.front-p.result c.front-p.ensures (search rules) in let e = ap size c.in-Take.is in omega arith

pub overflow_cast-ends : goal.overflow_cast-ends
overflow_cast-ends c = let w = laws.within c.args.text.now c.loop-i.i c.front-p.result c.front-p.ensures (search rules) in let e = ap size c.in-Take.is in omega arith

pub overflow_add-i-in-Take : goal.overflow_add-i-in-Take
overflow_add-i-in-Take c = let w = laws.within c.args.text.now c.loop-i.i c.front-p.result c.front-p.ensures (search rules) in let e = ap size c.in-Take.is in omega arith

pub loop-i-smaller : goal.loop-i-smaller
loop-i-smaller c = let w = laws.within c.args.text.now c.loop-i.i c.front-p.result c.front-p.ensures (search rules) in let e = ap size c.in-Take.is in omega arith

pub loop-i-preserved : goal.loop-i-preserved
loop-i-preserved c = laws.past_take c.loop-i.invariant c.in-Take.k c.in-Take.m (search rules) c.if-n-eq-TOKENS_MOST.false (laws.seen c.args.text.now c.loop-i.i c.front-p.result (Take c.in-Take.k c.in-Take.m) c.front-p.ensures c.in-Take.is)

pub returns-in-Stop : goal.returns-in-Stop
returns-in-Stop c = laws.stopped c.loop-i.invariant c.in-Stop.x c.in-Stop.m (search rules) (laws.seen c.args.text.now c.loop-i.i c.front-p.result (Stop c.in-Stop.x c.in-Stop.m) c.front-p.ensures c.in-Stop.is)

pub returns : goal.returns
returns c = laws.finished c.loop-i.invariant c.loop-i-test.false

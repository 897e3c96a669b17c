use Rattle.write_texts.proofs.Stack as laws
use mathlib.Core.Path.{◌≡◌, refl}
use lib.ListN.{length}
use native.Mathlib.Omega.{arith}
use Rattle.write_texts.proofs.flush.Goals as goal

pub loop-p-init : goal.loop-p-init
loop-p-init c = laws.flush_start c.args.stack.now c.args.sp _ _ (omega arith)

pub shape_of-toks-then-not-is_token : goal.shape_of-toks-then-not-is_token
shape_of-toks-then-not-is_token c = c.loop-p.invariant.size

pub returns-then-not-is_token : goal.returns-then-not-is_token
returns-then-not-is_token c = laws.flush_stop _ _ _ _ _ _ _ c.loop-p.invariant _ _ c.loop-p-test.true refl c.is_token.ensures (c.if-not-is_token.true)

pub overflow_sub-q : goal.overflow_sub-q
overflow_sub-q c = omega (arith, c.loop-p.invariant.moved, c.loop-p.invariant.less)

pub bounds-toks-q : goal.bounds-toks-q
bounds-toks-q c = omega (arith, c.loop-p.invariant.moved, c.loop-p.invariant.less, c.loop-p.invariant.size)

pub loop-p-preserved : goal.loop-p-preserved
loop-p-preserved c = laws.flush_more c.args.stack.now c.args.sp c.args.toks.now c.args.tp _ _ _ c.loop-p.invariant _ _ _ c.loop-p-test.true (omega arith) (omega arith) refl c.is_token.ensures (c.if-not-is_token.false) refl

pub shape_of-toks : goal.shape_of-toks
shape_of-toks c = c.loop-p.invariant.size

pub returns : goal.returns
returns c = let e : c.loop-p.p ≡ length c.args.stack.now = omega (arith, c.loop-p.invariant.within) in rw e at (laws.flush_end _ _ _ _ _ _ _ c.loop-p.invariant (omega arith))

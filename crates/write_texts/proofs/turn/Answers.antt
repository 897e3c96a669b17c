use Rattle.write_texts.proofs.Stack as laws
use mathlib.Core.Path.{refl}
use Rattle.write_texts.proofs.turn.Goals as goal

pub loop-i-init : goal.loop-i-init
loop-i-init c = laws.turn_start c.args.symbol c.args.codes.now c.args.stack.now _ c.args.toks.now _ c.requires.2 c.requires.3 c.push-sp.ensures

pub loop-i-preserved : goal.loop-i-preserved
loop-i-preserved c = laws.turn_more c.args.symbol c.args.codes.now c.loop-i.stack c.loop-i.toks _ _ c.loop-i.sp c.loop-i.tp c.loop-i.i _ _ _ _ _ _ _ c.loop-i.invariant c.loop-i-test.true refl c.flush-e.ensures c.word_at-s.ensures c.next.ensures refl c.step-sp.ensures

pub returns : goal.returns
returns c = laws.turn_end c.args.symbol c.args.codes.now c.loop-i.stack c.loop-i.toks _ c.loop-i.sp c.loop-i.tp c.loop-i.i _ _ c.loop-i.invariant c.loop-i-test.false c.flush-e-2.ensures

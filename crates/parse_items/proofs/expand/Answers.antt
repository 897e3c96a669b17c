use lib.ListN.{take}
use lib.Seq.{length-take-le}
use native.Mathlib.Omega.{arith}
use Rattle.parse_machine.specs.Machine.{expand}
use Rattle.parse_items.proofs.Laws.{size_at, none_read, some_read, some_above}
use Rattle.parse_items.proofs.Steps.{no_room_law, expand_law}
use borrow.Author.Rules.{rules}
use Rattle.parse_items.proofs.expand.Goals as goal

pub returns-in_default : goal.returns-in_default
unfolding expand
returns-in_default c = λ o lo. simp (none_read _ c.in_default.is)

pub returns-then-size-sp : goal.returns-then-size-sp
returns-then-size-sp c = λ o lo. rw (← some_read c.args.p _ c.in-Some.is) (no_room_law c.args.v c.args.stack.now c.args.s.sp c.args.s.pos c.args.s.n c.in-Some.p c.from-size.result (take c.args.s.n o) c.requires.2 c.requires.5 (size_at c.args.sides.now _ _ _ c.requires.0 c.from-size.ensures c.byte_at.ensures) (some_above c.args.p _ c.in-Some.is c.requires.1) c.if-size-sp.true)

pub returns : goal.returns
returns c = λ o lo. (rw (← some_read c.args.p _ c.in-Some.is) (expand_law c.args.v c.args.stack.now c.args.s.sp c.args.s.pos c.args.s.n c.in-Some.p c.from-size.result (take c.args.s.n o) c.requires.2 c.requires.5 (size_at c.args.sides.now _ _ _ c.requires.0 c.from-size.ensures c.byte_at.ensures) (some_above c.args.p _ c.in-Some.is c.requires.1) c.if-size-sp.false c.push-top.new.stack c.push-top.result c.mark_of.result (c.mark_of.ensures.0 (take c.args.s.n o) (length-take-le c.args.s.n o (omega arith))) c.push-top.ensures.0), omega (arith, c.push-top.ensures.1), search rules, search rules)

use native.Mathlib.Omega.{arith}
use Prim.Native.Nat.{min}
use lib.ListN.{length}
use mathlib.Core.Path.{refl}
use Rattle.parse_items.proofs.Runs.{refusing, no_room, too_long, deep-first, fault-first, deep-text, exhausted, accepting, deep_is, deep-inside, none_deep, stop-inside}
use Rattle.parse_items.proofs.parse.Goals as goal

pub returns-then-least-lt-ITEMS_MOST : goal.returns-then-least-lt-ITEMS_MOST
returns-then-least-lt-ITEMS_MOST c = refusing c.args.kinds.now c.args.codes.now c.args.tokens.now c.args.sizes.now _ _ _ (no_room c.args.kinds.now c.args.codes.now c.args.tokens.now c.args.sizes.now _ (omega arith))

pub returns-then-kinds-gt-TOKENS_MOST : goal.returns-then-kinds-gt-TOKENS_MOST
returns-then-kinds-gt-TOKENS_MOST c = refusing c.args.kinds.now c.args.codes.now c.args.tokens.now c.args.sizes.now _ _ _ (too_long c.args.kinds.now c.args.codes.now c.args.tokens.now c.args.sizes.now _ (omega arith) c.if-kinds-gt-TOKENS_MOST.true)

pub returns-in-Some-d : goal.returns-in-Some-d
returns-in-Some-d c = refusing c.args.kinds.now c.args.codes.now c.args.tokens.now c.args.sizes.now _ _ _ (deep-text c.args.kinds.now c.args.codes.now c.args.tokens.now c.args.sizes.now _ (omega arith) c.if-kinds-gt-TOKENS_MOST.false _ (deep_is c.args.kinds.now c.first_too_deep-d.ensures _ c.in-Some-d.is) c.drive-a.result c.drive-a.new.out c.drive-a.ensures _ c.in-Accepted.is (deep-inside c.args.kinds.now c.first_too_deep-d.ensures _ c.in-Some-d.is))

pub returns-in-None : goal.returns-in-None
returns-in-None c = refusing c.args.kinds.now c.args.codes.now c.args.tokens.now c.args.sizes.now _ _ _ (fault-first c.args.kinds.now c.args.codes.now c.args.tokens.now c.args.sizes.now _ (omega arith) c.if-kinds-gt-TOKENS_MOST.false _ refl c.drive-a.result c.drive-a.new.out c.drive-a.ensures _ c.in-Stopped.is (omega (arith, stop-inside c.args.kinds.now _ c.if-kinds-gt-TOKENS_MOST.false c.drive-a.ensures _ c.in-Stopped.is, none_deep c.args.kinds.now c.first_too_deep-d.ensures c.in-None.is)))

pub returns-then-k-i : goal.returns-then-k-i
returns-then-k-i c = refusing c.args.kinds.now c.args.codes.now c.args.tokens.now c.args.sizes.now _ _ _ (deep-first c.args.kinds.now c.args.codes.now c.args.tokens.now c.args.sizes.now _ (omega arith) c.if-kinds-gt-TOKENS_MOST.false _ (deep_is c.args.kinds.now c.first_too_deep-d.ensures _ c.in-Some.is) c.drive-a.result c.drive-a.new.out c.drive-a.ensures _ c.in-Stopped.is c.if-k-i.true)

pub returns-else-k-i : goal.returns-else-k-i
returns-else-k-i c = refusing c.args.kinds.now c.args.codes.now c.args.tokens.now c.args.sizes.now _ _ _ (fault-first c.args.kinds.now c.args.codes.now c.args.tokens.now c.args.sizes.now _ (omega arith) c.if-kinds-gt-TOKENS_MOST.false _ (deep_is c.args.kinds.now c.first_too_deep-d.ensures _ c.in-Some.is) c.drive-a.result c.drive-a.new.out c.drive-a.ensures _ c.in-Stopped.is c.if-k-i.false)

pub returns-in_default : goal.returns-in_default
returns-in_default c = accepting c.args.kinds.now c.args.codes.now c.args.tokens.now c.args.sizes.now (min (length c.args.codes.now) (min (length c.args.tokens.now) (length c.args.sizes.now))) (omega arith) c.if-kinds-gt-TOKENS_MOST.false _ refl c.drive-a.result c.drive-a.new.out c.drive-a.ensures _ c.in-Accepted.is (none_deep c.args.kinds.now c.first_too_deep-d.ensures c.in_default.is) c.drive-a.auto.out _ _ _ c.spread.ensures

pub returns-in-Exhausted : goal.returns-in-Exhausted
returns-in-Exhausted c = refusing c.args.kinds.now c.args.codes.now c.args.tokens.now c.args.sizes.now _ _ _ (exhausted c.args.kinds.now c.args.codes.now c.args.tokens.now c.args.sizes.now _ (omega arith) c.if-kinds-gt-TOKENS_MOST.false _ refl c.drive-a.result c.drive-a.new.out c.drive-a.ensures c.in-Exhausted.is)

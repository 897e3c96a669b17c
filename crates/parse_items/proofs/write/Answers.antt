use Rattle.parse_items.proofs.Steps.{write_law, full_law}
use lib.ListN.{drop}
use mathlib.Core.Path.{refl}
use borrow.Author.Rules.{rules}
use Rattle.parse_items.proofs.write.Goals as goal

pub returns-then-n-lt-ITEMS_MOST : goal.returns-then-n-lt-ITEMS_MOST
returns-then-n-lt-ITEMS_MOST c = λ a. (write_law c.args.v c.args.at (drop c.args.s.sp a) c.args.s.pos c.args.out.now c.args.s.n c.requires.4 _ c.minus.result c.if-n-lt-ITEMS_MOST.true c.minus.ensures refl, search rules, search rules, search rules)

pub returns : goal.returns
returns c = λ a. full_law c.args.v c.args.at (drop c.args.s.sp a) c.args.s.pos c.args.out.now c.args.s.n c.requires.4 c.requires.2 c.if-n-lt-ITEMS_MOST.false

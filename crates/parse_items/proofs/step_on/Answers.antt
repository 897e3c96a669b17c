use native.Mathlib.Omega.{arith}
use Rattle.parse_items.proofs.Laws.{by_choices}
use Rattle.parse_items.proofs.Steps.{as_step, empty_end, empty-more, at_end_law, other_law, eat_law, eat_write_law, nonterminal_law, act_law}
use borrow.Author.Rules.{rules}
use Rattle.parse_items.proofs.step_on.Goals as goal

pub returns-then-pos-kinds : goal.returns-then-pos-kinds
returns-then-pos-kinds c = empty-more c.args.kinds.now c.args.stack.now c.args.out.now c.args.s (omega arith) c.if-pos-kinds.true

pub returns-then-sp-ge-STACK : goal.returns-then-sp-ge-STACK
returns-then-sp-ge-STACK c = (empty_end c.args.kinds.now c.args.stack.now c.args.out.now c.args.s (omega arith) c.if-pos-kinds.false, search rules)

pub returns-then-pos-kinds-2 : goal.returns-then-pos-kinds-2
returns-then-pos-kinds-2 c = at_end_law c.args.kinds.now c.args.stack.now c.args.out.now c.args.s (omega arith) c.symbol_of-x.result c.column-k.result c.symbol_of-x.ensures c.column-k.ensures c.if-x-lt-NONTERMINALS.true c.if-pos-kinds-2.true

pub returns-then-x-k : goal.returns-then-x-k
returns-then-x-k c = other_law c.args.kinds.now c.args.stack.now c.args.out.now c.args.s (omega arith) c.symbol_of-x.result c.column-k.result c.symbol_of-x.ensures c.column-k.ensures c.if-x-lt-NONTERMINALS.true c.if-pos-kinds-2.false c.if-x-k.true

pub returns-then-x-lt-NAME : goal.returns-then-x-lt-NAME
returns-then-x-lt-NAME c = (eat_law c.args.kinds.now c.args.stack.now c.args.out.now c.args.s (omega arith) c.symbol_of-x.result c.column-k.result c.symbol_of-x.ensures c.column-k.ensures c.if-x-lt-NONTERMINALS.true c.if-pos-kinds-2.false c.if-x-k.false c.if-x-lt-NAME.true, search rules, search rules, omega arith)

pub returns-then-x-lt-NONTERMINALS : goal.returns-then-x-lt-NONTERMINALS
returns-then-x-lt-NONTERMINALS c = as_step _ _ c.write.result c.args.stack.now c.write.new.out (eat_write_law c.args.kinds.now c.args.stack.now c.args.out.now c.args.s (omega arith) c.symbol_of-x.result c.column-k.result c.symbol_of-x.ensures c.column-k.ensures c.if-x-lt-NONTERMINALS.true c.if-pos-kinds-2.false c.if-x-k.false c.if-x-lt-NAME.false) (c.write.ensures c.args.stack.now)

pub returns-then-x-lt-WRITTEN : goal.returns-then-x-lt-WRITTEN
returns-then-x-lt-WRITTEN c = as_step _ _ c.expand.result c.expand.new.stack c.args.out.now (nonterminal_law c.args.kinds.now c.args.stack.now c.args.out.now c.args.s (omega arith) c.symbol_of-x.result c.column-k.result c.symbol_of-x.ensures c.column-k.ensures c.if-x-lt-NONTERMINALS.false c.if-x-lt-WRITTEN.true _ (by_choices c.args.rows.now _ _ _ c.requires.0 c.production.ensures.number.is)) (c.expand.ensures c.args.out.now c.requires.7)

pub returns : goal.returns
returns c = as_step _ _ c.write-2.result c.args.stack.now c.write-2.new.out (act_law c.args.kinds.now c.args.stack.now c.args.out.now c.args.s (omega arith) c.symbol_of-x.result c.column-k.result c.symbol_of-x.ensures c.column-k.ensures c.if-x-lt-WRITTEN.false) (c.write-2.ensures c.args.stack.now)

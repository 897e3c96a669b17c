use Rattle.show_statement.proofs.Laws as laws
use Rattle.show_statement.proofs.last_of.Goals as goal

pub returns-then-is_branching : goal.returns-then-is_branching
returns-then-is_branching c = laws.last-linked c.args.t.now c.args.q _ _ _ c.code.ensures c.is_branching.ensures c.if-is_branching.true c.link.ensures.value

pub returns-else-is_branching : goal.returns-else-is_branching
returns-else-is_branching c = laws.last_leaf c.args.t.now c.args.q _ _ _ c.code.ensures c.is_branching.ensures c.if-is_branching.false c.leaf_end.ensures

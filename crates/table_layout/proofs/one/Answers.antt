use Rattle.table_layout.proofs.Building as laws
use Rattle.table_layout.proofs.one.Goals as goal

pub returns-then-c-eq-NUMBER : goal.returns-then-c-eq-NUMBER
returns-then-c-eq-NUMBER c = let all = laws.one-yes c.args.c c.if-c-eq-NUMBER.true in record { value = all.0; upper_bound = all.1 }

pub returns-else-c-eq-NUMBER : goal.returns-else-c-eq-NUMBER
returns-else-c-eq-NUMBER c = let all = laws.one_no c.args.c c.if-c-eq-NUMBER.false in record { value = all.0; upper_bound = all.1 }

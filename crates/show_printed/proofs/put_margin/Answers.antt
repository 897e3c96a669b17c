use Rattle.spec_account.specs.Bytes.{margin}
use Rattle.show_printed.proofs.Laws as laws
use Rattle.show_printed.proofs.put_margin.Goals as goal

pub returns-then-fresh : goal.returns-then-fresh
unfolding margin
returns-then-fresh c = rw c.if-fresh.true (laws.two-put _ _ _ _ _ c.put-q.ensures c.put.ensures)

pub returns : goal.returns
unfolding margin
returns c = rw c.if-fresh.false (laws.none-put _)

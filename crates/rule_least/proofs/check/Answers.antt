use Rattle.rule_search.proofs.Chain.{chained}
use Rattle.rule_least.specs.Faults as faults
use Rattle.rule_least.proofs.check.Goals as goal

pub least_fault-requires : goal.least_fault-requires
least_fault-requires c = rw c.fill_chain.ensures (chained c.args.codes.now c.args.args.now)

pub returns : goal.returns
unfolding faults.checked
returns c = rw (c.least_fault.ensures, c.fill_heights.ensures, c.fill_starts.ensures, c.fill_homes.ensures)

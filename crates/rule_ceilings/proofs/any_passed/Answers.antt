use Rattle.rule_ceilings.specs.Ceilings as tops
use Rattle.rule_ceilings.proofs.any_passed.Goals as goal

pub returns : goal.returns
unfolding tops.any_passed
returns c = rw (c.either-8.ensures, c.either-7.ensures, c.either-6.ensures, c.either-5.ensures, c.either-4.ensures, c.either-3.ensures, c.either-2.ensures, c.either.ensures, c.total-6.ensures, c.total-5.ensures, c.total-4.ensures, c.total-3.ensures, c.total-2.ensures, c.total.ensures, c.total-processes.ensures, c.numbers.ensures)

use Rattle.rule_item.specs.Rules as rules
use Rattle.rule_item.proofs.bad_variable.Goals as goal

pub returns : goal.returns
unfolding rules.bad_variable
returns c = rw (c.choose-4.ensures, c.choose-3.ensures, c.choose-x.ensures, c.choose-2.ensures, c.choose.ensures, c.is_chan.ensures, c.is_array-a.ensures)

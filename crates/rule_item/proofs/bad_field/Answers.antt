use Rattle.rule_item.specs.Rules as rules
use Rattle.rule_item.proofs.bad_field.Goals as goal

pub returns : goal.returns
unfolding rules.bad_field
returns c = rw (c.choose.ensures, c.minus.ensures, c.after.ensures)

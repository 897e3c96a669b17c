use Rattle.rule_item.specs.Rules as rules
use Rattle.rule_item.proofs.is_chan.Goals as goal

pub returns : goal.returns
unfolding rules.is_chan
returns c = rw (c.byte_at.ensures, c.minus.ensures, c.after.ensures)

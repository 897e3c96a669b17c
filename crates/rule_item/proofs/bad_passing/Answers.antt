use Rattle.rule_item.specs.Rules as rules
use Rattle.rule_item.proofs.bad_passing.Goals as goal

pub returns : goal.returns
unfolding rules.bad_passing
returns c = λ k. rw (c.choose-2.ensures, c.choose.ensures, c.bad_run.ensures k, c.count-p.ensures, c.body_of.ensures, c.global-g.ensures k, c.minus.ensures)

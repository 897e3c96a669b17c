use Rattle.rule_search.specs.Search as finding
use Rattle.rule_search.proofs.opener.Goals as goal

pub returns : goal.returns
unfolding finding.opener
returns c = rw (c.minus.ensures, c.after.ensures)

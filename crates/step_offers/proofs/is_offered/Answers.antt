use Rattle.step_offers.proofs.Picks.{some_found, none_found}
use Rattle.step_offers.proofs.is_offered.Goals as goal

pub returns-in-Found : goal.returns-in-Found
returns-in-Found c = some_found _ c.offered-w.ensures c.in-Found.is

pub returns-in-Left : goal.returns-in-Left
returns-in-Left c = none_found _ c.offered-w.ensures c.in-Left.is

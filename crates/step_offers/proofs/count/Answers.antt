use Rattle.step_offers.proofs.Picks.{count-all, count_left}
use Rattle.step_offers.proofs.count.Goals as goal

pub returns-in-Found : goal.returns-in-Found
returns-in-Found c = count-all _ c.offered-w.ensures c.in-Found.is

pub returns-in-Left : goal.returns-in-Left
returns-in-Left c = count_left _ c.offered-w.ensures c.in-Left.is c.lacking.ensures

use Rattle.step_offers.proofs.+walk_else.Given as goal

abbrev pub decreases-walk_else : goal.decreases-walk_else
decreases-walk_else l = l.n

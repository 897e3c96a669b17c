use Rattle.show_deeds.proofs.+put_targets.Given as goal

abbrev pub decreases-put_targets : goal.decreases-put_targets
decreases-put_targets l = l.n

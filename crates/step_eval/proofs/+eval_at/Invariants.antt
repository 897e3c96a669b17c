use Rattle.step_eval.proofs.+eval_at.Given as goal

abbrev pub decreases-eval_at : goal.decreases-eval_at
decreases-eval_at l = l.h

use Rattle.jd_expr.proofs.evaluate.+evaluation.Given as goal

abbrev pub decreases-eval_to : goal.decreases-eval_to
decreases-eval_to l = l.fuel

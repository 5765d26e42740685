use Rattle.jd_world.proofs.Moving.{steps_err}
use Rattle.jd_world.proofs.step.outside_step.Goals as goal

pub returns-in-Err-clause-steps : goal.returns-in-Err-clause-steps
returns-in-Err-clause-steps c = steps_err (Unit {0}) _ _ _ c.in-Err.fault c.in-Err.ensures.tries

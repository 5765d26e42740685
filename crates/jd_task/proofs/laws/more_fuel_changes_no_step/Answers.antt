use Rattle.jd_task.proofs.Fuel.{same_steps}
use Rattle.jd_task.proofs.laws.more_fuel_changes_no_step.Goals as goal

pub returns : goal.returns
returns c = same_steps

use Rattle.jd_task.proofs.Recursion.{recursion}
use Rattle.jd_task.proofs.laws.resuming_is_recursion.Goals as goal

pub returns : goal.returns
returns c = recursion

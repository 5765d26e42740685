use Rattle.jd_node.proofs.Tables.{tasks_put}
use Rattle.jd_node.proofs.tasks.Tasks.take.Goals as goal

pub returns-clause-gone : goal.returns-clause-gone
returns-clause-gone c = tasks_put _ _ _ _ c.remove.ensures.updates

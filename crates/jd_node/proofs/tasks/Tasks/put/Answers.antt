use Rattle.jd_node.proofs.Tables.{tasks_put}
use Rattle.jd_node.proofs.tasks.Tasks.put.Goals as goal

pub returns : goal.returns
returns c = tasks_put _ _ _ _ c.in_ok-insert.ensures.updates

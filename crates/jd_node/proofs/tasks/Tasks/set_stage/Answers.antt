use Rattle.std.proofs.Common.{ap, ◌∙◌}
use Rattle.jd_node.specs.Tables.{staged, tasks_of}
use Rattle.jd_node.proofs.Tables.{tasks_staged}
use Rattle.jd_node.proofs.tasks.Tasks.set_stage.Goals as goal

pub returns-in-Some-clause-set : goal.returns-in-Some-clause-set
returns-in-Some-clause-set c =
    tasks_staged _ _ c.args.task c.replace.new.dest _ _ c.row.view_is c.in-Some.ensures.value (c.get_mut.follows.holds _).3
    ∙ ap (λ stage. staged (tasks_of c.args.self.now) c.args.task stage (tasks_of c.args.self.now c.args.task.process c.args.task.number)) c.replace.ensures.after

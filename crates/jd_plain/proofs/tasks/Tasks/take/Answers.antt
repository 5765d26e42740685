use Rattle.jd_plain.specs.Held.{task_of}
use Rattle.jd_plain.proofs.Maps.{by_task-put}
use Rattle.jd_plain.proofs.tasks.Tasks.take.Goals as goal
use Rattle.std.proofs.Common.{None}

pub returns-clause-rest : goal.returns-clause-rest
returns-clause-rest c = by_task-put task_of c.args.self.now.held c.remove.new.self c.args.task None c.remove.ensures.updates.0

use Rattle.jd_plain.specs.Held.{task_of}
use Rattle.jd_plain.proofs.Maps.{by_task-put}
use Rattle.jd_plain.proofs.tasks.Tasks.put.Goals as goal
use Rattle.std.proofs.Common.{Some}

pub returns-clause-ok : goal.returns-clause-ok
returns-clause-ok c = by_task-put task_of c.args.self.now.held c.insert.new.self c.args.task (Some c.args.held) c.in_ok-insert.ensures.updates.0

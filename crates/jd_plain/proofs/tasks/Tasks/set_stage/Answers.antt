use Rattle.std.proofs.Common.{rules}
use Rattle.jd_model.specs.declared.life.Life.TheVariants.{Running}
use Rattle.jd_plain.specs.declared.task.Task.{Task}
use Rattle.jd_plain.specs.Held.{task_of, task_at}
use Rattle.jd_plain.proofs.Lives.{task_at-other}
use Rattle.jd_plain.proofs.Maps.{by_task-write}
use Rattle.jd_plain.proofs.tasks.Tasks.set_stage.Goals as goal

pub returns-in-Running : goal.returns-in-Running
returns-in-Running c =
    let w : Task = record { home = c.in-Some.held.now.home; cell = c.in-Some.held.now.cell; life = Running c.in-Running.place c.replace.new.dest } in
    by_task-write task_of (task_at c.args.stage) c.args.self.now.held (c.get_mut.follows.lender w) c.args.task c.in-Some.held.now w c.in-Some.ensures.value
    (c.get_mut.follows.holds w).3 (search rules)

pub returns-in_default : goal.returns-in_default
returns-in_default c =
    let w : Task = c.in-Some.held.now in
    by_task-write task_of (task_at c.args.stage) c.args.self.now.held (c.get_mut.follows.lender w) c.args.task w w c.in-Some.ensures.value
    (c.get_mut.follows.holds w).3 (task_at-other c.args.stage (task_of w) c.in_default.not-Running)

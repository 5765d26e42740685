use Rattle.std.proofs.Common.{◌≡◌, take}
use Rattle.std.specs.List.{list_any}
use Rattle.jd_value.specs.declared.reference.RefId.{RefId}
use Rattle.jd_model.specs.Machine.{in_task}
use Rattle.jd_plain.specs.Occurs.{is_in}
use Rattle.jd_plain.specs.Tables.{tasks_of}
use Rattle.jd_plain.proofs.occurs.occurring.Given as goal

abbrev pub invariant-loop-task : goal.invariant-loop-task
invariant-loop-task l = (r : RefId) → is_in l.found r ≡ list_any (λ t. in_task l.process (tasks_of l.tasks t.process t.number) r) (take l.task-index l.running)

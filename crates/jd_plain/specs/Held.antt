-- The machine's tasks and requests, of those that the code holds.
use Rattle.jd_model.specs.Machine.{Task, Request}
use Rattle.jd_model.specs.declared.life.Answer.{Answer}
use Rattle.jd_model.specs.declared.life.Life.{Life}
use Rattle.jd_model.specs.declared.life.Life.TheVariants.{Running}
use Rattle.jd_model.specs.declared.life.Stage.{Stage}
use Rattle.jd_plain.specs.declared.task.Task.{Task as HeldTask}
use Rattle.jd_plain.specs.declared.request.Request.{Request as HeldRequest}

-- The task that the code's stands for.
abbrev pub task_of : HeldTask → Task
task_of t = record { home = t.home; cell = t.cell; life = t.life }

-- The request that the code's stands for.
abbrev pub request_of : HeldRequest → Request
request_of q = record { task = q.task; cell = q.cell; is_here = q.is_here; answer = q.answer }

-- The life of a task that runs, at another stage of the same place.
abbrev pub life_at : Stage → Life → Life
life_at st (Running place old) = Running place st
life_at st life = life

abbrev pub task_at : Stage → Task → Task
task_at st k = record k { life = life_at st k.life }

-- The request, as far as that.
abbrev pub answered_with : Answer → Request → Request
answered_with answer q = record q { answer = answer }

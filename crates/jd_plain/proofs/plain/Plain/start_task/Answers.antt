use Rattle.std.proofs.Common.{◌≡◌, ℕ, Option, Some, ap, ◌∙◌, sym}
use Rattle.jd_task.specs.declared.job.TaskId.{TaskId}
use Rattle.jd_model.specs.Machine.{State, Task, started}
use Rattle.jd_plain.specs.Held.{task_of}
use Rattle.jd_plain.specs.State.{state_of}
use Rattle.jd_plain.specs.Steps.{begun}
use Rattle.jd_plain.specs.Tables.{tasks_of}
use Rattle.jd_plain.proofs.Stepped.{begun-without, started_at-not, put_back, none_out}
use Rattle.jd_plain.proofs.plain.Plain.start_task.Goals as goal

pub returns-in_ok-begin-in-Ok : goal.returns-in_ok-begin-in-Ok
returns-in_ok-begin-in-Ok c =
    let s = state_of c.args.self.now in let t = c.args.task in
    let out : (ℕ → ℕ → Option Task) → State = λ f. begun (record s { tasks = f }) t c.in-Ok.calling in
    c.in_ok-begin-in-Ok.ensures ∙ ap out c.take.ensures.rest ∙ begun-without s t c.in-Ok.calling (ap Some c.in-Ok.ensures ∙ c.in-Some.ensures.value)

pub returns-in_ok-put-in-Err : goal.returns-in_ok-put-in-Err
returns-in_ok-put-in-Err c =
    let x = c.args.self.now in let s = state_of x in let t = c.args.task in let held = c.in-Some.held in
    let at : (ℕ → ℕ → Option Task) → State = λ f. record s { tasks = f } in
    let there : Some (task_of held) ≡ s.tasks t.process t.number = c.in-Some.ensures.value in
    let there_put : Some (task_of c.in-Err.held) ≡ s.tasks t.process t.number = ap (λ h. Some (task_of h)) c.in-Err.ensures.0 ∙ there in
    ap at (put_back s.tasks (tasks_of c.take.new.self) (tasks_of c.put.new.self) t (task_of c.in-Err.held) c.take.ensures.rest c.in_ok-put-in-Err.ensures.ok there_put)
    ∙ started_at-not x t (task_of held) held.life c.in-Err.ensures.1 ∙ ap (started s t) there

pub returns-in-None : goal.returns-in-None
returns-in-None c =
    let s = state_of c.args.self.now in let t = c.args.task in
    let at : (ℕ → ℕ → Option Task) → State = λ f. record s { tasks = f } in
    ap at (none_out s.tasks (tasks_of c.take.new.self) t c.take.ensures.rest c.in-None.ensures.value) ∙ ap (started s t) c.in-None.ensures.value

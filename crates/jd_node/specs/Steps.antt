-- Parts of a node's steps, and when a step would pass a limit.
use Rattle.std.specs.Prelude.{◌≡◌, ℕ, ◌==◌, ◌||◌, ◌-◌, ◌^◌, Bool, true, false, List, [], ◌∷◌, Option, Some, None}
use Rattle.jd_value.specs.declared.reference.Ask.{Ask}
use Rattle.jd_task.specs.declared.job.TaskId.{TaskId}
use Rattle.jd_task.specs.declared.job.Job.{Job}
use Rattle.jd_task.specs.declared.job.Turn.{Turn}
use Rattle.jd_task.specs.declared.job.Turn.TheVariants.{Asks, Ended}
use Rattle.jd_task.specs.declared.msg.Msg.{Msg}
use Rattle.jd_model.specs.Outcome.{Outcome}
use Rattle.jd_model.specs.declared.asking.Asking.{Asking}
use Rattle.jd_model.specs.declared.asking.Asking.TheVariants.{Fetches, Calls}
use Rattle.jd_model.specs.declared.life.Stage.{Stage}
use Rattle.jd_model.specs.declared.life.Stage.TheVariants.{Ready}
use Rattle.jd_task.specs.declared.place.Place.{Place}
use Rattle.jd_task.specs.Running.{advance}
use Rattle.jd_model.specs.Asking.{asking}
use Rattle.jd_model.specs.Machine.{is_main}
use Rattle.jd_model.specs.Table.{put}
use Rattle.jd_model.specs.Node.{Node, Running, Stepped, readied, behind, woken, handed_out}

-- a task that waits can go on with this answer, where it runs here
abbrev pub given_to : Node → TaskId → Outcome → Option Running → Node
given_to n t o None = n
given_to n t o (Some k) = readied n t k.cell k.place o

-- these requests have this answer, in their order
abbrev pub all_woken : ℕ → Outcome → List Ask → Stepped → Stepped
all_woken p o [] s = s
all_woken p o (a ∷ rest) s = all_woken p o rest (behind s.effects (woken p s.node a o))

-- the greatest number of 64 bits
abbrev pub greatest : ℕ
greatest = 2 ^ 64 - 1

-- Where a number of the process would have to rise above the greatest.
abbrev pub passes_at : Node → Asking → Bool
passes_at n (Fetches r) = n.asked == greatest
passes_at n (Calls p code args) = n.called == greatest || n.made == greatest
passes_at n _ = false

-- Where the end of this step would pass a limit.
abbrev pub passes : Node → TaskId → Turn → Bool
passes n t (Asks op) = passes_at n (asking n.workers n.noticed (is_main t) op)
passes n t (Ended o) = false

-- The node hands out this job: its oldest task that can go on, with its place and its answer.
pub record HandsOut (old : Node) (job : Job) (new : Node) : Type 0 where
  pub rest : List TaskId
  pub oldest : old.ready ≡ job.task ∷ rest
  pub task : old.tasks job.task.process job.task.number ≡ Some (record { cell = job.cell; place = job.place; stage = Ready job.answer })
  pub node : new ≡ handed_out old job.task rest

-- The oldest message to that process leaves.
pub record Sends (old : Node) (to : ℕ) (m : Msg) (new : Node) : Type 0 where
  pub rest : List Msg
  pub oldest : old.outbox to ≡ m ∷ rest
  pub node : new ≡ record old { outbox = put old.outbox to rest }

-- A task can go on.
abbrev pub is_ready_stage : Stage → Bool
is_ready_stage (Ready o) = true
is_ready_stage _ = false

abbrev pub is_ready_at : Option Running → Bool
is_ready_at None = false
is_ready_at (Some k) = is_ready_stage k.stage

abbrev pub task_passes : Node → TaskId → Place → Stage → Bool
task_passes n t place (Ready o) = passes n t (advance place o).1
task_passes n t place _ = false

abbrev pub row_passes : Node → TaskId → Option Running → Bool
row_passes n t None = false
row_passes n t (Some k) = task_passes n t k.place k.stage

abbrev pub oldest_passes : Node → List TaskId → Bool
oldest_passes n [] = false
oldest_passes n (t ∷ rest) = row_passes n t (n.tasks t.process t.number)

-- Where the step of the oldest task that can go on would pass a limit.
abbrev pub run_passes : Node → Bool
run_passes n = oldest_passes n n.ready

-- the job of a task that can go on
abbrev pub job_at : TaskId → Running → Stage → Option Job
job_at t k (Ready o) = Some (record { task = t; cell = k.cell; place = k.place; answer = o })
job_at t k _ = None

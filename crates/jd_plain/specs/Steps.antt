-- What the code has in hand in the middle of a step.
use Rattle.std.specs.Prelude.{ℕ, List, ◌++◌, ◌∷◌, [], Option, None, Some, option_map, Ok}
use Rattle.jd_value.specs.declared.reference.RefId.{RefId}
use Rattle.jd_value.specs.declared.value.Value.TheVariants.{Nothing}
use Rattle.jd_task.specs.declared.job.TaskId.{TaskId}
use Rattle.jd_model.specs.Outcome.{Outcome}
use Rattle.jd_model.specs.declared.life.Answer.{Answer}
use Rattle.jd_model.specs.declared.life.Answer.TheVariants as answer
use Rattle.jd_model.specs.declared.life.Life.{Life}
use Rattle.jd_model.specs.declared.life.Life.TheVariants.{Called, Running, Over}
use Rattle.jd_model.specs.declared.life.Stage.TheVariants as stage
use Rattle.jd_task.specs.Running.{advance}
use Rattle.jd_task.specs.Places.{called_place}
use Rattle.jd_model.specs.Machine.{State, Task, Request, add_once, refreshed, kept, outcome_of, kept_answer, turned, with_life}
use Rattle.jd_model.specs.Table.{put, put2}
use Rattle.jd_plain.specs.declared.gift.Gift.{Gift}
use Rattle.jd_plain.specs.declared.gift.Source.{Source}
use Rattle.jd_plain.specs.declared.gift.Source.TheVariants as source
use Rattle.jd_plain.specs.declared.going.Going.{Going}
use Rattle.jd_plain.specs.declared.going.Ready.{Ready}
use Rattle.jd_plain.specs.declared.going.Calling.{Calling}
use Rattle.jd_plain.specs.Held.{task_at, answered_with}

-- ---- tasks that were taken out of the table

-- A task that isn't in the table, whose life is still to be put in.
abbrev pub going_task : Going → Task
going_task g = record { home = g.home; cell = g.cell; life = Over }

-- A task that can go on.
abbrev pub ready_task : Ready → Task
ready_task r = record { home = r.home; cell = r.cell; life = Running r.place (stage.Ready r.answer) }

-- A task that was called.
abbrev pub calling_task : Calling → Task
calling_task k = record { home = k.home; cell = k.cell; life = Called k.code k.args }

abbrev pub IsNotReady : Life → Type 0
IsNotReady (Running place (stage.Ready o)) = ⊥
IsNotReady _ = Unit {0}

abbrev pub IsNotCalled : Life → Type 0
IsNotCalled (Called code args) = ⊥
IsNotCalled _ = Unit {0}

-- The state without a task.
abbrev pub without : State → TaskId → State
without s t = record s { tasks = put2 s.tasks t.process t.number None }

-- ---- what marks give

-- The answer to a request, where there is one.
abbrev pub gift_with : ℕ → ℕ → Request → Option Outcome → Option Gift
gift_with home a q None = None
gift_with home a q (Some o) = Some (record { ask = record { process = home; number = a }; cell = q.cell; outcome = o })

-- The answer that this source has for a request.
abbrev pub outcome_from : Source → State → Request → Option Outcome
outcome_from source.Kept s q = kept_answer q.answer
outcome_from source.Cell s q = outcome_of s q.cell

abbrev pub gift_for : Source → State → ℕ → ℕ → Option Request → Option Gift
gift_for from s home a None = None
gift_for from s home a (Some q) = gift_with home a q (outcome_from from s q)

abbrev pub gift_in : Source → State → ℕ → Life → Option Gift
gift_in from s home (Running place (stage.Waits a)) = gift_for from s home a (s.requests home a)
gift_in from s home _ = None

-- What the task is to get, where it waits and this source has the answer to its request.
abbrev pub gift_of : Source → State → Option Task → Option Gift
gift_of from s None = None
gift_of from s (Some k) = gift_in from s k.home k.life

-- The task has the answer, and its process has fetched it.
abbrev pub given_by : State → TaskId → Option Gift → State
given_by s t None = s
given_by s t (Some g) =
    refreshed (record s {
      tasks = put2 s.tasks t.process t.number (option_map (task_at (stage.Ready g.outcome)) (s.tasks t.process t.number));
      requests = put2 s.requests g.ask.process g.ask.number (option_map (answered_with answer.Given) (s.requests g.ask.process g.ask.number));
      fetched = put s.fetched g.ask.process (add_once (s.fetched g.ask.process) g.cell);
    }) g.ask.process

-- The answer that the owner has for a request.
abbrev pub answer_of : State → Request → Answer
answer_of s q = kept (outcome_of s q.cell)

-- ---- steps of tasks that were taken out of the table

abbrev pub advanced : State → TaskId → Ready → State
advanced s t r = let turn = advance r.place r.answer in
    refreshed (turned s t (record { home = r.home; cell = r.cell; life = Over }) turn.0 turn.1) r.home

abbrev pub begun : State → TaskId → Calling → State
begun s t k =
    record (with_life s t (calling_task k) (Running (called_place k.code k.args) (stage.Ready (Ok Nothing)))) { running = s.running ++ t ∷ [] }

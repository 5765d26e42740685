-- What a cluster and the reference machine of its record have in common: the machine explains every task, cell and
-- message, and each pending request is accounted for once. Each family of facts is about live processes.
use Rattle.std.specs.Prelude.{◌≡◌, ℕ, ◌+◌, ◌<◌, ◌≤◌, ◌==◌, List, [], ◌∷◌, ◌++◌, Option, Some, None, Bool, true, false, not, ◌&&◌, if◌then◌else◌, is_some, is_none, Result, Ok, Err}
use Rattle.jd_value.specs.declared.reference.RefId.{RefId}
use Rattle.jd_value.specs.declared.reference.Ask.{Ask}
use Rattle.jd_value.specs.declared.tree.Program.{Program}
use Rattle.jd_task.specs.declared.job.TaskId.{TaskId}
use Rattle.jd_task.specs.declared.closure.Closure.{Closure}
use Rattle.jd_task.specs.declared.place.Place.{Place}
use Rattle.jd_task.specs.declared.msg.Msg.{Msg}
use Rattle.jd_task.specs.declared.msg.Msg.TheVariants.{Begin, Call, Fetch, Reply}
use Rattle.jd_model.specs.Outcome.{Outcome}
use Rattle.jd_model.specs.declared.life.Stage.{Stage}
use Rattle.jd_model.specs.declared.life.Stage.TheVariants as stage
use Rattle.jd_model.specs.declared.life.Life.{Life}
use Rattle.jd_model.specs.declared.life.Life.TheVariants.{Called, Running as Runs, Over}
use Rattle.jd_model.specs.declared.life.Answer.{Answer}
use Rattle.jd_model.specs.declared.life.Answer.TheVariants.{Asked, Kept, Given}
use Rattle.jd_model.specs.declared.mark.Mark.{Mark}
use Rattle.jd_model.specs.declared.start.Start.{Start}
use Rattle.jd_model.specs.Table.{one, count, only, All}
use Rattle.jd_model.specs.Asking.{is_known}
use Rattle.jd_model.specs.Machine.{State, Task, Request, is_called, is_live, is_asked, is_cut_off, answer_at, joined, outcome_of, replayed, ending_of, exited}
use Rattle.jd_model.specs.Node.{Node, Running, OpenAsk, Waiting}
use Rattle.jd_model.specs.World.{Net, Told, with_main}

-- All that is on its way from p to q: on the link, and behind it in the outbox.
abbrev pub way : Net → ℕ → ℕ → List Msg
way w p q = w.links p q ++ (w.nodes p).outbox q

-- ---- tasks

abbrev pub shown_by : Stage → Option Outcome → Stage
shown_by st None = st
shown_by st (Some o) = stage.Ready o

-- A task that waits for a process whose loss was noticed can go on with that.
abbrev pub shown_stage : State → ℕ → Stage → Stage
shown_stage s p (stage.Waits a) = shown_by (stage.Waits a) (exited s p (s.requests p a))
shown_stage s p st = st

abbrev pub running_life : State → Task → Life → Option Running
running_life s k (Runs place st) = Some (record { cell = k.cell; place = place; stage = shown_stage s k.home st })
running_life s k _ = None

-- The task as it runs on p.
abbrev pub running_at : State → ℕ → Option Task → Option Running
running_at s p None = None
running_at s p (Some k) = if k.home == p then running_life s k k.life else None

abbrev pub is_ready_stage : Stage → Bool
is_ready_stage (stage.Ready o) = true
is_ready_stage _ = false

abbrev pub is_ready : Option Running → Bool
is_ready None = false
is_ready (Some k) = is_ready_stage k.stage

abbrev pub is_task_of : ℕ → ℕ → TaskId → Bool
is_task_of m n t = t.process == m && t.number == n

-- ---- calls

abbrev pub is_call : ℕ → Msg → Bool
is_call n (Call r t code args) = t.number == n
is_call n _ = false

abbrev pub call_message : ℕ → ℕ → Option RefId → Life → List Msg
call_message p n (Some r) (Called code args) = Call r (record { process = p; number = n }) code args ∷ []
call_message p n _ _ = []

-- The message that calls task n of p on q, where it hasn't started.
abbrev pub call_messages : ℕ → ℕ → ℕ → Option Task → List Msg
call_messages p q n None = []
call_messages p q n (Some k) = if k.home == q then call_message p n k.cell k.life else []

-- ---- requests and replies

abbrev pub is_cell : ℕ → ℕ → ℕ → RefId → Bool
is_cell m n o r = r.maker == m && (r.number == n && r.owner == o)

abbrev pub is_fetch : ℕ → ℕ → ℕ → ℕ → Msg → Bool
is_fetch a m n o (Fetch b r) = b == a && is_cell m n o r
is_fetch a m n o _ = false

abbrev pub is_waiting : ℕ → ℕ → ℕ → ℕ → ℕ → Waiting → Bool
is_waiting p a m n o w = w.ask.process == p && (w.ask.number == a && is_cell m n o w.cell)

-- A request for that cell, which isn't answered yet.
abbrev pub is_pending : ℕ → ℕ → ℕ → Option Request → Bool
is_pending m n o None = false
is_pending m n o (Some q) = is_asked q.answer && is_cell m n o q.cell

abbrev pub is_reply : ℕ → Msg → Bool
is_reply a (Reply b o) = b == a
is_reply a _ = false

abbrev pub reply_message : ℕ → Answer → List Msg
reply_message a (Kept o) = Reply a o ∷ []
reply_message a _ = []

-- The reply of q to request a, where it was answered and the answer isn't back.
abbrev pub reply_messages : ℕ → ℕ → Option Request → List Msg
reply_messages q a None = []
reply_messages q a (Some k) = if k.cell.owner == q then reply_message a k.answer else []

abbrev pub open_by : TaskId → RefId → Answer → Option OpenAsk
open_by t r Given = None
open_by t r _ = Some (record { task = t; cell = r })

-- The request, as its process has it open.
abbrev pub open_ask : State → ℕ → Option Request → Option OpenAsk
open_ask s p None = None
open_ask s p (Some q) = if is_cut_off s p q then None else open_by q.task q.cell q.answer

-- ---- the machine's own facts

-- This request is the one that the task waits for.
abbrev pub IsWaitedBy : State → ℕ → ℕ → Request → Type 0
IsWaitedBy s p a q = (k : Task) × (place : Place) × (s.tasks q.task.process q.task.number ≡ Some k) × (k.home ≡ p) × (k.life ≡ Runs place (stage.Waits a))

-- The task waits for a request of its own.
abbrev pub IsAskedBy : State → ℕ → ℕ → ℕ → ℕ → Type 0
IsAskedBy s p a m n = (q : Request) × (s.requests p a ≡ Some q) × (q.task ≡ record { process = m; number = n }) × (q.answer ≡ Given → ⊥)

-- What holds in each state that the machine comes to.
pub record IsSound (s : State) : Type 0 where
  pub no_task : (p n : ℕ) → s.called p < n → s.tasks p n ≡ None
  pub no_request : (p a : ℕ) → s.asked p < a → s.requests p a ≡ None
  pub no_cell : (m n o : ℕ) → s.made m < n → s.cells m n o ≡ None
  -- tasks run on processes of the cluster, main on process 1; main has started, and each other task has a cell of its
  -- process, which was made
  pub homes : (p n : ℕ) (k : Task) → s.tasks p n ≡ Some k → is_known s.workers k.home ≡ true
  pub main_home : (k : Task) → s.tasks 1 0 ≡ Some k → k.home ≡ 1
  pub cell_home : (p n : ℕ) (k : Task) (r : RefId) → s.tasks p n ≡ Some k → k.cell ≡ Some r → r.owner ≡ k.home
  pub no_cell_home : (p n : ℕ) (k : Task) → s.tasks p n ≡ Some k → k.cell ≡ None → k.home ≡ 1
  pub cell_made : (p n : ℕ) (k : Task) (r : RefId) → s.tasks p n ≡ Some k → k.cell ≡ Some r → r.number ≤ s.made r.maker
  pub begun : (p n : ℕ) (k : Task) → s.tasks p n ≡ Some k → k.cell ≡ None → is_called k.life ≡ false
  pub waits : (p n a : ℕ) (k : Task) (place : Place) → s.tasks p n ≡ Some k → k.life ≡ Runs place (stage.Waits a) → IsAskedBy s k.home a p n
  pub waited : (p a : ℕ) (q : Request) → s.requests p a ≡ Some q → (q.answer ≡ Given → ⊥) → IsWaitedBy s p a q
  -- an answer that is kept is the cell's outcome
  pub kept : (p a : ℕ) (q : Request) (o : Outcome) → s.requests p a ≡ Some q → q.answer ≡ Kept o → outcome_of s q.cell ≡ Some o

-- ---- the cluster and the machine

-- The cluster and the state agree. `waiting` are the requests that wait at each process.
pub record Agrees (w : Net) (waiting : ℕ → List Waiting) (s : State) : Type 0 where
  pub workers : (p : ℕ) → (w.nodes p).workers ≡ s.workers
  pub noticed : (p : ℕ) → (w.nodes p).noticed ≡ s.noticed p
  pub called : (p : ℕ) → (w.nodes p).called ≡ s.called p
  pub asked : (p : ℕ) → (w.nodes p).asked ≡ s.asked p
  pub made : (p : ℕ) → (w.nodes p).made ≡ s.made p
  -- the same tasks run, at the same places and with the same answers
  pub tasks : (p m n : ℕ) → is_live s p ≡ true → (w.nodes p).tasks m n ≡ running_at s p (s.tasks m n)
  -- a task that can go on stands once among those that are ready
  pub ready : (p m n : ℕ) → is_live s p ≡ true → count (is_task_of m n) (w.nodes p).ready ≡ one (is_ready (running_at s p (s.tasks m n)))
  -- the owner stores the outcome of each cell
  pub stored : (m n o : ℕ) → is_live s o ≡ true → joined ((w.nodes o).cells m n o) ≡ joined (s.cells m n o)
  -- a task that was called and hasn't started is on its way, once
  pub call : (p q n : ℕ) → is_live s p ≡ true → is_live s q ≡ true → only (is_call n) (way w p q) ≡ call_messages p q n (s.tasks p n)
  -- a request that isn't answered is on its way to the cell's owner or waits there, once
  pub fetch : (p a m n o : ℕ) → is_live s p ≡ true → is_live s o ≡ true →
      count (is_fetch a m n o) (way w p o) + count (is_waiting p a m n o) (waiting o) ≡ one (is_pending m n o (s.requests p a))
  -- no request goes to another than the cell's owner
  pub fetch_owner : (p q a m n o : ℕ) → (q ≡ o → ⊥) → count (is_fetch a m n o) (way w p q) + count (is_waiting p a m n o) (waiting q) ≡ 0
  -- an answer that isn't back is on its way, once
  pub reply : (p q a : ℕ) → is_live s p ≡ true → is_live s q ≡ true → only (is_reply a) (way w q p) ≡ reply_messages q a (s.requests p a)
  pub asks : (p a : ℕ) → is_live s p ≡ true → (w.nodes p).asks a ≡ open_ask s p (s.requests p a)
  -- a request that isn't answered is for a cell that its process hadn't fetched
  pub away : (p a : ℕ) (q : Request) → s.requests p a ≡ Some q → is_asked q.answer ≡ true → q.is_here ≡ false
  -- caches hold outcomes of cells, and all that the machine counts as fetched
  pub cache : (p m n o : ℕ) (v : Outcome) → (w.nodes p).cache m n o ≡ Some v → joined (s.cells m n o) ≡ Some v
  pub fetched : (p : ℕ) → is_live s p ≡ true → All (λ r. is_some ((w.nodes p).cache r.maker r.number r.owner) ≡ true) (s.fetched p)
  -- messages and requests are between processes of the cluster
  pub mail : (p q : ℕ) → (is_known s.workers p && is_known s.workers q) ≡ false → way w p q ≡ []
  pub askers : (q : ℕ) → All (λ v. is_known s.workers v.ask.process ≡ true) (waiting q)
  -- nothing is sent to oneself
  pub own : (p : ℕ) → way w p p ≡ []
  pub running : (p : ℕ) → (w.nodes p).main_end ≡ None

-- A request waits only while its cell isn't set.
abbrev pub IsUnset : State → Waiting → Type 0
IsUnset s w = outcome_of s w.cell ≡ None

-- The cluster refines the state.
pub record Refines (w : Net) (s : State) : Type 0 where
  pub sound : IsSound s
  pub agrees : Agrees w (λ q. (w.nodes q).waiting) s
  pub unset : (q : ℕ) → All (IsUnset s) (w.nodes q).waiting

-- The node of process 1 and a told outside make a cluster that stands for the replay of the record, whose lines are
-- these. Once main has ended nothing more is asked of them.
pub record Stands (program : Program) (start : Start) (hub : Node) (t : Told) (lines : List (List ℕ)) : Type 0 where
  pub state : State
  pub replay : replayed program start t.marks ≡ Some state
  pub printed : state.lines ≡ lines
  pub ended : (o : Outcome) → hub.main_end ≡ Some o → state.ending ≡ Some (ending_of o)
  pub running : hub.main_end ≡ None → state.ending ≡ None
  pub refines : hub.main_end ≡ None → Refines (with_main t.outside.net hub) state

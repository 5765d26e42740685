-- The node of process 1 and the fabric's world together: what holds before each step and what a step leaves.
use Rattle.std.specs.Prelude.{◌≡◌, ◌⊎◌, ℕ, zero, suc, ◌+◌, ◌-◌, ◌*◌, ◌^◌, ◌≤◌, ◌<◌, List, [], ◌∷◌, length, Option, Some, None, Result, Ok, Err, IfErr, IfSome, ⊤}
use Rattle.jd_source.specs.Counts.{Rose}
use Rattle.jd_value.specs.declared.tree.Program.{Program}
use Rattle.jd_task.specs.declared.msg.Msg.{Msg}
use Rattle.jd_model.specs.declared.start.Start.{Start}
use Rattle.jd_model.specs.Outcome.{Outcome}
use Rattle.jd_model.specs.Machine.{State, replayed, ending_of}
use Rattle.jd_model.specs.Node.{Node, main_line, ran}
use Rattle.jd_model.specs.World.{Told}
use Rattle.jd_model.specs.Refines.{Stands}
use Rattle.jd_world.specs.Fabric.{taken_off, max_marks, max_events, IsFull}
use Rattle.jd_session.specs.declared.stop.Step.{Step}
use Rattle.jd_session.specs.declared.stop.Step.TheVariants as step
use Rattle.jd_session.specs.declared.stop.Stop.{Stop}
use Rattle.jd_session.specs.declared.stop.Stop.TheVariants as stop
use Rattle.jd_session.specs.Written.{WroteLines, WroteButLast}

-- A fabric that was begun with so many workers.
abbrev pub IsBegunWith : Option Start → ℕ → Type 0
IsBegunWith None workers = ⊥
IsBegunWith (Some start) workers = start.workers ≡ workers

-- The node and the told outside stand for the replay of the record, whose lines were written.
pub record Joined (program : Program) (start : Start) (hub : Node) (old new : Option (List ℕ)) (t : Told) : Type 0 where
  pub lines : List (List ℕ)
  pub stands : Stands program start hub t lines
  pub wrote : WroteLines old new lines

abbrev pub IsJoined : Program → Start → Node → Option Told → Option (List ℕ) → Option (List ℕ) → Type 0
IsJoined program start hub told old new = IfSome told (Joined program start hub old new)

-- The record can be replayed, and the lines of that state were written.
pub record HasRun (program : Program) (start : Start) (old new : Option (List ℕ)) (t : Told) : Type 0 where
  pub state : State
  pub replay : replayed program start t.marks ≡ Some state
  pub wrote : WroteLines old new state.lines

-- The same, but for the last line.
pub record IsCut (program : Program) (start : Start) (old new : Option (List ℕ)) (t : Told) : Type 0 where
  pub state : State
  pub replay : replayed program start t.marks ≡ Some state
  pub wrote : WroteButLast old new state.lines

-- A limit of the run is reached.
abbrev pub IsLimited : Program → Start → Option (List ℕ) → Option (List ℕ) → Told → Type 0
IsLimited program start old new t = HasRun program start old new t × IsFull t

-- What a stop leaves.
abbrev pub LeavesAtStop : Program → Start → Stop → Option Told → Option (List ℕ) → Option (List ℕ) → Type 0
LeavesAtStop program start stop.Write told old new = IfSome told (IsCut program start old new)
LeavesAtStop program start stop.Limit told old new = IfSome told (IsLimited program start old new)
LeavesAtStop program start _ told old new = IfSome told (HasRun program start old new)

-- What a step leaves.
abbrev pub Leaves : {T : Type 0} → Program → Start → Result T Stop → Node → Option Told → Option (List ℕ) → Option (List ℕ) → Type 0
Leaves program start (Ok r) hub told old new = IsJoined program start hub told old new
Leaves program start (Err s) hub told old new = LeavesAtStop program start s told old new

-- A number of the node stands at the end of its type.
abbrev pub IsSpent : Node → Type 0
IsSpent n = (n.called ≡ 2 ^ 64 - 1) ⊎ (n.made ≡ 2 ^ 64 - 1) ⊎ (n.asked ≡ 2 ^ 64 - 1)

-- The cause of each stop: the count of the sink, the counts of the fabric, or a number of the node.
pub record HasStepCause {T : Type 0} (sink sink' faults faults' limits limits' : ℕ) (hub : Node) (told : Option Told) (result : Result T Stop) : Type 0 where
  pub sink_later : sink ≤ sink'
  pub faults_later : faults ≤ faults'
  pub limits_later : limits ≤ limits'
  pub write : IfErr result (λ e. e ≡ stop.Write → Rose sink sink')
  pub fabric : IfErr result (λ e. e ≡ stop.Fabric → Rose faults faults')
  pub limit : IfErr result (λ e. e ≡ stop.Limit → (Rose limits limits' × IfSome told IsFull) ⊎ IsSpent hub)

-- Process 1 can do nothing without an arrival; its messages to so many workers have left.
pub record IsIdle (hub : Node) (workers : ℕ) : Type 0 where
  pub running : hub.main_end ≡ None
  pub outbox : (q : ℕ) → 2 ≤ q → q ≤ workers + 1 → hub.outbox q ≡ []
  pub ready : ran 1 hub hub.ready ≡ None
  pub line : main_line hub ≡ None

-- A step that says how main ended says what the node has; any other leaves main running.
abbrev pub HasEnded : Step → Node → Type 0
HasEnded (step.Ended ending) hub = (o : Outcome) × (hub.main_end ≡ Some o) × (ending ≡ ending_of o)
HasEnded _ hub = ⊤

-- The outside from whose link the message wasn't taken yet stands for the replay, together with the node.
pub record IsArriving (program : Program) (start : Start) (hub : Node) (old new : Option (List ℕ)) (p : ℕ) (m : Msg) (t : Told) : Type 0 where
  pub before : Told
  pub rest : List Msg
  pub joined : Joined program start hub old new before
  pub front : before.outside.net.links p 1 ≡ m ∷ rest
  pub after : t ≡ taken_off before p rest

-- ---- how much a run can still do

-- How many messages stand in the outboxes to the processes from 2 on, so many of them.
abbrev pub mail : (ℕ → List Msg) → ℕ → ℕ
mail boxes zero = 0
mail boxes (suc k) = length (boxes (k + 2)) + mail boxes k

abbrev pub left_in : Told → ℕ
left_in t = 3 * (max_marks - length t.marks) + (max_events - t.outside.events)

-- It falls with each step and each arrival.
abbrev pub work_left : Node → ℕ → Option Told → ℕ
work_left n workers None = 0
work_left n workers (Some t) = left_in t + mail n.outbox workers

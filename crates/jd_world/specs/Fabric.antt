-- What a fabric's calls do to the world outside and to the record of effects, where it tells them.
use Rattle.std.specs.Prelude.{◌≡◌, ◌⊎◌, ℕ, ◌+◌, ◌≤◌, ◌<◌, List, [], ◌∷◌, ◌++◌, length, Option, Some, None, Result, IfErr, IfOk, IfSome, ⊤}
use Rattle.jd_source.specs.Counts.{Rose}
use Rattle.jd_task.specs.declared.msg.Msg.{Msg}
use Rattle.jd_model.specs.declared.mark.Mark.{Mark}
use Rattle.jd_model.specs.declared.start.Start.{Start}
use Rattle.jd_model.specs.Table.{put2}
use Rattle.jd_model.specs.World.{Outside, Told, Moves, IsQuiet, off_link}
use Rattle.jd_world.specs.declared.fabric.FabricFault.{FabricFault}
use Rattle.jd_world.specs.declared.fabric.FabricFault.TheVariants.{Failed, Limit, OutOfMemory}
use Rattle.jd_world.specs.declared.fabric.Arrival.{Arrival}
use Rattle.jd_world.specs.declared.fabric.Arrival.TheVariants.{Message, Quiet}

-- How many marks a record holds, and how many events a simulated world makes.
abbrev pub max_marks : ℕ
max_marks = 1000000

abbrev pub max_events : ℕ
max_events = 10000000

-- What is told stays told, and is in this relation; what isn't told stays so.
abbrev pub WhereTold : {A : Type 0} → (A → A → Type 0) → Option A → Option A → Type 0
WhereTold R (Some t) (Some u) = R t u
WhereTold R None None = ⊤
WhereTold R (Some t) None = ⊥
WhereTold R None (Some u) = ⊥

-- A worker of the cluster: the workers are numbered from 2.
abbrev pub IsWorkerOf : Start → ℕ → Type 0
IsWorkerOf start p = (2 ≤ p) × (p ≤ start.workers + 1)

abbrev pub IsWorker : Option Start → ℕ → Type 0
IsWorker None p = ⊥
IsWorker (Some start) p = IsWorkerOf start p

-- A message comes from a worker of the cluster.
abbrev pub IsFrom : Option Start → Arrival → Type 0
IsFrom begun (Message p m) = IfSome begun (λ start. IsWorkerOf start p)
IsFrom begun Quiet = ⊤

-- The message stands at the end of the link to q.
abbrev pub sent_to : Told → ℕ → Msg → Told
sent_to t q m =
    record t {
      outside = record t.outside {
        net = record t.outside.net { links = put2 t.outside.net.links 1 q (t.outside.net.links 1 q ++ m ∷ []) };
      };
    }

abbrev pub Sends : ℕ → Msg → Told → Told → Type 0
Sends q m t u = u ≡ sent_to t q m

abbrev pub SameMarks : Told → Told → Type 0
SameMarks t u = u.marks ≡ t.marks

abbrev pub IsMessage : Arrival → Type 0
IsMessage (Message p m) = ⊤
IsMessage Quiet = ⊥

-- The first message is taken off the link from p, which is an event.
abbrev pub taken_off : Told → ℕ → List Msg → Told
taken_off t p rest = record t { outside = record { net = off_link t.outside.net p 1 rest; events = t.outside.events + 1 } }

-- Possible events, and then a message is taken off its link.
pub record Receives (p : ℕ) (m : Msg) (t u : Told) : Type 0 where
  pub mid : Told
  pub rest : List Msg
  pub moves : Moves t mid
  pub front : mid.outside.net.links p 1 ≡ m ∷ rest
  pub room : mid.outside.events < max_events
  pub after : u ≡ taken_off mid p rest

-- Possible events, until none is possible and nothing is on a link to process 1.
pub record GoesQuiet (t u : Told) : Type 0 where
  pub moves : Moves t u
  pub quiet : IsQuiet u

abbrev pub ReceivesA : Arrival → Told → Told → Type 0
ReceivesA (Message p m) t u = Receives p m t u
ReceivesA Quiet t u = GoesQuiet t u

-- After a fault this is said of the record alone: it is that after possible events.
pub record MovesMarks (t u : Told) : Type 0 where
  pub to : Told
  pub moves : Moves t to
  pub marks : u.marks ≡ to.marks

-- The mark stands at the end of the record, which had room.
pub record Tells (m : Mark) (t u : Told) : Type 0 where
  pub room : length t.marks < max_marks
  pub after : u ≡ record t { marks = t.marks ++ m ∷ [] }

-- A limit of the run is reached.
abbrev pub IsFull : Told → Type 0
IsFull t = (max_marks ≤ length t.marks) ⊎ (max_events ≤ t.outside.events)

-- The cause of each fault.
pub record HasCause {T : Type 0} (faults faults' limits limits' : ℕ) (told : Option Told) (result : Result T FabricFault) : Type 0 where
  pub faults_later : faults ≤ faults'
  pub limits_later : limits ≤ limits'
  pub failed : IfErr result (λ e. e ≡ Failed → Rose faults faults')
  pub limit : IfErr result (λ e. e ≡ Limit → Rose limits limits' × IfSome told IsFull)

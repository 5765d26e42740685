-- The world outside process 1, as the code's maps and lists tell it, and what calls do to it.
use Rattle.std.specs.Prelude.{◌≡◌, ◌≢◌, ◌⊎◌, ℕ, ◌+◌, ◌==◌, ◌≤◌, ◌<◌, List, [], ◌∷◌, ◌++◌, true, None, Some, Result, Ok, Err, ⊤, if◌then◌else◌}
use Rattle.jd_task.specs.declared.msg.Msg.{Msg}
use Rattle.jd_model.specs.declared.event.Event.{Event}
use Rattle.jd_model.specs.declared.event.Event.TheVariants.{Emit, Deliver, Run}
use Rattle.jd_model.specs.Table.{put2}
use Rattle.jd_model.specs.World.{Told, Moves, first_net, happens}
use Rattle.jd_model.specs.declared.mark.Mark.{Mark}
use Rattle.jd_node.specs.declared.fault.NodeFault.{NodeFault}
use Rattle.jd_node.specs.declared.fault.NodeFault.TheVariants as node
use Rattle.jd_node.specs.declared.mail.Mail.{Mail}
use Rattle.jd_node.specs.Mail.{mail_of}
use Rattle.jd_node.specs.Steps.{run_passes}
use Rattle.jd_world.specs.declared.fabric.Arrival.{Arrival}
use Rattle.jd_world.specs.declared.fabric.Arrival.TheVariants.{Message, Quiet}
use Rattle.jd_world.specs.declared.outside.Outside.{Outside}
use Rattle.jd_world.specs.declared.workers.Workers.{Workers}
use Rattle.jd_world.specs.declared.step_fault.StepFault.{StepFault}
use Rattle.jd_world.specs.declared.step_fault.StepFault.TheVariants.{NotPossible, Limit, Spent, OutOfMemory}
use Rattle.jd_world.specs.Fabric.{ReceivesA, MovesMarks, SameMarks, IsFull, taken_off}
use Rattle.jd_world.specs.Workers.{nodes_of, links_to}

-- The links by the processes that they come from and go to, of those to process 1 and those to the workers.
unfoldable pub links_of : (ℕ → List Msg) → (ℕ → ℕ → List Msg) → ℕ → ℕ → List Msg
links_of to_main to p q = if q == 1 then to_main p else to q p

abbrev pub told_with : Workers → Mail → ℕ → List Mark → Told
told_with workers to_main events marks =
    record {
      outside = record { net = record { nodes = nodes_of workers; links = links_of (mail_of to_main) (links_to workers) }; events = events };
      marks = marks;
    }

abbrev pub told_of : Outside → Told
told_of o = told_with o.workers o.to_main o.events o.marks.items

-- So many workers, before any event.
abbrev pub told_first : ℕ → Told
told_first count = record { outside = record { net = first_net count; events = 0 }; marks = [] }

-- The message stands at the end of the link between these processes.
abbrev pub linked : Told → ℕ → ℕ → Msg → Told
linked t p q m =
    record t {
      outside = record t.outside {
        net = record t.outside.net { links = put2 t.outside.net.links p q (t.outside.net.links p q ++ m ∷ []) };
      };
    }

-- One event later.
abbrev pub later : Told → Told
later t = record t { outside = record t.outside { events = t.outside.events + 1 } }

-- The event is possible.
abbrev pub CanHappen : Told → Event → Type 0
CanHappen t e = happens t e ≢ None

-- The fault of a world in which a step of a process failed.
abbrev pub broken_by : NodeFault → StepFault
broken_by node.Limit = Spent
broken_by node.OutOfMemory = OutOfMemory

-- The event happened, but that it isn't counted; or it isn't possible, and nothing changed; or it is possible and failed,
-- and the record is as it was. Limits are looked at before.
abbrev pub Tries : {A : Type 0} → Event → Told → Told → Result A StepFault → Type 0
Tries e t u (Ok x) = happens t e ≡ Some (later u)
Tries e t u (Err NotPossible) = (happens t e ≡ None) × (u ≡ t)
Tries e t u (Err Limit) = ⊥
Tries e t u (Err f) = CanHappen t e × SameMarks t u

-- The event happened; or it isn't possible, or a limit is reached, and nothing changed; or it failed, and the record is
-- as it was.
abbrev pub Steps : {A : Type 0} → Event → Told → Told → Result A StepFault → Type 0
Steps e t u (Ok x) = happens t e ≡ Some u
Steps e t u (Err NotPossible) = (happens t e ≡ None) × (u ≡ t)
Steps e t u (Err Limit) = IsFull t × (u ≡ t)
Steps e t u (Err f) = SameMarks t u

-- The event is a step that would have to raise a number of its process above the greatest.
abbrev pub IsSpentBy : Told → Event → Type 0
IsSpentBy t (Run p) = run_passes (t.outside.net.nodes p) ≡ true
IsSpentBy t (Emit p q) = ⊥
IsSpentBy t (Deliver p q) = ⊥

-- The event's message goes to neither process 1 nor one of so many workers, which are numbered from 2.
abbrev pub LeavesCluster : ℕ → Event → Type 0
LeavesCluster count (Emit p q) = (q ≡ 0) ⊎ (count + 1 < q)
LeavesCluster count (Deliver p q) = ⊥
LeavesCluster count (Run p) = ⊥

-- No event of that process is possible, nor of a link to it.
pub record IsStill (t : Told) (p : ℕ) : Type 0 where
  pub emit : (q : ℕ) → happens t (Emit p q) ≡ None
  pub deliver : (q : ℕ) → happens t (Deliver q p) ≡ None
  pub run : happens t (Run p) ≡ None

-- Nothing is on a link to process 1.
abbrev pub IsEmptyToMain : Told → Type 0
IsEmptyToMain t = (p : ℕ) → t.outside.net.links p 1 ≡ []

-- The first message is taken off the link from that process to process 1.
pub record TakesOff (p : ℕ) (m : Msg) (t u : Told) : Type 0 where
  pub rest : List Msg
  pub front : t.outside.net.links p 1 ≡ m ∷ rest
  pub after : u ≡ taken_off t p rest

-- Possible events lead to an arrival, or the call failed, and the record is that after possible events.
abbrev pub Finds : Told → Told → Result Arrival StepFault → Type 0
Finds t u (Ok a) = ReceivesA a t u
Finds t u (Err Limit) = MovesMarks t u × IsFull u
Finds t u (Err f) = MovesMarks t u

-- A message comes from one of so many workers.
abbrev pub IsFromWorker : ℕ → Arrival → Type 0
IsFromWorker count (Message p m) = (2 ≤ p) × (p ≤ count + 1)
IsFromWorker count Quiet = ⊤

-- Possible events lead to a world in which a possible step would have to raise a number above the greatest.
pub record ComesToSpent (t : Told) : Type 0 where
  pub to : Told
  pub moves : Moves t to
  pub event : Event
  pub possible : CanHappen to event
  pub spent : IsSpentBy to event

-- A message can leave for a process that is none of a cluster with so many workers.
pub record CanLeave (count : ℕ) (t : Told) : Type 0 where
  pub event : Event
  pub possible : CanHappen t event
  pub leaves : LeavesCluster count event

-- A message for process 1 waits on a link from none of so many workers.
pub record HearsStranger (count : ℕ) (t : Told) : Type 0 where
  pub from : ℕ
  pub waits : t.outside.net.links from 1 ≢ []
  pub other : (from ≤ 1) ⊎ (count + 1 < from)

-- Possible events lead to a world in which a message can leave for a process that is none of the cluster, or one for
-- process 1 waits on a link from none of the workers.
pub record ComesToStranger (count : ℕ) (t : Told) : Type 0 where
  pub to : Told
  pub moves : Moves t to
  pub stranger : CanLeave count to ⊎ HearsStranger count to

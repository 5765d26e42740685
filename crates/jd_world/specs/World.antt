-- The whole cluster, process 1 included, and what its steps leave.
use Rattle.std.specs.Prelude.{◌≡◌, ◌≢◌, ◌⊎◌, ℕ, ◌+◌, ◌==◌, ◌<◌, [], ◌∷◌, ◌++◌, length, Option, None, Some, false, Result, Ok, Err, if◌then◌else◌, option_map}
use Rattle.jd_value.specs.declared.tree.Program.{Program}
use Rattle.jd_value.specs.declared.value.Value.TheVariants.{Nothing}
use Rattle.jd_model.specs.declared.event.Event.{Event}
use Rattle.jd_model.specs.declared.event.Event.TheVariants.{Emit, Deliver, Run}
use Rattle.jd_model.specs.declared.mark.Effect.TheVariants.{Printed}
use Rattle.jd_model.specs.Node.{Node, main_node, main_line, main_answered}
use Rattle.jd_model.specs.World.{Net, Told, Moved, moves, is_outside, with_main}
use Rattle.jd_node.specs.View.{node_of}
use Rattle.jd_world.specs.declared.world.World.{World}
use Rattle.jd_world.specs.declared.step_fault.StepFault.{StepFault}
use Rattle.jd_world.specs.declared.step_fault.StepFault.TheVariants.{NotPossible, Limit}
use Rattle.jd_world.specs.Fabric.{IsFull, SameMarks, max_events, max_marks}
use Rattle.jd_world.specs.Outside.{told_of, told_first}

-- The told outside with this node as process 1.
abbrev pub joined_with : Told → Node → Told
joined_with t n = record t { outside = record t.outside { net = with_main t.outside.net n } }

-- All processes and links, the number of events of the workers and links, and the record.
abbrev pub whole_of : World → Told
whole_of w = joined_with (told_of w.outside) (node_of w.hub)

abbrev pub net_of : World → Net
net_of w = (whole_of w).outside.net

-- The cluster of a program with so many workers, before any event.
abbrev pub whole_first : Program → ℕ → Told
whole_first program workers = joined_with (told_first workers) (main_node program workers)

-- What an event adds to the number of events: what process 1 sends and runs isn't counted.
abbrev pub counts : Event → ℕ
counts (Emit p q) = if p == 1 then 0 else 1
counts (Deliver p q) = 1
counts (Run p) = if p == 1 then 0 else 1

-- Main's line is printed, and main gets its answer. None where main asks no line.
abbrev pub printed : Net → Option Moved
printed w =
    option_map (λ line. record { net = with_main w (main_answered (w.nodes 1) (Ok Nothing)); marks = record { effect = Printed; by = 1 } ∷ [] })
    (main_line (w.nodes 1))

-- The cluster of the step, so many events later, with the step's marks behind the others.
abbrev pub moved_on : Told → ℕ → Moved → Told
moved_on t n m = record { outside = record { net = m.net; events = t.outside.events + n }; marks = t.marks ++ m.marks }

-- The step is possible, and this is what it leaves.
pub record Leaves (step : Option Moved) (n : ℕ) (t u : Told) : Type 0 where
  pub moved : Moved
  pub possible : step ≡ Some moved
  pub after : u ≡ moved_on t n moved

-- No limit of the run is reached.
pub record HasRoom (t : Told) : Type 0 where
  pub marks : length t.marks < max_marks
  pub events : t.outside.events < max_events

-- The step was made, but that it isn't counted; or it isn't possible, and nothing changed; or it is possible and failed,
-- and the record is as it was. Limits are looked at before.
abbrev pub WorldTries : {A : Type 0} → Option Moved → Told → Told → Result A StepFault → Type 0
WorldTries step t u (Ok x) = Leaves step 0 t u
WorldTries step t u (Err NotPossible) = (step ≡ None) × (u ≡ t)
WorldTries step t u (Err Limit) = ⊥
WorldTries step t u (Err f) = (step ≢ None) × SameMarks t u

-- The step was made, and is so many events; or it isn't possible, or a limit is reached, and nothing changed; or it is
-- possible and failed, and the record is as it was.
abbrev pub WorldSteps : {A : Type 0} → Option Moved → ℕ → Told → Told → Result A StepFault → Type 0
WorldSteps step n t u (Ok x) = HasRoom t × Leaves step n t u
WorldSteps step n t u (Err NotPossible) = HasRoom t × (step ≡ None) × (u ≡ t)
WorldSteps step n t u (Err Limit) = IsFull t × (u ≡ t)
WorldSteps step n t u (Err f) = HasRoom t × (step ≢ None) × SameMarks t u

-- No event of process 1 or of a link to it is possible.
abbrev pub IsMainStuck : Net → Type 0
IsMainStuck w = (e : Event) → is_outside e ≡ false → moves w e ≡ None

-- No event is possible.
abbrev pub IsStuck : Net → Type 0
IsStuck w = (e : Event) → moves w e ≡ None

-- No event is possible, and main asks no line.
abbrev pub IsQuietNet : Net → Type 0
IsQuietNet w = IsStuck w × (main_line (w.nodes 1) ≡ None)

-- An event is possible, or main asks a line.
abbrev pub CanGoOn : Net → Type 0
CanGoOn w = ((e : Event) × (moves w e ≢ None)) ⊎ (main_line (w.nodes 1) ≢ None)

-- The processes with the links between them, and the events of the simulated cluster.
use Rattle.std.specs.Prelude.{◌≡◌, ℕ, ◌+◌, ◌==◌, List, [], ◌∷◌, ◌++◌, Option, Some, None, Bool, true, false, not, ◌&&◌, if◌then◌else◌, map, option_map}
use Rattle.jd_task.specs.declared.msg.Msg.{Msg}
use Rattle.jd_model.specs.declared.mark.Mark.{Mark}
use Rattle.jd_model.specs.declared.mark.Effect.{Effect}
use Rattle.jd_model.specs.declared.event.Event.{Event}
use Rattle.jd_model.specs.declared.event.Event.TheVariants.{Emit, Deliver, Run}
use Rattle.jd_model.specs.declared.start.Start.{Start}
use Rattle.jd_model.specs.Table.{put, put2}
use Rattle.jd_model.specs.Node.{Node, Stepped, first_node, delivered, ran}

-- The processes by their numbers, and the messages on the link from the first process to the second, the oldest first.
pub record Net : Type 0 where
  pub nodes : ℕ → Node
  pub links : ℕ → ℕ → List Msg

-- What an event leaves, with its marks.
pub record Moved : Type 0 where
  pub net : Net
  pub marks : List Mark

abbrev pub marked : ℕ → Effect → Mark
marked p e = record { effect = e; by = p }

abbrev pub with_node : Net → ℕ → Node → Net
with_node w p n = record w { nodes = put w.nodes p n }

-- A step of process p.
abbrev pub stepped : Net → ℕ → Stepped → Moved
stepped w p s = record { net = with_node w p s.node; marks = map (marked p) s.effects }

abbrev pub emitted : Net → ℕ → ℕ → List Msg → Option Moved
emitted w p q [] = None
emitted w p q (m ∷ rest) =
    Some (record {
      net = record {
        nodes = put w.nodes p (record (w.nodes p) { outbox = put (w.nodes p).outbox q rest });
        links = put2 w.links p q (w.links p q ++ m ∷ []);
      };
      marks = [];
    })

-- The links without the first message from p to q.
abbrev pub off_link : Net → ℕ → ℕ → List Msg → Net
off_link w p q rest = record w { links = put2 w.links p q rest }

abbrev pub arrived : Net → ℕ → ℕ → List Msg → Option Moved
arrived w p q [] = None
arrived w p q (m ∷ rest) = Some (stepped (off_link w p q rest) q (delivered p m (w.nodes q)))

abbrev pub moved_by : Net → ℕ → Option Stepped → Option Moved
moved_by w p s = option_map (stepped w p) s

-- The oldest message of p to q leaves; the first message on the link from p to q arrives; the oldest task of p that can go on goes on.
-- None where there is none.
unfoldable pub moves : Net → Event → Option Moved
moves w (Emit p q) = emitted w p q ((w.nodes p).outbox q)
moves w (Deliver p q) = arrived w p q (w.links p q)
moves w (Run p) = moved_by w p (ran p (w.nodes p) (w.nodes p).ready)

-- ---- the outside

-- The workers with the links, as process 1 finds them: all nodes but its own, and the number of events so far.
pub record Outside : Type 0 where
  pub net : Net
  pub events : ℕ

-- The outside and the record of effects.
pub record Told : Type 0 where
  pub outside : Outside
  pub marks : List Mark

abbrev pub first_net : ℕ → Net
first_net workers = record { nodes = λ p. first_node workers; links = λ p q. [] }

abbrev pub first_told : Start → Told
first_told start = record { outside = record { net = first_net start.workers; events = 0 }; marks = [] }

-- An event of a worker: process 1 makes its own.
abbrev pub is_outside : Event → Bool
is_outside (Emit p q) = not (p == 1)
is_outside (Deliver p q) = not (q == 1)
is_outside (Run p) = not (p == 1)

abbrev pub added : Told → Option Moved → Option Told
added t None = None
added t (Some m) = Some (record { outside = record { net = m.net; events = t.outside.events + 1 }; marks = t.marks ++ m.marks })

-- An event of a worker or a link, where it is possible.
unfoldable pub happens : Told → Event → Option Told
happens t e = if is_outside e then added t (moves t.outside.net e) else None

-- These events lead from t to u, each possible in its turn.
abbrev pub Leads : List Event → Told → Told → Type 0
Leads [] t u = u ≡ t
Leads (e ∷ es) t u = (m : Told) × (happens t e ≡ Some m) × Leads es m u

pub record Moves (t u : Told) : Type 0 where
  pub events : List Event
  pub leads : Leads events t u

-- No event of a worker or a link is possible, and nothing is on a link to process 1.
pub record IsQuiet (t : Told) : Type 0 where
  pub events : (e : Event) → happens t e ≡ None
  pub links : (p : ℕ) → t.outside.net.links p 1 ≡ []

-- ---- with process 1

-- The processes with this node as process 1.
abbrev pub with_main : Net → Node → Net
with_main w n = with_node w 1 n

-- What a cluster and the reference machine of its record have in common, whatever happens.
use Rattle.std.specs.Prelude.{◌≡◌, ℕ, ◌+◌, ◌*◌, ◌≤◌, ◌⊎◌, List, [], ◌∷◌, ◌++◌, length, Some, None, Bool, true, false, map, option_map, Ok}
use Rattle.jd_value.specs.declared.tree.Program.{Program}
use Rattle.jd_value.specs.declared.value.Value.{Value}
use Rattle.jd_value.specs.declared.value.Value.TheVariants.{Nothing}
use Rattle.jd_task.specs.declared.msg.Msg.{Msg}
use Rattle.jd_model.specs.declared.event.Event.{Event}
use Rattle.jd_model.specs.declared.mark.Effect.{Effect}
use Rattle.jd_model.specs.declared.mark.Effect.TheVariants.{Printed}
use Rattle.jd_model.specs.declared.mark.Mark.{Mark}
use Rattle.jd_model.specs.declared.start.Start.{Start}
use Rattle.jd_model.specs.Table.{put, put2, count}
use Rattle.jd_model.specs.Asking.{is_known}
use Rattle.jd_model.specs.Machine.{State, legal, does, replayed, line, ending_of, IsStopped}
use Rattle.jd_model.specs.Node.{Node, Stepped, main_node, delivered, ran, main_line, main_answered}
use Rattle.jd_model.specs.World.{Told, Moves, IsQuiet, first_told, happens, marked}
use Rattle.jd_model.specs.Refines.{IsSound, Stands}

-- ---- what process 1 does to the outside

-- These messages are on the link from p to q.
abbrev pub with_link : Told → ℕ → ℕ → List Msg → Told
with_link t p q ms = record t { outside = record t.outside { net = record t.outside.net { links = put2 t.outside.net.links p q ms } } }

-- This message of process 1 to q stands at the end of its link.
abbrev pub sent : Told → ℕ → Msg → Told
sent t q m = with_link t 1 q (t.outside.net.links 1 q ++ m ∷ [])

-- Of the link from q to process 1 this is left.
abbrev pub received : Told → ℕ → List Msg → Told
received t q rest = with_link t q 1 rest

-- These effects of process 1 are recorded.
abbrev pub recorded : Told → List Effect → Told
recorded t effects = record t { marks = t.marks ++ map (marked 1) effects }

-- ---- the laws

-- A cluster that has just started stands for the machine's first state.
abbrev pub FirstStands : Type 0
FirstStands = (program : Program) (start : Start) → Stands program start (main_node program start.workers) (first_told start) []

-- Every legal mark keeps the machine's state sound.
abbrev pub MarksKeepSoundness : Type 0
MarksKeepSoundness = (s : State) (m : Mark) → IsSound s → legal s m ≡ true → IsSound (does s m.effect)

-- So every state that the machine comes to is sound.
abbrev pub ReplaysAreSound : Type 0
ReplaysAreSound = (program : Program) (start : Start) (marks : List Mark) (s : State) → replayed program start marks ≡ Some s → IsSound s

-- Every possible event of a worker or a link keeps what the cluster stands for.
abbrev pub HappensKeeps : Type 0
HappensKeeps = (program : Program) (start : Start) (hub : Node) (t u : Told) (e : Event) (lines : List (List ℕ)) →
    Stands program start hub t lines → hub.main_end ≡ None → happens t e ≡ Some u → Stands program start hub u lines

-- So do any number of them.
abbrev pub MovesKeep : Type 0
MovesKeep = (program : Program) (start : Start) (hub : Node) (t u : Told) (lines : List (List ℕ)) →
    Stands program start hub t lines → hub.main_end ≡ None → Moves t u → Stands program start hub u lines

-- What is said of a told outside speaks of its processes, links and marks alone.
abbrev pub StandsIsOfNetAndMarks : Type 0
StandsIsOfNetAndMarks = (program : Program) (start : Start) (hub : Node) (t u : Told) (lines : List (List ℕ)) →
    Stands program start hub t lines → u.outside.net ≡ t.outside.net → u.marks ≡ t.marks → Stands program start hub u lines

-- The oldest message of process 1 to q leaves.
abbrev pub EmitStands : Type 0
EmitStands = (program : Program) (start : Start) (hub : Node) (t : Told) (lines : List (List ℕ)) (q : ℕ) (m : Msg) (rest : List Msg) →
    Stands program start hub t lines → hub.outbox q ≡ m ∷ rest →
    Stands program start (record hub { outbox = put hub.outbox q rest }) (sent t q m) lines

-- The oldest task of process 1 that can go on goes on. Where that ends main, the machine's ending is main's.
abbrev pub RunStands : Type 0
RunStands = (program : Program) (start : Start) (hub : Node) (t : Told) (lines : List (List ℕ)) (step : Stepped) →
    Stands program start hub t lines → hub.main_end ≡ None → ran 1 hub hub.ready ≡ Some step →
    Stands program start step.node (recorded t step.effects) lines

-- The first message on the link from q to process 1 arrives.
abbrev pub ArriveStands : Type 0
ArriveStands = (program : Program) (start : Start) (hub : Node) (t : Told) (lines : List (List ℕ)) (q : ℕ) (m : Msg) (rest : List Msg) →
    Stands program start hub t lines → hub.main_end ≡ None → t.outside.net.links q 1 ≡ m ∷ rest →
    Stands program start (delivered q m hub).node (recorded (received t q rest) (delivered q m hub).effects) lines

-- Main's line is printed.
abbrev pub PrintStands : Type 0
PrintStands = (program : Program) (start : Start) (hub : Node) (t : Told) (lines : List (List ℕ)) (values : List Value) →
    Stands program start hub t lines → hub.main_end ≡ None → main_line hub ≡ Some values →
    Stands program start (main_answered hub (Ok Nothing)) (recorded t (Printed ∷ [])) (lines ++ line values ∷ [])

-- A mark that prints a line.
abbrev pub is_line : Effect → Bool
is_line Printed = true
is_line _ = false

abbrev pub prints : Mark → Bool
prints m = is_line m.effect

-- These marks can be replayed, to a state whose lines are those of s without the last ones.
pub record ReplaysBefore (program : Program) (start : Start) (marks : List Mark) (s : State) (last : ℕ) : Type 0 where
  pub state : State
  pub replay : replayed program start marks ≡ Some state
  pub later : List (List ℕ)
  pub lines : s.lines ≡ state.lines ++ later
  pub count : length later ≡ last

-- Every beginning of a record can be replayed, and lacks the lines that the rest prints.
abbrev pub PrefixReplays : Type 0
PrefixReplays = (program : Program) (start : Start) (marks rest : List Mark) (s : State) →
    replayed program start (marks ++ rest) ≡ Some s → ReplaysBefore program start marks s (count prints rest)

-- The record with these effects of process 1 behind it can be replayed, and the lines are these then.
abbrev pub ReplaysPart : Program → Start → Told → List (List ℕ) → List Effect → Type 0
ReplaysPart program start t lines effects = (s : State) × (replayed program start (t.marks ++ map (marked 1) effects) ≡ Some s) × (s.lines ≡ lines)

-- The first effects of a step of process 1 can be recorded without the others, and print nothing.
abbrev pub PartOfRun : Type 0
PartOfRun = (program : Program) (start : Start) (hub : Node) (t : Told) (lines : List (List ℕ)) (step : Stepped) (effects rest : List Effect) →
    Stands program start hub t lines → hub.main_end ≡ None → ran 1 hub hub.ready ≡ Some step → step.effects ≡ effects ++ rest →
    ReplaysPart program start t lines effects

-- So can those of an arrival.
abbrev pub PartOfArrival : Type 0
PartOfArrival = (program : Program) (start : Start) (hub : Node) (t : Told) (lines : List (List ℕ)) (q : ℕ) (m : Msg) (left : List Msg) (effects rest : List Effect) →
    Stands program start hub t lines → hub.main_end ≡ None → t.outside.net.links q 1 ≡ m ∷ left → (delivered q m hub).effects ≡ effects ++ rest →
    ReplaysPart program start t lines effects

-- ---- numbers

-- The machine has the workers of its start.
abbrev pub WorkersStay : Type 0
WorkersStay = (program : Program) (start : Start) (marks : List Mark) (s : State) → replayed program start marks ≡ Some s → s.workers ≡ start.workers

-- The tasks that a process called and the cells that it made are together at most two for each mark, the requests that it
-- asked at most one.
abbrev pub CountsWithin : Type 0
CountsWithin = (program : Program) (start : Start) (marks : List Mark) (s : State) → replayed program start marks ≡ Some s →
    (p : ℕ) → (s.called p + s.made p ≤ 2 * length marks) × (s.asked p ≤ length marks)

-- So are those that process 1 counts.
abbrev pub HubCountsWithin : Type 0
HubCountsWithin = (program : Program) (start : Start) (hub : Node) (t : Told) (lines : List (List ℕ)) → Stands program start hub t lines → hub.main_end ≡ None →
    (hub.called + hub.made ≤ 2 * length t.marks) × (hub.asked ≤ length t.marks)

-- ---- what process 1 sees

-- Its messages are to workers of the cluster.
abbrev pub MailIsForWorkers : Type 0
MailIsForWorkers = (program : Program) (start : Start) (hub : Node) (t : Told) (lines : List (List ℕ)) (q : ℕ) → Stands program start hub t lines → hub.main_end ≡ None →
    (is_known start.workers q ≡ false) ⊎ (q ≡ 1) → hub.outbox q ≡ []

-- Where it can't go on, no task of it is ready.
abbrev pub ReadyRuns : Type 0
ReadyRuns = (program : Program) (start : Start) (hub : Node) (t : Told) (lines : List (List ℕ)) → Stands program start hub t lines → hub.main_end ≡ None →
    ran 1 hub hub.ready ≡ None → hub.ready ≡ []

-- ---- the end

-- Process 1 can do nothing without an arrival.
pub record IsWaitingHub (hub : Node) : Type 0 where
  pub running : hub.main_end ≡ None
  pub outbox : (q : ℕ) → hub.outbox q ≡ []
  pub ready : hub.ready ≡ []
  pub line : main_line hub ≡ None

-- Where no event is possible and process 1 waits, no mark is legal.
abbrev pub QuietIsStopped : Type 0
QuietIsStopped = (program : Program) (start : Start) (hub : Node) (t : Told) (lines : List (List ℕ)) (stands : Stands program start hub t lines) →
    IsQuiet t → IsWaitingHub hub → IsStopped stands.state

-- The machine's ending is that of main, and it has one only where main has ended.
abbrev pub EndedIsEnding : Type 0
EndedIsEnding = (program : Program) (start : Start) (hub : Node) (t : Told) (lines : List (List ℕ)) (stands : Stands program start hub t lines) →
    stands.state.ending ≡ option_map ending_of hub.main_end

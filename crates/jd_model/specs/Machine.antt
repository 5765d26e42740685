-- The reference machine: one thread and no messages. It takes the recorded effects of a run in their order.
use Rattle.std.specs.Prelude.{◌≡◌, ℕ, ◌+◌, ◌==◌, nat_le, List, [], ◌∷◌, ◌++◌, Option, Some, None, Bool, true, false, not, ◌&&◌, ◌||◌, if◌then◌else◌, is_some, is_none, Result, Ok, Err, filter, option_map}
use Rattle.std.specs.List.{list_any}
use Rattle.jd_value.specs.declared.reference.RefId.{RefId}
use Rattle.jd_value.specs.declared.reference.Ask.{Ask}
use Rattle.jd_value.specs.declared.fault.Fault.{Fault}
use Rattle.jd_value.specs.declared.fault.Fault.TheVariants.{Exited, Remote}
use Rattle.jd_value.specs.declared.value.Value.{Value}
use Rattle.jd_value.specs.declared.value.Value.TheVariants.{Nothing, Future}
use Rattle.jd_value.specs.declared.tree.Program.{Program}
use Rattle.jd_value.specs.References.{references}
use Rattle.jd_value.specs.Shown.{shown}
use Rattle.jd_expr.specs.declared.variable.Variable.{Variable}
use Rattle.jd_task.specs.declared.job.TaskId.{TaskId}
use Rattle.jd_task.specs.declared.closure.Closure.{Closure}
use Rattle.jd_task.specs.declared.place.Place.{Place}
use Rattle.jd_task.specs.declared.job.Turn.{Turn}
use Rattle.jd_task.specs.declared.job.Turn.TheVariants.{Asks, Ended}
use Rattle.jd_task.specs.Running.{advance}
use Rattle.jd_task.specs.Places.{called_place, main_place}
use Rattle.jd_model.specs.Outcome.{Outcome}
use Rattle.jd_model.specs.declared.asking.Asking.{Asking}
use Rattle.jd_model.specs.declared.asking.Asking.TheVariants as asking
use Rattle.jd_model.specs.declared.life.Stage.{Stage}
use Rattle.jd_model.specs.declared.life.Stage.TheVariants as stage
use Rattle.jd_model.specs.declared.life.Life.{Life}
use Rattle.jd_model.specs.declared.life.Life.TheVariants.{Called, Running, Over}
use Rattle.jd_model.specs.declared.life.Answer.{Answer}
use Rattle.jd_model.specs.declared.life.Answer.TheVariants.{Asked, Kept, Given}
use Rattle.jd_model.specs.declared.mark.Mark.{Mark}
use Rattle.jd_model.specs.declared.mark.Effect.{Effect}
use Rattle.jd_model.specs.declared.mark.Effect.TheVariants.{Ran, Started, Took, Returned, Local, Printed}
use Rattle.jd_model.specs.declared.ending.Ending.{Ending}
use Rattle.jd_model.specs.declared.ending.Ending.TheVariants as ending
use Rattle.jd_model.specs.declared.start.Start.{Start}
use Rattle.jd_model.specs.declared.start.Loss.{Loss}
use Rattle.jd_model.specs.Table.{put, put2, put3}
use Rattle.jd_model.specs.Asking.{asking}

-- A task that was called.
pub record Task : Type 0 where
  -- the process that it runs on
  pub home : ℕ
  -- the cell that its end sets; main has none
  pub cell : Option RefId
  pub life : Life

-- A task's request for the outcome of a cell.
pub record Request : Type 0 where
  pub task : TaskId
  pub cell : RefId
  -- the task's process had fetched that outcome before
  pub is_here : Bool
  -- whether it was answered, and whether that answer is back at the task
  pub answer : Answer

pub record State : Type 0 where
  pub workers : ℕ
  -- by the process that called them and their numbers there
  pub tasks : ℕ → ℕ → Option Task
  -- by the process that asked them and their numbers there
  pub requests : ℕ → ℕ → Option Request
  -- by maker, number and owner: the outcome of each cell that was made, once it is set
  pub cells : ℕ → ℕ → ℕ → Option (Option Outcome)
  -- how many tasks each process called, requests it asked, and cells it made
  pub called : ℕ → ℕ
  pub asked : ℕ → ℕ
  pub made : ℕ → ℕ
  -- the tasks that have started and haven't ended, in the order of their starts
  pub running : List TaskId
  -- the futures that tasks of each process have fetched and that still occur in a variable of a running task there
  pub fetched : ℕ → List RefId
  pub may_lose : ℕ → Bool
  pub lost : ℕ → Bool
  -- whether the first process has noticed the loss of the second
  pub noticed : ℕ → ℕ → Bool
  pub lines : List (List ℕ)
  pub ending : Option Ending

-- ---- the beginning

abbrev pub main_id : TaskId
main_id = record { process = 1; number = 0 }

abbrev pub is_main : TaskId → Bool
is_main t = t.process == 1 && t.number == 0

abbrev pub is_listed : List Loss → ℕ → Bool
is_listed losses w = list_any (λ l. l.worker == w) losses

-- Main is the one task, and it has started.
abbrev pub first : Program → Start → State
first program start =
    record {
      workers = start.workers;
      tasks = put2 (λ p n. None) 1 0 (Some (record { home = 1; cell = None; life = Running (main_place program) (stage.Ready (Ok Nothing)) }));
      requests = λ p a. None;
      cells = λ m n o. None;
      called = λ p. 0;
      asked = λ p. 0;
      made = λ p. 0;
      running = main_id ∷ [];
      fetched = λ p. [];
      may_lose = is_listed start.losses;
      lost = λ w. false;
      noticed = λ p w. false;
      lines = [];
      ending = None;
    }

-- ---- what the state says

abbrev pub is_live : State → ℕ → Bool
is_live s p = not (s.lost p)

abbrev pub joined : {A : Type 0} → Option (Option A) → Option A
joined None = None
joined (Some x) = x

-- The outcome of a cell, where it is set.
abbrev pub outcome_of : State → RefId → Option Outcome
outcome_of s r = joined (s.cells r.maker r.number r.owner)

abbrev pub is_same : RefId → RefId → Bool
is_same r x = x.maker == r.maker && (x.number == r.number && x.owner == r.owner)

abbrev pub has : List RefId → RefId → Bool
has rs r = list_any (is_same r) rs

-- A request waits for a process whose loss its own process has noticed.
abbrev pub is_cut_off : State → ℕ → Request → Bool
is_cut_off s p q = s.noticed p q.cell.owner && not q.is_here

abbrev pub exited_by : Bool → ℕ → Answer → Option Outcome
exited_by lost w Given = None
exited_by lost w _ = if lost then Some (Err (Exited w)) else None

abbrev pub exited : State → ℕ → Option Request → Option Outcome
exited s p None = None
exited s p (Some q) = exited_by (is_cut_off s p q) q.cell.owner q.answer

-- The answer with which a task of p goes on at this stage: the one that it was given, or else ProcessExitedException.
abbrev pub answer_at : State → ℕ → Stage → Option Outcome
answer_at s p (stage.Ready o) = Some o
answer_at s p (stage.Waits a) = exited s p (s.requests p a)
answer_at s p (stage.Prints vs) = None

-- ---- where an effect is legal

abbrev pub goes_on : State → ℕ → Life → Bool
goes_on s p (Running place st) = is_some (answer_at s p st)
goes_on s p _ = false

abbrev pub may_run : State → ℕ → Option Task → Bool
may_run s by None = false
may_run s by (Some k) = by == k.home && (is_live s k.home && goes_on s k.home k.life)

abbrev pub is_called : Life → Bool
is_called (Called code args) = true
is_called _ = false

abbrev pub may_start : State → ℕ → ℕ → Option Task → Bool
may_start s by caller None = false
may_start s by caller (Some k) = by == k.home && (is_live s k.home && (not (s.noticed k.home caller) && is_called k.life))

abbrev pub is_asked : Answer → Bool
is_asked Asked = true
is_asked _ = false

abbrev pub may_take : State → ℕ → ℕ → Option Request → Bool
may_take s by p None = false
may_take s by p (Some q) =
    by == q.cell.owner && (is_live s by && (not (s.noticed by p) && (is_asked q.answer && (not q.is_here && is_some (outcome_of s q.cell)))))

-- The request that a task waits for.
abbrev pub request_of : State → ℕ → Life → Option Request
request_of s p (Running place (stage.Waits a)) = s.requests p a
request_of s p _ = None

abbrev pub is_kept : Answer → Bool
is_kept (Kept o) = true
is_kept _ = false

abbrev pub has_come : State → ℕ → Option Request → Bool
has_come s p None = false
has_come s p (Some q) = is_kept q.answer && not (s.noticed p q.cell.owner)

abbrev pub may_return : State → ℕ → Option Task → Bool
may_return s by None = false
may_return s by (Some k) = by == k.home && (is_live s k.home && has_come s k.home (request_of s k.home k.life))

abbrev pub is_set : State → Option Request → Bool
is_set s None = false
is_set s (Some q) = is_asked q.answer && is_some (outcome_of s q.cell)

abbrev pub may_look : State → ℕ → Option Task → Bool
may_look s by None = false
may_look s by (Some k) = by == k.home && (is_live s k.home && is_set s (request_of s k.home k.life))

abbrev pub line_of_life : Life → Option (List Value)
line_of_life (Running place (stage.Prints vs)) = Some vs
line_of_life _ = None

-- What main wants to print.
abbrev pub line_of_task : Option Task → Option (List Value)
line_of_task None = None
line_of_task (Some k) = line_of_life k.life

-- Where this effect may be process by's next one.
abbrev pub legal_at : State → Effect → ℕ → Bool
legal_at s (Ran t) by = may_run s by (s.tasks t.process t.number)
legal_at s (Started t) by = may_start s by t.process (s.tasks t.process t.number)
legal_at s (Took a) by = may_take s by a.process (s.requests a.process a.number)
legal_at s (Returned t) by = may_return s by (s.tasks t.process t.number)
legal_at s (Local t) by = may_look s by (s.tasks t.process t.number)
legal_at s Printed by = by == 1 && is_some (line_of_task (s.tasks 1 0))

abbrev pub legal : State → Mark → Bool
legal s m = is_none s.ending && legal_at s m.effect m.by

-- ---- what an effect does

abbrev pub with_task : State → TaskId → Task → State
with_task s t k = record s { tasks = put2 s.tasks t.process t.number (Some k) }

abbrev pub with_life : State → TaskId → Task → Life → State
with_life s t k life = with_task s t (record k { life = life })

-- A fault of a task reaches others as RemoteException of its process.
abbrev pub passed_on : ℕ → Outcome → Outcome
passed_on p (Ok v) = Ok v
passed_on p (Err f) = Err (Remote p f)

abbrev pub first_of : Option Outcome → Outcome → Outcome
first_of (Some o) new = o
first_of None new = new

-- A cell is written once.
abbrev pub settled : Option (Option Outcome) → Outcome → Option (Option Outcome)
settled c o = Some (Some (first_of (joined c) o))

abbrev pub set_cell : State → RefId → Outcome → State
set_cell s r o = record s { cells = put3 s.cells r.maker r.number r.owner (settled (s.cells r.maker r.number r.owner) o) }

abbrev pub ending_of : Outcome → Ending
ending_of (Ok v) = ending.Normal
ending_of (Err f) = ending.Fault f

abbrev pub is_task : TaskId → TaskId → Bool
is_task t u = u.process == t.process && u.number == t.number

-- Main's end ends the run; another task's sets its cell.
abbrev pub set_by_end : State → ℕ → Option RefId → Outcome → State
set_by_end s p None o = record s { ending = Some (ending_of o) }
set_by_end s p (Some r) o = set_cell s r (passed_on p o)

abbrev pub over : State → TaskId → Task → Outcome → State
over s t k o = set_by_end (record (with_life s t k Over) { running = filter (λ u. not (is_task t u)) s.running }) k.home k.cell o

-- A task asks for a cell's outcome, with its process's next number.
abbrev pub asks_for : State → TaskId → Task → Place → RefId → ℕ → State
asks_for s t k place r a =
    record (with_life s t k (Running place (stage.Waits a))) {
      requests = put2 s.requests k.home a (Some (record { task = t; cell = r; is_here = has (s.fetched k.home) r; answer = Asked }));
      asked = put s.asked k.home a;
    }

-- A task calls another, which is to set a new cell on that process, and has the future of that cell at once.
abbrev pub calls : State → TaskId → Task → Place → RefId → TaskId → Closure → List Value → State
calls s t k place r u code args =
    record (with_task (with_life s t k (Running place (stage.Ready (Ok (Future r))))) u (record { home = r.owner; cell = Some r; life = Called code args })) {
      cells = put3 s.cells r.maker r.number r.owner (Some None);
      made = put s.made k.home r.number;
      called = put s.called k.home u.number;
    }

abbrev pub wants : State → TaskId → Task → Place → Asking → State
wants s t k place (asking.Answers o) = with_life s t k (Running place (stage.Ready o))
wants s t k place (asking.Prints vs) = with_life s t k (Running place (stage.Prints vs))
wants s t k place (asking.Fetches r) = asks_for s t k place r (s.asked k.home + 1)
wants s t k place (asking.Calls p code args) =
    calls s t k place (record { maker = k.home; number = s.made k.home + 1; owner = p }) (record { process = k.home; number = s.called k.home + 1 }) code args

abbrev pub turned : State → TaskId → Task → Place → Turn → State
turned s t k place (Ended o) = over s t k o
turned s t k place (Asks op) = wants s t k place (asking s.workers (s.noticed k.home) (is_main t) op)

-- A value mentions what stands anywhere in it.
abbrev pub mentions : Value → RefId → Bool
mentions v r = list_any (is_same r) (references v)

abbrev pub in_variables : List Variable → RefId → Bool
in_variables vars r = list_any (λ v. mentions v.value r) vars

abbrev pub in_life : Life → RefId → Bool
in_life (Running place st) r = in_variables place.variables r
in_life _ r = false

abbrev pub in_task : ℕ → Option Task → RefId → Bool
in_task p None r = false
in_task p (Some k) r = k.home == p && in_life k.life r

-- A reference occurs in a variable of a running task of p.
abbrev pub occurs : State → ℕ → RefId → Bool
occurs s p r = list_any (λ t. in_task p (s.tasks t.process t.number) r) s.running

-- Of what p has fetched, what still occurs in a variable there.
abbrev pub refreshed : State → ℕ → State
refreshed s p = record s { fetched = put s.fetched p (filter (occurs s p) (s.fetched p)) }

abbrev pub given : Option Request → Option Request
given None = None
given (Some q) = Some (record q { answer = Given })

-- The request of a task that goes on has its answer.
abbrev pub answered : State → ℕ → Stage → State
answered s p (stage.Waits a) = record s { requests = put2 s.requests p a (given (s.requests p a)) }
answered s p _ = s

abbrev pub ran_with : State → TaskId → Task → Place → Stage → Option Outcome → State
ran_with s t k place st None = s
ran_with s t k place st (Some o) = let turn = advance place o in refreshed (turned (answered s k.home st) t k turn.0 turn.1) k.home

abbrev pub ran_at : State → TaskId → Task → Life → State
ran_at s t k (Running place st) = ran_with s t k place st (answer_at s k.home st)
ran_at s t k _ = s

abbrev pub ran : State → TaskId → Option Task → State
ran s t None = s
ran s t (Some k) = ran_at s t k k.life

abbrev pub started_at : State → TaskId → Task → Life → State
started_at s t k (Called code args) = record (with_life s t k (Running (called_place code args) (stage.Ready (Ok Nothing)))) { running = s.running ++ t ∷ [] }
started_at s t k _ = s

abbrev pub started : State → TaskId → Option Task → State
started s t None = s
started s t (Some k) = started_at s t k k.life

abbrev pub kept : Option Outcome → Answer
kept None = Asked
kept (Some o) = Kept o

-- The owner answers a request, and keeps the answer until it is back.
abbrev pub taken : State → ℕ → ℕ → Option Request → State
taken s p a None = s
taken s p a (Some q) = record s { requests = put2 s.requests p a (Some (record q { answer = kept (outcome_of s q.cell) })) }

abbrev pub add_once : List RefId → RefId → List RefId
add_once rs r = if has rs r then rs else rs ++ r ∷ []

-- A task has its request's answer, and its process has fetched that outcome.
abbrev pub gives : State → TaskId → Task → Place → ℕ → Request → Option Outcome → State
gives s t k place a q None = s
gives s t k place a q (Some o) =
    refreshed (record (with_life s t k (Running place (stage.Ready o))) {
      requests = put2 s.requests k.home a (Some (record q { answer = Given }));
      fetched = put s.fetched k.home (add_once (s.fetched k.home) q.cell);
    }) k.home

abbrev pub kept_answer : Answer → Option Outcome
kept_answer (Kept o) = Some o
kept_answer _ = None

abbrev pub returned_to : State → TaskId → Task → Place → ℕ → Option Request → State
returned_to s t k place a None = s
returned_to s t k place a (Some q) = gives s t k place a q (kept_answer q.answer)

abbrev pub returned_at : State → TaskId → Task → Life → State
returned_at s t k (Running place (stage.Waits a)) = returned_to s t k place a (s.requests k.home a)
returned_at s t k _ = s

abbrev pub returned : State → TaskId → Option Task → State
returned s t None = s
returned s t (Some k) = returned_at s t k k.life

abbrev pub looked_to : State → TaskId → Task → Place → ℕ → Option Request → State
looked_to s t k place a None = s
looked_to s t k place a (Some q) = gives s t k place a q (outcome_of s q.cell)

abbrev pub looked_at : State → TaskId → Task → Life → State
looked_at s t k (Running place (stage.Waits a)) = looked_to s t k place a (s.requests k.home a)
looked_at s t k _ = s

abbrev pub looked : State → TaskId → Option Task → State
looked s t None = s
looked s t (Some k) = looked_at s t k k.life

-- A line is the printed forms of its values, with nothing between them.
abbrev pub line : List Value → List ℕ
line [] = []
line (v ∷ vs) = shown v ++ line vs

abbrev pub printed_at : State → Task → Life → State
printed_at s k (Running place (stage.Prints vs)) = record (with_life s main_id k (Running place (stage.Ready (Ok Nothing)))) { lines = s.lines ++ line vs ∷ [] }
printed_at s k _ = s

abbrev pub printed : State → Option Task → State
printed s None = s
printed s (Some k) = printed_at s k k.life

abbrev pub does : State → Effect → State
does s (Ran t) = ran s t (s.tasks t.process t.number)
does s (Started t) = started s t (s.tasks t.process t.number)
does s (Took a) = taken s a.process a.number (s.requests a.process a.number)
does s (Returned t) = returned s t (s.tasks t.process t.number)
does s (Local t) = looked s t (s.tasks t.process t.number)
does s Printed = printed s (s.tasks 1 0)

-- ---- runs

abbrev pub takes : Option State → Mark → Option State
takes None m = None
takes (Some s) m = if legal s m then Some (does s m.effect) else None

abbrev pub after : Option State → List Mark → Option State
after s [] = s
after s (m ∷ ms) = after (takes s m) ms

-- The machine after these marks, where each is legal in its turn.
abbrev pub replayed : Program → Start → List Mark → Option State
replayed program start marks = after (Some (first program start)) marks

-- No mark is legal.
abbrev pub IsStopped : State → Type 0
IsStopped s = (m : Mark) → legal s m ≡ false

-- The text of lines: each is followed by a line feed.
abbrev pub text_of_lines : List (List ℕ) → List ℕ
text_of_lines [] = []
text_of_lines (l ∷ ls) = l ++ 10 ∷ text_of_lines ls

-- A process of the cluster, and its steps. What a process sends to itself is done in the same step, without a message.
use Rattle.std.specs.Prelude.{ℕ, ◌+◌, ◌==◌, List, [], ◌∷◌, ◌++◌, Option, Some, None, Bool, true, false, not, ◌&&◌, if◌then◌else◌, is_some, is_none, Result, Ok, Err, filter}
use Rattle.jd_value.specs.declared.reference.RefId.{RefId}
use Rattle.jd_value.specs.declared.reference.Ask.{Ask}
use Rattle.jd_value.specs.declared.fault.Fault.TheVariants.{Exited}
use Rattle.jd_value.specs.declared.value.Value.{Value}
use Rattle.jd_value.specs.declared.value.Value.TheVariants.{Nothing, Future}
use Rattle.jd_value.specs.declared.tree.Program.{Program}
use Rattle.jd_task.specs.declared.job.TaskId.{TaskId}
use Rattle.jd_task.specs.declared.closure.Closure.{Closure}
use Rattle.jd_task.specs.declared.place.Place.{Place}
use Rattle.jd_task.specs.declared.job.Turn.{Turn}
use Rattle.jd_task.specs.declared.job.Turn.TheVariants.{Asks, Ended}
use Rattle.jd_task.specs.declared.msg.Msg.{Msg}
use Rattle.jd_task.specs.declared.msg.Msg.TheVariants.{Begin, Call, Fetch, Reply}
use Rattle.jd_task.specs.Running.{advance}
use Rattle.jd_task.specs.Places.{called_place, main_place}
use Rattle.jd_model.specs.Outcome.{Outcome}
use Rattle.jd_model.specs.declared.asking.Asking.{Asking}
use Rattle.jd_model.specs.declared.asking.Asking.TheVariants as asking
use Rattle.jd_model.specs.declared.life.Stage.{Stage}
use Rattle.jd_model.specs.declared.life.Stage.TheVariants as stage
use Rattle.jd_model.specs.declared.mark.Effect.{Effect}
use Rattle.jd_model.specs.declared.mark.Effect.TheVariants.{Ran, Started, Took, Returned, Local}
use Rattle.jd_model.specs.Table.{put, put2, put3}
use Rattle.jd_model.specs.Asking.{asking}
use Rattle.jd_model.specs.Machine.{main_id, is_main, joined, settled, passed_on, is_same}

-- A task that runs here.
pub record Running : Type 0 where
  pub cell : Option RefId
  pub place : Place
  pub stage : Stage

-- A request of this process that wasn't answered yet.
pub record OpenAsk : Type 0 where
  pub task : TaskId
  pub cell : RefId

-- A request that waits here until its cell is set.
pub record Waiting : Type 0 where
  pub ask : Ask
  pub cell : RefId

pub record Node : Type 0 where
  pub workers : ℕ
  -- by the process that called them and their numbers there
  pub tasks : ℕ → ℕ → Option Running
  -- the tasks that can go on, the oldest first
  pub ready : List TaskId
  -- by maker, number and owner: the cells that are stored here, each with its outcome once it is set
  pub cells : ℕ → ℕ → ℕ → Option (Option Outcome)
  -- in the order of their arrival
  pub waiting : List Waiting
  -- by number
  pub asks : ℕ → Option OpenAsk
  -- the outcomes that were fetched here
  pub cache : ℕ → ℕ → ℕ → Option Outcome
  -- how many tasks were called here, requests asked, and cells made
  pub called : ℕ
  pub asked : ℕ
  pub made : ℕ
  pub noticed : ℕ → Bool
  -- the messages to each other process that haven't left yet, the oldest first
  pub outbox : ℕ → List Msg
  pub main_end : Option Outcome

-- What a step leaves, with its effects in their order.
pub record Stepped : Type 0 where
  pub node : Node
  pub effects : List Effect

abbrev pub first_node : ℕ → Node
first_node workers =
    record {
      workers = workers;
      tasks = λ p n. None;
      ready = [];
      cells = λ m n o. None;
      waiting = [];
      asks = λ a. None;
      cache = λ m n o. None;
      called = 0;
      asked = 0;
      made = 0;
      noticed = λ w. false;
      outbox = λ q. [];
      main_end = None;
    }

-- Process 1, with main ready to go on.
abbrev pub main_node : Program → ℕ → Node
main_node program workers =
    record (first_node workers) {
      tasks = put2 (λ p n. None) 1 0 (Some (record { cell = None; place = main_place program; stage = stage.Ready (Ok Nothing) }));
      ready = main_id ∷ [];
    }

-- ---- the parts of steps

abbrev pub silent : Node → Stepped
silent n = record { node = n; effects = [] }

-- The same step, behind these effects.
abbrev pub behind : List Effect → Stepped → Stepped
behind es s = record { node = s.node; effects = es ++ s.effects }

abbrev pub send : Node → ℕ → Msg → Node
send n q m = record n { outbox = put n.outbox q (n.outbox q ++ m ∷ []) }

abbrev pub stored_at : Node → RefId → Option Outcome
stored_at n r = joined (n.cells r.maker r.number r.owner)

abbrev pub cached_at : Node → RefId → Option Outcome
cached_at n r = n.cache r.maker r.number r.owner

abbrev pub with_cell : Node → RefId → Option (Option Outcome) → Node
with_cell n r c = record n { cells = put3 n.cells r.maker r.number r.owner c }

-- A cached outcome stays.
abbrev pub learnt : Node → RefId → Outcome → Node
learnt n r o = if is_some (cached_at n r) then n else record n { cache = put3 n.cache r.maker r.number r.owner (Some o) }

abbrev pub with_task : Node → TaskId → Running → Node
with_task n t k = record n { tasks = put2 n.tasks t.process t.number (Some k) }

-- A task that waits at this stage.
abbrev pub rests : Node → TaskId → Option RefId → Place → Stage → Node
rests n t cell place st = with_task n t (record { cell = cell; place = place; stage = st })

-- A task that can go on with this answer.
abbrev pub readied : Node → TaskId → Option RefId → Place → Outcome → Node
readied n t cell place o = record (rests n t cell place (stage.Ready o)) { ready = n.ready ++ t ∷ [] }

-- ---- deliver

abbrev pub begun : Option (Option Outcome) → Option (Option Outcome)
begun None = Some None
begun (Some c) = Some c

abbrev pub fetch_answered : ℕ → ℕ → RefId → Node → Option Outcome → Stepped
fetch_answered from a r n (Some o) = record { node = send n from (Reply a o); effects = Took (record { process = from; number = a }) ∷ [] }
fetch_answered from a r n None = silent (record n { waiting = n.waiting ++ record { ask = record { process = from; number = a }; cell = r } ∷ [] })

abbrev pub answered_task : Node → TaskId → RefId → Outcome → Option Running → Stepped
answered_task n t r o None = silent n
answered_task n t r o (Some k) = record { node = learnt (readied n t k.cell k.place o) r o; effects = Returned t ∷ [] }

-- The answer of request a has come.
abbrev pub answered_ask : Node → ℕ → Outcome → Option OpenAsk → Stepped
answered_ask n a o None = silent n
answered_ask n a o (Some q) = answered_task (record n { asks = put n.asks a None }) q.task q.cell o (n.tasks q.task.process q.task.number)

-- A message that came from that process.
abbrev pub delivered : ℕ → Msg → Node → Stepped
delivered from (Begin r) n = silent (with_cell n r (begun (n.cells r.maker r.number r.owner)))
delivered from (Call r t code args) n = record { node = readied n t (Some r) (called_place code args) (Ok Nothing); effects = Started t ∷ [] }
delivered from (Fetch a r) n = fetch_answered from a r n (stored_at n r)
delivered from (Reply a o) n = answered_ask n a o (n.asks a)

-- ---- the end of a task

abbrev pub answered_own : Node → ℕ → ℕ → Outcome → Stepped
answered_own n p a o = behind (Took (record { process = p; number = a }) ∷ []) (answered_ask n a o (n.asks a))

-- A waiting request has its answer: one of the process itself at once, another by a Reply.
abbrev pub woken : ℕ → Node → Ask → Outcome → Stepped
woken p n who o =
    if who.process == p then answered_own n p who.number o
    else record { node = send n who.process (Reply who.number o); effects = Took who ∷ [] }

abbrev pub then_woken : ℕ → RefId → Outcome → List Waiting → Stepped → Stepped
then_woken p r o [] s = s
then_woken p r o (w ∷ ws) s =
    then_woken p r o ws (if is_same r w.cell then behind s.effects (woken p s.node w.ask o) else s)

-- A cell is set, and those that wait for it are answered in the order of their arrival.
abbrev pub set_at : ℕ → Node → RefId → Outcome → Stepped
set_at p n r o =
    then_woken p r o n.waiting
    (silent (record (with_cell n r (settled (n.cells r.maker r.number r.owner) o)) { waiting = filter (λ w. not (is_same r w.cell)) n.waiting }))

abbrev pub set_once_at : ℕ → Node → RefId → Outcome → Option Outcome → Stepped
set_once_at p n r o (Some old) = silent n
set_once_at p n r o None = set_at p n r o

abbrev pub ended : ℕ → Node → Option RefId → Outcome → Stepped
ended p n None o = silent (record n { main_end = Some o })
ended p n (Some r) o = set_once_at p n r (passed_on p o) (stored_at n r)

-- ---- an asked operation

-- A request for the outcome of a cell of this process itself.
abbrev pub fetched_own : ℕ → Node → TaskId → Option RefId → Place → RefId → ℕ → Option Outcome → Stepped
fetched_own p n t cell place r a (Some o) =
    record { node = learnt (readied n t cell place o) r o; effects = Took (record { process = p; number = a }) ∷ Returned t ∷ [] }
fetched_own p n t cell place r a None =
    silent (record (rests n t cell place (stage.Waits a)) {
      asks = put n.asks a (Some (record { task = t; cell = r }));
      waiting = n.waiting ++ record { ask = record { process = p; number = a }; cell = r } ∷ [];
    })

abbrev pub fetched_there : Node → TaskId → Option RefId → Place → RefId → ℕ → Stepped
fetched_there n t cell place r a =
    silent (send (record (rests n t cell place (stage.Waits a)) { asks = put n.asks a (Some (record { task = t; cell = r })) }) r.owner (Fetch a r))

-- What isn't cached is asked of its owner, unless its loss was noticed here.
abbrev pub fetched : ℕ → Node → TaskId → Option RefId → Place → RefId → ℕ → Option Outcome → Stepped
fetched p n t cell place r a (Some o) = record { node = readied n t cell place o; effects = Local t ∷ [] }
fetched p n t cell place r a None =
    if n.noticed r.owner then silent (readied n t cell place (Err (Exited r.owner)))
    else (if r.owner == p then fetched_own p n t cell place r a (stored_at n r) else fetched_there n t cell place r a)

abbrev pub asks_for : ℕ → Node → TaskId → Option RefId → Place → RefId → ℕ → Stepped
asks_for p n t cell place r a = fetched p (record n { asked = a }) t cell place r a (cached_at n r)

-- A task is called here, and starts at once.
abbrev pub called_here : Node → RefId → TaskId → Closure → List Value → Stepped
called_here n r u code args =
    record { node = readied (with_cell n r (Some None)) u (Some r) (called_place code args) (Ok Nothing); effects = Started u ∷ [] }

abbrev pub called_there : Node → RefId → TaskId → Closure → List Value → Stepped
called_there n r u code args = silent (send (send n r.owner (Begin r)) r.owner (Call r u code args))

abbrev pub calls : ℕ → Node → TaskId → Option RefId → Place → RefId → TaskId → Closure → List Value → Stepped
calls p n t cell place r u code args = let m = record (readied n t cell place (Ok (Future r))) { made = r.number; called = u.number } in
    if r.owner == p then called_here m r u code args else called_there m r u code args

abbrev pub wants : ℕ → Node → TaskId → Option RefId → Place → Asking → Stepped
wants p n t cell place (asking.Answers o) = silent (readied n t cell place o)
wants p n t cell place (asking.Prints vs) = silent (rests n t cell place (stage.Prints vs))
wants p n t cell place (asking.Fetches r) = asks_for p n t cell place r (n.asked + 1)
wants p n t cell place (asking.Calls q code args) =
    calls p n t cell place (record { maker = p; number = n.made + 1; owner = q }) (record { process = p; number = n.called + 1 }) code args

-- ---- run, evaluation and finish

abbrev pub turned : ℕ → Node → TaskId → Option RefId → Place → Turn → Stepped
turned p n t cell place (Ended o) = ended p n cell o
turned p n t cell place (Asks op) = wants p n t cell place (asking n.workers n.noticed (is_main t) op)

-- A step of a task is done, which left it at that place.
abbrev pub finished : ℕ → Node → TaskId → Option RefId → Place → Turn → Stepped
finished p n t cell place turn = behind (Ran t ∷ []) (turned p n t cell place turn)

-- The node without the task, which is handed out to go on.
abbrev pub handed_out : Node → TaskId → List TaskId → Node
handed_out n t rest = record n { ready = rest; tasks = put2 n.tasks t.process t.number None }

abbrev pub ran_from : ℕ → Node → TaskId → Running → Stage → Option Stepped
ran_from p n t k (stage.Ready o) = let turn = advance k.place o in Some (finished p n t k.cell turn.0 turn.1)
ran_from p n t k _ = None

abbrev pub ran_task : ℕ → Node → List TaskId → TaskId → Option Running → Option Stepped
ran_task p n rest t None = None
ran_task p n rest t (Some k) = ran_from p (handed_out n t rest) t k k.stage

-- The oldest task that can go on goes on. None where there is none.
abbrev pub ran : ℕ → Node → List TaskId → Option Stepped
ran p n [] = None
ran p n (t ∷ rest) = ran_task p n rest t (n.tasks t.process t.number)

-- ---- main's line

abbrev pub printing_at : Stage → Option (List Value)
printing_at (stage.Prints vs) = Some vs
printing_at _ = None

abbrev pub printing : Option Running → Option (List Value)
printing None = None
printing (Some k) = printing_at k.stage

-- What main wants to print.
abbrev pub main_line : Node → Option (List Value)
main_line n = printing (n.tasks 1 0)

abbrev pub main_answered_to : Node → Outcome → Option Running → Node
main_answered_to n o None = n
main_answered_to n o (Some k) = readied n main_id k.cell k.place o

-- Main gets the answer to what it asked.
abbrev pub main_answered : Node → Outcome → Node
main_answered n o = main_answered_to n o (n.tasks 1 0)

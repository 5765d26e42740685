-- An answer comes back to its task.
use Rattle.std.proofs.Common.{◌≡◌, ℕ, List, [], ◌∷◌, Option, Some, None, false, refl, ap, sym, ◌∙◌}
use Rattle.jd_value.specs.declared.reference.RefId.{RefId}
use Rattle.jd_task.specs.declared.job.TaskId.{TaskId}
use Rattle.jd_task.specs.declared.place.Place.{Place}
use Rattle.jd_task.specs.declared.msg.Msg.{Msg}
use Rattle.jd_model.specs.Outcome.{Outcome}
use Rattle.jd_model.specs.declared.life.Stage.{Stage}
use Rattle.jd_model.specs.declared.life.Stage.TheVariants as stage
use Rattle.jd_model.specs.declared.life.Answer.TheVariants.{Given}
use Rattle.jd_model.specs.declared.mark.Effect.TheVariants.{Returned}
use Rattle.jd_model.specs.Table.{put, put2}
use Rattle.jd_model.specs.Machine.{State, Task, Request, outcome_of, gives}
use Rattle.jd_model.specs.Node as node
use Rattle.jd_model.specs.Node.{Node, Running as RunningTask, OpenAsk, Stepped, readied, learnt}
use Rattle.jd_model.specs.Refines.{is_ready, call_messages}
use Rattle.jd_laws.proofs.Reached.{IsReached}
use Rattle.jd_laws.proofs.Fits.{NodeFits, WaysFit, runs_at, readies}
use Rattle.jd_laws.proofs.TaskWays.{no_call, lives}
use Rattle.jd_laws.proofs.NodeParts.{node_tasks, node_ask, node_learnt, node_given, node_refreshed, learnt_cached, learnt_same}
use Rattle.jd_laws.proofs.AtWork.{task_at, shown_at, shows}

-- The task of p that waits for this request.
pub record Waiter (s : State) (p c : ℕ) (q : Request) : Type 0 where
  pub cell : Option RefId
  pub place : Place
  pub there : s.tasks q.task.process q.task.number ≡ Some (task_at p cell place (stage.Waits c))

pub waiter : (s : State) (p c : ℕ) (q : Request) → IsReached s → s.requests p c ≡ Some q → (q.answer ≡ Given → ⊥) → Waiter s p c q
waiter s p c q a e open_ =
    let o = a.waited p c q e open_ in
    let k = o.0 in
    record { cell = k.cell; place = o.1; there = o.2 ∙ (λ j. Some (record { home = o.3 j; cell = k.cell; life = o.4 j })) }

-- The process once the task has its answer.
abbrev pub answered_node : Node → ℕ → TaskId → Option RefId → Place → RefId → Outcome → Node
answered_node n c t cell place r v = learnt (readied (record n { asks = put n.asks c None }) t cell place v) r v

-- What the process does with an answer, where the request is open and its task waits.
pub answered_is : (p : ℕ) (n : Node) (s : State) (c : ℕ) (q : Request) (v : Outcome) → NodeFits p n s → (x : Waiter s p c q) → n.asks c ≡ Some (record { task = q.task; cell = q.cell })
    → node.answered_ask n c v (n.asks c) ≡ record { node = answered_node n c q.task x.cell x.place q.cell v; effects = Returned q.task ∷ [] }
answered_is p n s c q v f x e =
    ap (node.answered_ask n c v) e
    ∙ ap (node.answered_task (record n { asks = put n.asks c None }) q.task q.cell v)
    (f.tasks.same q.task.process q.task.number ∙ ap (runs_at p) x.there ∙ shows p x.cell x.place (stage.Waits c))

pub given_node : (p : ℕ) (n : Node) (s : State) (t : TaskId) (cell : Option RefId) (place : Place) (c : ℕ) (q : Request) (v : Outcome) → NodeFits p n s
    → s.tasks t.process t.number ≡ Some (task_at p cell place (stage.Waits c)) → outcome_of s q.cell ≡ Some v
    → NodeFits p (answered_node n c t cell place q.cell v) (gives s t (task_at p cell place (stage.Waits c)) place c q (Some v))
given_node p n s t cell place c q v f there outcome =
    let m = readied (record n { asks = put n.asks c None }) t cell place v in
    let asked = record s { requests = put2 s.requests p c (Some (record q { answer = Given })) } in
    let f1 = node_ask p n s c None (Some (record q { answer = Given })) f refl in
    let idle : is_ready (runs_at p (s.tasks t.process t.number)) ≡ false = ap (λ (z : Option Task). is_ready (runs_at p z)) there ∙ ap is_ready (shows p cell place (stage.Waits c)) in
    let tasks = put2 s.tasks t.process t.number (Some (task_at p cell place (stage.Ready v))) in
    let f2 = node_tasks p (record n { asks = put n.asks c None }) asked m.tasks m.ready tasks f1
    (readies p n.tasks n.ready s.tasks t (shown_at cell place (stage.Ready v)) (Some (task_at p cell place (stage.Ready v))) f.tasks idle (shows p cell place (stage.Ready v)) refl) in
    let f3 = node_learnt p m (record asked { tasks = tasks }) q.cell v f2 outcome in
    node_refreshed p (learnt m q.cell v) _ (node_given p (learnt m q.cell v) (record asked { tasks = tasks }) q.cell f3 (learnt_cached m q.cell v))

-- A task that waited goes on, and has no message.
pub woken_ways : (w : ℕ → ℕ → List Msg) (v : ℕ → List node.Waiting) (tasks : ℕ → ℕ → Option Task) (requests : ℕ → ℕ → Option Request) (t : TaskId) (p : ℕ) (cell : Option RefId) (place : Place) (st now : Stage)
    → WaysFit w v tasks requests → tasks t.process t.number ≡ Some (task_at p cell place st) → WaysFit w v (put2 tasks t.process t.number (Some (task_at p cell place now))) requests
woken_ways w v tasks requests t p cell place st now a there =
    lives w v tasks requests t.process t.number (Some (task_at p cell place now)) a
    (λ q. no_call (task_at p cell place now) refl t.process q t.number
    ∙ sym (ap (call_messages t.process q t.number) there ∙ no_call (task_at p cell place st) refl t.process q t.number))

-- Nothing is sent for that, and nothing more waits.
pub answered_outbox : (n : Node) (c : ℕ) (t : TaskId) (cell : Option RefId) (place : Place) (r : RefId) (v : Outcome) → (answered_node n c t cell place r v).outbox ≡ n.outbox
answered_outbox n c t cell place r v = learnt_same (λ (y : Node). y.outbox) (readied (record n { asks = put n.asks c None }) t cell place v) r v (λ _. refl)

pub answered_waiting : (n : Node) (c : ℕ) (t : TaskId) (cell : Option RefId) (place : Place) (r : RefId) (v : Outcome) → (answered_node n c t cell place r v).waiting ≡ n.waiting
answered_waiting n c t cell place r v = learnt_same (λ (y : Node). y.waiting) (readied (record n { asks = put n.asks c None }) t cell place v) r v (λ _. refl)

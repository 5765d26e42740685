-- A task goes on to its next operation.
use Rattle.std.proofs.Common.{◌≡◌, ℕ, List, [], ◌∷◌, Option, Some, None, true, false, refl, ap, sym, ◌∙◌}
use Rattle.jd_value.specs.declared.reference.RefId.{RefId}
use Rattle.jd_value.specs.declared.value.Value.{Value}
use Rattle.jd_task.specs.declared.job.TaskId.{TaskId}
use Rattle.jd_task.specs.declared.place.Place.{Place}
use Rattle.jd_task.specs.declared.msg.Msg.{Msg}
use Rattle.jd_model.specs.Outcome.{Outcome}
use Rattle.jd_model.specs.declared.life.Stage.{Stage}
use Rattle.jd_model.specs.declared.life.Stage.TheVariants as stage
use Rattle.jd_model.specs.declared.life.Life.TheVariants.{Running}
use Rattle.jd_model.specs.declared.mark.Effect.TheVariants.{Ran}
use Rattle.jd_model.specs.Table.{put2}
use Rattle.jd_laws.proofs.Basics.{test_self, put2-same}
use Rattle.jd_model.specs.Machine as machine
use Rattle.jd_model.specs.Machine.{State, Task, Request, outcome_of, legal, does, after, with_life, refreshed, has, gives}
use Rattle.jd_model.specs.Node as node
use Rattle.jd_model.specs.Node.{Node, Running as RunningTask, Stepped, Waiting, readied, learnt, cached_at, stored_at}
use Rattle.jd_model.specs.World.{Net}
use Rattle.jd_model.specs.Refines.{call_messages, is_ready, is_ready_stage}
use Rattle.jd_laws.proofs.Reached.{IsReached}
use Rattle.jd_laws.proofs.Effects.{run_legal, mark}
use Rattle.jd_laws.proofs.Fits.{NodeFits, TasksFit, WaysFit, MailFits, IsCached, Same, runs_at, opens, ways_same, mail_same, put2-twice, put2-back, tasks_same, readies, hands_out}
use Rattle.jd_laws.proofs.Fits as fits
use Rattle.jd_laws.proofs.TaskWays.{no_call, lives}
use Rattle.jd_laws.proofs.NodeParts.{node_tasks, node_refreshed}
use Rattle.jd_laws.proofs.Here.{Here, Steps, goes, here_kept}

-- A task of p at this stage.
abbrev pub task_at : ℕ → Option RefId → Place → Stage → Task
task_at p cell place st = record { home = p; cell = cell; life = Running place st }

abbrev pub shown_at : Option RefId → Place → Stage → RunningTask
shown_at cell place st = record { cell = cell; place = place; stage = st }

-- The machine without the task, as process p is while the task goes on.
abbrev pub out_state : State → TaskId → State
out_state s t = record s { tasks = put2 s.tasks t.process t.number None }

pub record AtWork (w : Net) (p : ℕ) (n : Node) (s : State) (t : TaskId) (cell : Option RefId) (place : Place) (o : Outcome) : Type 0 where
  pub reached : IsReached s
  pub running : s.ending ≡ None
  pub there : s.tasks t.process t.number ≡ Some (task_at p cell place (stage.Ready o))
  pub here : Here w p n (out_state s t)

pub shows : (p : ℕ) (cell : Option RefId) (place : Place) (st : Stage) → runs_at p (Some (task_at p cell place st)) ≡ Some (shown_at cell place st)
shows p cell place st = rw (test_self p) refl

pub is_out : (p : ℕ) (s : State) (t : TaskId) → is_ready (runs_at p (put2 s.tasks t.process t.number None t.process t.number)) ≡ false
is_out p s t = ap (λ (x : Option Task). is_ready (runs_at p x)) (put2-same s.tasks t.process t.number None)

pub runnable_at : (w : Net) (p : ℕ) (n : Node) (s : State) (t : TaskId) (cell : Option RefId) (place : Place) (o : Outcome) → AtWork w p n s t cell place o
    → legal s (mark (Ran t) p) ≡ true
runnable_at w p n s t cell place o a = run_legal s t p (task_at p cell place (stage.Ready o)) place o a.reached a.running (record { there = a.there; home = refl; life = refl })

-- Running tasks have no messages.
pub still_running : (w : ℕ → ℕ → List Msg) (v : ℕ → List Waiting) (tasks : ℕ → ℕ → Option Task) (requests : ℕ → ℕ → Option Request) (t : TaskId) (k : Task)
    → WaysFit w v (put2 tasks t.process t.number None) requests → machine.is_called k.life ≡ false → WaysFit w v (put2 tasks t.process t.number (Some k)) requests
still_running w v tasks requests t k a begun =
    ways_same w w v v (put2 (put2 tasks t.process t.number None) t.process t.number (Some k)) (put2 tasks t.process t.number (Some k)) requests requests
    (λ x y. refl) (λ q. refl) (λ x y. sym (put2-twice tasks t.process t.number None (Some k) x y)) (λ x y. refl)
    (lives w v (put2 tasks t.process t.number None) requests t.process t.number (Some k) a
    (λ q. no_call k begun t.process q t.number ∙ ap (call_messages t.process q t.number) (sym (put2-same tasks t.process t.number None))))

-- ---- it goes on at once

pub ready_tasks : (p : ℕ) (n : Node) (s : State) (t : TaskId) (cell : Option RefId) (x : Place) (v : Outcome) → NodeFits p n (out_state s t)
    → TasksFit p (readied n t cell x v).tasks (readied n t cell x v).ready (put2 s.tasks t.process t.number (Some (task_at p cell x (stage.Ready v))))
ready_tasks p n s t cell x v f =
    tasks_same p (readied n t cell x v).tasks (readied n t cell x v).ready (put2 (put2 s.tasks t.process t.number None) t.process t.number (Some (task_at p cell x (stage.Ready v)))) _
    (λ i j. sym (put2-twice s.tasks t.process t.number None (Some (task_at p cell x (stage.Ready v))) i j))
    (readies p n.tasks n.ready (put2 s.tasks t.process t.number None) t (shown_at cell x (stage.Ready v)) (Some (task_at p cell x (stage.Ready v))) f.tasks (is_out p s t) (shows p cell x (stage.Ready v)) refl)

pub rest_tasks : (p : ℕ) (n : Node) (s : State) (t : TaskId) (cell : Option RefId) (x : Place) (st : Stage) → NodeFits p n (out_state s t) → is_ready_stage st ≡ false
    → TasksFit p (node.rests n t cell x st).tasks n.ready (put2 s.tasks t.process t.number (Some (task_at p cell x st)))
rest_tasks p n s t cell x st f waits =
    tasks_same p (node.rests n t cell x st).tasks n.ready (put2 (put2 s.tasks t.process t.number None) t.process t.number (Some (task_at p cell x st))) _
    (λ i j. sym (put2-twice s.tasks t.process t.number None (Some (task_at p cell x st)) i j))
    (fits.rests p n.tasks n.ready (put2 s.tasks t.process t.number None) t (shown_at cell x st) (Some (task_at p cell x st)) f.tasks (is_out p s t) (shows p cell x st) waits)

pub answers_step : (w : Net) (p : ℕ) (n : Node) (s : State) (t : TaskId) (cell : Option RefId) (place : Place) (o : Outcome) (x : Place) (v : Outcome) → AtWork w p n s t cell place o
    → does s (Ran t) ≡ refreshed (with_life s t (task_at p cell place (stage.Ready o)) (Running x (stage.Ready v))) p
    → Steps w p s (readied n t cell x v) (Ran t ∷ [])
answers_step w p n s t cell place o x v a d = record {
  state = refreshed u p;
  replay = goes s (mark (Ran t) p) (refreshed u p) [] (refreshed u p) (runnable_at w p n s t cell place o a) d refl;
  running = a.running;
  here = here_kept w p n (readied n t cell x v) (out_state s t) (refreshed u p) a.here
      (node_refreshed p (readied n t cell x v) u (node_tasks p n (out_state s t) (readied n t cell x v).tasks (readied n t cell x v).ready u.tasks a.here.node (ready_tasks p n s t cell x v a.here.node)))
      refl refl (still_running _ _ s.tasks s.requests t (task_at p cell x (stage.Ready v)) a.here.ways refl) refl (λ y h. h);
}
  where
    u : State
    u = with_life s t (task_at p cell place (stage.Ready o)) (Running x (stage.Ready v))

-- ---- it prints

pub prints_step : (w : Net) (p : ℕ) (n : Node) (s : State) (t : TaskId) (cell : Option RefId) (place : Place) (o : Outcome) (x : Place) (vs : List Value) → AtWork w p n s t cell place o
    → does s (Ran t) ≡ refreshed (with_life s t (task_at p cell place (stage.Ready o)) (Running x (stage.Prints vs))) p
    → Steps w p s (node.rests n t cell x (stage.Prints vs)) (Ran t ∷ [])
prints_step w p n s t cell place o x vs a d = record {
  state = refreshed u p;
  replay = goes s (mark (Ran t) p) (refreshed u p) [] (refreshed u p) (runnable_at w p n s t cell place o a) d refl;
  running = a.running;
  here = here_kept w p n (node.rests n t cell x (stage.Prints vs)) (out_state s t) (refreshed u p) a.here
      (node_refreshed p (node.rests n t cell x (stage.Prints vs)) u
      (node_tasks p n (out_state s t) (node.rests n t cell x (stage.Prints vs)).tasks n.ready u.tasks a.here.node (rest_tasks p n s t cell x (stage.Prints vs) a.here.node refl)))
      refl refl (still_running _ _ s.tasks s.requests t (task_at p cell x (stage.Prints vs)) a.here.ways refl) refl (λ y h. h);
}
  where
    u : State
    u = with_life s t (task_at p cell place (stage.Ready o)) (Running x (stage.Prints vs))

-- A task goes on to a call.
use Rattle.std.proofs.Common.{◌≡◌, ℕ, ◌+◌, ◌==◌, List, [], ◌∷◌, ◌++◌, Option, Some, None, true, false, Ok, refl, arith, ap, sym, ◌∙◌}
use Rattle.jd_value.specs.declared.reference.RefId.{RefId}
use Rattle.jd_value.specs.declared.value.Value.{Value}
use Rattle.jd_value.specs.declared.value.Value.TheVariants.{Nothing, Future}
use Rattle.jd_task.specs.declared.job.TaskId.{TaskId}
use Rattle.jd_task.specs.declared.closure.Closure.{Closure}
use Rattle.jd_task.specs.declared.place.Place.{Place}
use Rattle.jd_task.specs.declared.msg.Msg.{Msg}
use Rattle.jd_task.specs.declared.msg.Msg.TheVariants.{Begin, Call}
use Rattle.jd_task.specs.Places.{called_place}
use Rattle.jd_model.specs.Outcome.{Outcome}
use Rattle.jd_model.specs.declared.life.Stage.TheVariants as stage
use Rattle.jd_model.specs.declared.life.Life.{Life}
use Rattle.jd_model.specs.declared.life.Life.TheVariants.{Called, Running}
use Rattle.jd_model.specs.declared.mark.Effect.TheVariants.{Ran, Started}
use Rattle.jd_model.specs.Table.{put2, put3}
use Rattle.jd_laws.proofs.Basics.{both, test_self, at_put3, put2-same, all-map}
use Rattle.jd_model.specs.Asking.{is_known}
use Rattle.jd_model.specs.Machine.{State, Task, joined, does, after, with_life, refreshed}
use Rattle.jd_model.specs.Node as node
use Rattle.jd_model.specs.Node.{Node, Stepped, Waiting, readied, with_cell, send}
use Rattle.jd_model.specs.World.{Net}
use Rattle.jd_model.specs.Refines.{IsSound, IsUnset, call_messages, is_ready}
use Rattle.jd_laws.proofs.Changes.{resumes, called_by}
use Rattle.jd_laws.proofs.Reached.{IsReached}
use Rattle.jd_laws.proofs.Effects.{IsStartable, start_legal, start_state, started_state, mark}
use Rattle.jd_laws.proofs.Sound.{after_reached}
use Rattle.jd_laws.proofs.Unseen.{fresh_cell, fresh_task}
use Rattle.jd_laws.proofs.Fits.{NodeFits, WaysFit, Same, runs_at, ways_same, put2-twice, put2_alike, tasks_alike, readies}
use Rattle.jd_laws.proofs.TaskWays.{no_call, lives, begin_leaves, call_leaves}
use Rattle.jd_laws.proofs.NodeParts.{node_rest, state_rest, node_tasks, node_made, state_cells, node_cells, node_refreshed}
use Rattle.jd_laws.proofs.Here.{Steps, way_from, wait_from, way_sent, wait_kept, goes, mail_put, here_by, here_kept}
use Rattle.jd_laws.proofs.AtWork.{AtWork, task_at, shown_at, shows, out_state, runnable_at, still_running, ready_tasks}

abbrev pub cell_of : State → ℕ → ℕ → RefId
cell_of s p q = record { maker = p; number = s.made p + 1; owner = q }

abbrev pub task_of : State → ℕ → TaskId
task_of s p = record { process = p; number = s.called p + 1 }

-- The process with the calling task, which has its future, and the numbers of the new cell and task.
abbrev pub calling_node : Node → State → ℕ → TaskId → Option RefId → Place → ℕ → Node
calling_node n s p t cell x q = record (readied n t cell x (Ok (Future (cell_of s p q)))) { made = s.made p + 1; called = s.called p + 1 }

-- The machine with the calling task, which has its future.
abbrev pub gone_on : ℕ → State → TaskId → Option RefId → Place → Outcome → Place → ℕ → State
gone_on p s t cell place o x q = with_life s t (task_at p cell place (stage.Ready o)) (Running x (stage.Ready (Ok (Future (cell_of s p q)))))

-- And with the new task.
abbrev pub called_state : ℕ → State → TaskId → Option RefId → Place → Outcome → Place → ℕ → Closure → List Value → State
called_state p s t cell place o x q code args = called_by (gone_on p s t cell place o x q) p q code args

module _ (w : Net) (p : ℕ) (n : Node) (s : State) (t : TaskId) (cell : Option RefId) (place : Place) (o : Outcome) (x : Place) (q : ℕ) (code : Closure) (args : List Value)
    (a : AtWork w p n s t cell place o) (d : does s (Ran t) ≡ refreshed (called_state p s t cell place o x q code args) p) where
  on_sound : IsSound (gone_on p s t cell place o x q)
  on_sound = resumes s t (task_at p cell place (stage.Ready o)) (Running x (stage.Ready (Ok (Future (cell_of s p q))))) a.reached.sound a.there refl refl refl

  fresh : (gone_on p s t cell place o x q).tasks p (s.called p + 1) ≡ None
  fresh = on_sound.no_task p (s.called p + 1) (omega arith)

  known_here : is_known s.workers p ≡ true
  known_here = a.reached.homes t.process t.number (task_at p cell place (stage.Ready o)) a.there

  one_mark : after (Some s) (mark (Ran t) p ∷ []) ≡ Some (refreshed (called_state p s t cell place o x q code args) p)
  one_mark = goes s (mark (Ran t) p) (refreshed (called_state p s t cell place o x q code args) p) [] _ (runnable_at w p n s t cell place o a) d refl

  call_reached : IsReached (refreshed (called_state p s t cell place o x q code args) p)
  call_reached = after_reached s (mark (Ran t) p ∷ []) _ a.reached one_mark

  calling : NodeFits p (calling_node n s p t cell x q) (called_state p s t cell place o x q code args)
  calling =
      let m = calling_node n s p t cell x q in
      let v : Outcome = Ok (Future (cell_of s p q)) in
      let u = gone_on p s t cell place o x q in
      let z = called_state p s t cell place o x q code args in
      let f1 = node_tasks p n (out_state s t) (readied n t cell x v).tasks (readied n t cell x v).ready u.tasks a.here.node (ready_tasks p n s t cell x v a.here.node) in
      let f2 = node_made p (readied n t cell x v) u (s.made p + 1) (s.called p + 1) f1 in
      let f3 = node_tasks p m (record u { made = z.made; called = z.called }) m.tasks m.ready z.tasks f2 (tasks_alike p m.tasks m.ready u.tasks z.tasks (fresh_task p u p q code args on_sound) f2.tasks) in
      state_cells p m (record u { made = z.made; called = z.called; tasks = z.tasks }) z.cells f3 (fresh_cell u p q on_sound)

  ways_on : WaysFit (way_from w p n) (wait_from w p n) (gone_on p s t cell place o x q).tasks s.requests
  ways_on = still_running _ _ s.tasks s.requests t (task_at p cell x (stage.Ready (Ok (Future (cell_of s p q))))) a.here.ways refl

  unset_on : (v : Waiting) → IsUnset s v → IsUnset (called_state p s t cell place o x q code args) v
  unset_on v h = fresh_cell (gone_on p s t cell place o x q) p q on_sound v.cell.maker v.cell.number v.cell.owner ∙ h

  -- the task is called on another process
  pub call_there : (p == q) ≡ false → is_known s.workers q ≡ true
      → Steps w p s (node.called_there (calling_node n s p t cell x q) (cell_of s p q) (task_of s p) code args).node (Ran t ∷ [])
  call_there other known = record {
    state = refreshed (called_state p s t cell place o x q code args) p;
    replay = one_mark;
    running = a.running;
    here = here_by w p (node.called_there (calling_node n s p t cell x q) (cell_of s p q) (task_of s p) code args).node _ ways (wait_from w p n)
        (node_rest p _ _ (node.called_there (calling_node n s p t cell x q) (cell_of s p q) (task_of s p) code args).node.outbox n.waiting (node_refreshed p _ _ calling))
        same
        (wait_kept w p n (node.called_there (calling_node n s p t cell x q) (cell_of s p q) (task_of s p) code args).node refl)
        (call_leaves begun (wait_from w p n) _ s.requests p q (s.called p + 1) (cell_of s p q) code args (begin_leaves _ _ _ s.requests p q (cell_of s p q) ways_on other) other fresh)
        (mail_put _ _ s.workers p q _ (mail_put _ _ s.workers p q _ a.here.mail (both _ _ known_here known)) (both _ _ known_here known))
        (λ i. all-map (IsUnset s) (IsUnset (called_state p s t cell place o x q code args)) (wait_from w p n i) unset_on (a.here.unset i));
  }
    where
      r : RefId
      r = cell_of s p q

      begun : ℕ → ℕ → List Msg
      begun = put2 (way_from w p n) p q (way_from w p n p q ++ Begin r ∷ [])

      ways : ℕ → ℕ → List Msg
      ways = put2 begun p q (begun p q ++ Call r (task_of s p) code args ∷ [])

      first : Node
      first = send (calling_node n s p t cell x q) q (Begin r)

      same : Same (way_from w p (send first q (Call r (task_of s p) code args))) ways
      same i j = way_sent w p first (send first q (Call r (task_of s p) code args)) q (Call r (task_of s p) code args) refl i j
          ∙ put2_alike (way_from w p first) begun p q (Call r (task_of s p) code args) (way_sent w p n first q (Begin r) refl) i j

module _ (w : Net) (p : ℕ) (n : Node) (s : State) (t : TaskId) (cell : Option RefId) (place : Place) (o : Outcome) (x : Place) (code : Closure) (args : List Value)
    (a : AtWork w p n s t cell place o) (d : does s (Ran t) ≡ refreshed (called_state p s t cell place o x p code args) p) where
  -- the task is called on this process, and starts
  pub call_here : Steps w p s (node.called_here (calling_node n s p t cell x p) (cell_of s p p) (task_of s p) code args).node (Ran t ∷ Started (task_of s p) ∷ [])
  call_here = record {
    state = u2;
    replay = goes s (mark (Ran t) p) u1 (mark (Started u) p ∷ []) u2 (runnable_at w p n s t cell place o a) d
        (goes u1 (mark (Started u) p) u2 [] u2 (start_legal u1 u p new code args (call_reached w p n s t cell place o x p code args a d) a.running starts) (start_state u1 u p new code args starts) refl);
    running = a.running;
    here = here_kept w p n m (out_state s t) u2 a.here
        (state_rest p m (with_life u1 u new life) u2.running u2.lines u2.ending (node_tasks p stored u1 m.tasks m.ready u2.tasks there (readies p stored.tasks stored.ready u1.tasks u (shown_at (Some r) (called_place code args) (stage.Ready (Ok Nothing))) (Some started_task) there.tasks idle now refl)))
        refl refl
        (ways_same _ _ _ _ _ u2.tasks _ u2.requests (λ i j. refl) (λ i. refl) (put2-twice on.tasks p (s.called p + 1) (Some new) (Some started_task)) (λ i j. refl)
        (lives _ _ _ s.requests p (s.called p + 1) (Some started_task) (ways_on w p n s t cell place o x p code args a d)
        (λ y. no_call started_task refl p y (s.called p + 1) ∙ ap (call_messages p y (s.called p + 1)) (sym (fresh w p n s t cell place o x p code args a d)))))
        refl (unset_on w p n s t cell place o x p code args a d);
  }
    where
      r : RefId
      r = cell_of s p p

      u : TaskId
      u = task_of s p

      on : State
      on = gone_on p s t cell place o x p

      u1 : State
      u1 = refreshed (called_state p s t cell place o x p code args) p

      new : Task
      new = record { home = p; cell = Some r; life = Called code args }

      life : Life
      life = Running (called_place code args) (stage.Ready (Ok Nothing))

      started_task : Task
      started_task = record { home = p; cell = Some r; life = life }

      u2 : State
      u2 = started_state u1 u new code args

      stored : Node
      stored = with_cell (calling_node n s p t cell x p) r (Some None)

      m : Node
      m = readied stored u (Some r) (called_place code args) (Ok Nothing)

      starts : IsStartable u1 u p new code args
      starts = record { there = put2-same on.tasks p (s.called p + 1) (Some new); home = refl; life = refl }

      same_cells : (i j k : ℕ) → joined (put3 n.cells p (s.made p + 1) p (Some None) i j k) ≡ joined (n.cells i j k)
      same_cells i j k = at_put3 n.cells p (s.made p + 1) p (Some None) i j k (λ z. joined z ≡ joined (n.cells i j k))
          (λ ei ej ek. sym (ap joined (λ h. n.cells (ei h) (ej h) (ek h)) ∙ a.here.node.stored p (s.made p + 1) ∙ ap joined (a.reached.no_cell p (s.made p + 1) p (omega arith))))
          (λ _. refl)

      there : NodeFits p stored u1
      there = node_refreshed p stored _ (node_cells p (calling_node n s p t cell x p) _ stored.cells (calling w p n s t cell place o x p code args a d) same_cells)

      idle : is_ready (runs_at p (u1.tasks u.process u.number)) ≡ false
      idle = ap (λ z. is_ready (runs_at p z)) (put2-same on.tasks p (s.called p + 1) (Some new)) ∙ rw (test_self p) refl

      now : runs_at p (Some started_task) ≡ Some (shown_at (Some r) (called_place code args) (stage.Ready (Ok Nothing)))
      now = shows p (Some r) (called_place code args) (stage.Ready (Ok Nothing))

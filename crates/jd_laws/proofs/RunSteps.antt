-- The oldest task of a process that can go on goes on.
use Rattle.std.proofs.Common.{◌≡◌, ℕ, ◌+◌, ◌==◌, List, [], ◌∷◌, map, Option, Some, None, Bool, true, false, Err, refl, arith, ap, sym, subst, ◌∙◌, if◌then◌else◌}
use Rattle.std.proofs.lemmas.Bool.Decides.{nat_tests}
use Rattle.jd_value.specs.declared.reference.RefId.{RefId}
use Rattle.jd_value.specs.declared.value.Value.{Value}
use Rattle.jd_task.specs.declared.job.TaskId.{TaskId}
use Rattle.jd_task.specs.declared.closure.Closure.{Closure}
use Rattle.jd_task.specs.declared.place.Place.{Place}
use Rattle.jd_task.specs.declared.job.Turn.{Turn}
use Rattle.jd_task.specs.declared.job.Turn.TheVariants.{Asks, Ended}
use Rattle.jd_task.specs.Running.{advance}
use Rattle.jd_model.specs.Outcome.{Outcome}
use Rattle.jd_model.specs.declared.asking.Asking.{Asking}
use Rattle.jd_model.specs.declared.asking.Asking.TheVariants as asking
use Rattle.jd_model.specs.declared.life.Stage.{Stage}
use Rattle.jd_model.specs.declared.life.Stage.TheVariants as stage
use Rattle.jd_model.specs.declared.life.Life.{Life}
use Rattle.jd_model.specs.declared.life.Life.TheVariants.{Called, Running, Over}
use Rattle.jd_model.specs.declared.mark.Effect.TheVariants.{Ran}
use Rattle.jd_laws.proofs.Basics.{some_same, same_test}
use Rattle.jd_value.specs.declared.fault.Fault.TheVariants as fault
use Rattle.jd_model.specs.Asking.{asking}
use Rattle.jd_model.specs.Machine as machine
use Rattle.jd_model.specs.Machine.{State, Task, Request, outcome_of, legal, does, after, with_life, refreshed, turned, over, passed_on, ending_of, is_main}
use Rattle.jd_model.specs.Node as node
use Rattle.jd_model.specs.Node.{Node, Running as RunningTask, Stepped, Waiting, handed_out, stored_at, cached_at}
use Rattle.jd_model.specs.World.{Net, marked, with_node}
use Rattle.jd_model.specs.Refines.{Refines, call_messages}
use Rattle.jd_laws.proofs.Asked.{IsForKnown, asks_known}
use Rattle.jd_laws.proofs.Reached.{IsReached}
use Rattle.jd_laws.proofs.Effects.{ran_state, mark}
use Rattle.jd_laws.proofs.Fits.{NodeFits, TasksFit, runs, runs_at, hands_out}
use Rattle.jd_laws.proofs.TaskWays.{no_call, lives}
use Rattle.jd_laws.proofs.NodeParts.{node_tasks}
use Rattle.jd_laws.proofs.Here.{Here, Steps, goes, here_kept, steps_refine}
use Rattle.jd_laws.proofs.AtWork.{AtWork, task_at, out_state, runnable_at, answers_step, prints_step}
use Rattle.jd_laws.proofs.FetchSteps.{fetch_there, fetch_here, fetch_cached, fetch_stored}
use Rattle.jd_laws.proofs.CallSteps.{cell_of, task_of, calling_node, called_state, call_there, call_here}
use Rattle.jd_laws.proofs.EndSteps.{end_set, end_sets}

-- What a step of process p leaves. Main alone ends the run.
pub record Left (w : Net) (p : ℕ) (s : State) (step : Stepped) : Type 0 where
  pub state : State
  pub replay : after (Some s) (map (marked p) step.effects) ≡ Some state
  pub ended : (o : Outcome) → step.node.main_end ≡ Some o → state.ending ≡ Some (ending_of o)
  pub running : step.node.main_end ≡ None → state.ending ≡ None
  pub refines : step.node.main_end ≡ None → Refines (with_node w p step.node) state
  pub main : (p ≡ 1 → ⊥) → step.node.main_end ≡ None

pub steps_left : (w : Net) (p : ℕ) (s : State) (step : Stepped) → IsReached s → ((q : ℕ) → (q == p) ≡ false → NodeFits q (w.nodes q) s) → Steps w p s step.node step.effects → Left w p s step
steps_left w p s step a others x = record {
  state = x.state;
  replay = x.replay;
  ended = λ o e. let none = x.here.node.running in cc;
  running = λ e. x.running;
  refines = λ e. steps_refine w p s step.node step.effects a others x;
  main = λ e. x.here.node.running;
}

-- ---- to an operation

calls_step : (w : Net) (p : ℕ) (n : Node) (s : State) (t : TaskId) (cell : Option RefId) (place : Place) (o : Outcome) (x : Place) (q : ℕ) (code : Closure) (args : List Value)
    → AtWork w p n s t cell place o → does s (Ran t) ≡ refreshed (called_state p s t cell place o x q code args) p → IsForKnown s.workers (asking.Calls q code args)
    → Steps w p s (node.wants p n t cell x (asking.Calls q code args)).node (Ran t ∷ (node.wants p n t cell x (asking.Calls q code args)).effects)
calls_step w p n s t cell place o x q code args a d known =
    subst (λ (i : ℕ). P i n.called) (sym a.here.node.made) (subst (λ (j : ℕ). P (s.made p) j) (sym a.here.node.called) (by_process (q == p) refl d))
  where
    P : ℕ → ℕ → Type 0
    P i j = let st = node.calls p n t cell x (record { maker = p; number = i + 1; owner = q }) (record { process = p; number = j + 1 }) code args in Steps w p s st.node (Ran t ∷ st.effects)

    Q : ℕ → Stepped → Type 0
    Q y st = does s (Ran t) ≡ refreshed (called_state p s t cell place o x y code args) p → Steps w p s st.node (Ran t ∷ st.effects)

    by_process : (b : Bool) → (q == p) ≡ b → Q q (if b then node.called_here (calling_node n s p t cell x q) (cell_of s p q) (task_of s p) code args
        else node.called_there (calling_node n s p t cell x q) (cell_of s p q) (task_of s p) code args)
    by_process true e =
        subst (λ y. Q y (node.called_here (calling_node n s p t cell x y) (cell_of s p y) (task_of s p) code args)) (sym (same_test q p e))
        (λ d. call_here w p n s t cell place o x code args a d)
    by_process false e = λ d. call_there w p n s t cell place o x q code args a d (grind (arith, nat_tests, e)) known

fetches_step : (w : Net) (p : ℕ) (n : Node) (s : State) (t : TaskId) (cell : Option RefId) (place : Place) (o : Outcome) (x : Place) (r : RefId)
    → AtWork w p n s t cell place o → does s (Ran t) ≡ refreshed (machine.asks_for s t (task_at p cell place (stage.Ready o)) x r (s.asked p + 1)) p
    → IsForKnown s.workers (asking.Fetches r)
    → Steps w p s (node.wants p n t cell x (asking.Fetches r)).node (Ran t ∷ (node.wants p n t cell x (asking.Fetches r)).effects)
fetches_step w p n s t cell place o x r a d known = by_cache (cached_at n r) refl
  where
    c : ℕ
    c = n.asked + 1

    number : c ≡ s.asked p + 1
    number = ap (λ i. i + 1) a.here.node.asked

    d2 : does s (Ran t) ≡ refreshed (machine.asks_for s t (task_at p cell place (stage.Ready o)) x r c) p
    d2 = d ∙ ap (λ i. refreshed (machine.asks_for s t (task_at p cell place (stage.Ready o)) x r i) p) (sym number)

    m : Node
    m = record n { asked = c }

    Done : Stepped → Type 0
    Done st = Steps w p s st.node (Ran t ∷ st.effects)

    calm : n.noticed r.owner ≡ false
    calm = ap (λ (f : ℕ → Bool). f r.owner) a.here.node.noticed ∙ a.reached.calm p r.owner

    by_store : r.owner ≡ p → cached_at n r ≡ None → (z : Option Outcome) → stored_at n r ≡ z → Done (node.fetched_own p m t cell x r c z)
    by_store here none None e = fetch_here w p n s t cell place o x r c a number d2 none here e
    by_store here none (Some v) e = fetch_stored w p n s t cell place o x r c a number d2 v none here e

    by_owner : cached_at n r ≡ None → (b : Bool) → (r.owner == p) ≡ b → Done (if b then node.fetched_own p m t cell x r c (stored_at n r) else node.fetched_there m t cell x r c)
    by_owner none true e = by_store (same_test r.owner p e) none (stored_at n r) refl
    by_owner none false e = fetch_there w p n s t cell place o x r c a number d2 none (grind (arith, nat_tests, e)) known

    by_cache : (z : Option Outcome) → cached_at n r ≡ z → Done (node.fetched p m t cell x r c z)
    by_cache (Some v) e = fetch_cached w p n s t cell place o x r c a number d2 v e
    by_cache None e =
        subst (λ (b : Bool). Done (if b then node.silent (node.readied m t cell x (Err (fault.Exited r.owner)))
        else (if r.owner == p then node.fetched_own p m t cell x r c (stored_at n r) else node.fetched_there m t cell x r c))) (sym calm)
        (by_owner e (r.owner == p) refl)

pub wants_step : (w : Net) (p : ℕ) (n : Node) (s : State) (t : TaskId) (cell : Option RefId) (place : Place) (o : Outcome) (x : Place) (want : Asking)
    → AtWork w p n s t cell place o → does s (Ran t) ≡ refreshed (machine.wants s t (task_at p cell place (stage.Ready o)) x want) p → IsForKnown s.workers want
    → Steps w p s (node.wants p n t cell x want).node (Ran t ∷ (node.wants p n t cell x want).effects)
wants_step w p n s t cell place o x (asking.Answers v) a d known = answers_step w p n s t cell place o x v a d
wants_step w p n s t cell place o x (asking.Prints vs) a d known = prints_step w p n s t cell place o x vs a d
wants_step w p n s t cell place o x (asking.Fetches r) a d known = fetches_step w p n s t cell place o x r a d known
wants_step w p n s t cell place o x (asking.Calls q code args) a d known = calls_step w p n s t cell place o x q code args a d known

-- ---- to its end

ends : (w : Net) (p : ℕ) (n : Node) (s : State) (t : TaskId) (cell : Option RefId) (place : Place) (o v : Outcome)
    → ((q : ℕ) → (q == p) ≡ false → NodeFits q (w.nodes q) s) → AtWork w p n s t cell place o
    → does s (Ran t) ≡ refreshed (over s t (task_at p cell place (stage.Ready o)) v) p → Left w p s (node.behind (Ran t ∷ []) (node.ended p n cell v))
ends w p n s t None place o v others a d = record {
  state = refreshed (over s t (task_at p None place (stage.Ready o)) v) p;
  replay = goes s (mark (Ran t) p) _ [] _ (runnable_at w p n s t None place o a) d refl;
  ended = λ y e. ap (λ (z : Outcome). Some (ending_of z)) (some_same _ _ e);
  running = λ e. cc;
  refines = λ e. absurd (let clash : Some v ≡ None = e in cc);
  main = λ e. absurd (e (a.reached.no_cell_home t.process t.number (task_at p None place (stage.Ready o)) a.there refl));
}
ends w p n s t (Some r) place o v others a d = by_store (stored_at n r) refl
  where
    by_store : (z : Option Outcome) → stored_at n r ≡ z → Left w p s (node.behind (Ran t ∷ []) (node.set_once_at p n r (passed_on p v) z))
    by_store (Some old) e = steps_left w p s (record { node = n; effects = Ran t ∷ [] }) a.reached others (end_set w p n s t r place o v a d old e)
    by_store None e = steps_left w p s (node.behind (Ran t ∷ []) (node.set_at p n r (passed_on p v))) a.reached others (end_sets w p n s t r place o v a d e)

pub goes_on : (w : Net) (p : ℕ) (n : Node) (s : State) (t : TaskId) (cell : Option RefId) (place : Place) (o : Outcome) (x : Place) (turn : Turn)
    → ((q : ℕ) → (q == p) ≡ false → NodeFits q (w.nodes q) s) → AtWork w p n s t cell place o
    → does s (Ran t) ≡ refreshed (turned s t (task_at p cell place (stage.Ready o)) x turn) p → Left w p s (node.finished p n t cell x turn)
goes_on w p n s t cell place o x (Ended v) others a d = ends w p n s t cell place o v others a d
goes_on w p n s t cell place o x (Asks op) others a d =
    let asks = asking s.workers (s.noticed p) (is_main t) op in
    let same : asking n.workers n.noticed (is_main t) op ≡ asks = λ j. asking (a.here.node.workers j) (a.here.node.noticed j) (is_main t) op in
    subst (λ (z : Asking). Left w p s (node.behind (Ran t ∷ []) (node.wants p n t cell x z))) (sym same)
    (steps_left w p s (node.behind (Ran t ∷ []) (node.wants p n t cell x asks)) a.reached others
    (wants_step w p n s t cell place o x asks a d (asks_known s.workers (s.noticed p) (is_main t) op)))

-- ---- the whole step

-- The task that a process shows.
pub shown_is : (p : ℕ) (o : Option Task) (k : RunningTask) → runs_at p o ≡ Some k → o ≡ Some (task_at p k.cell k.place k.stage)
shown_is p None k h = cc
shown_is p (Some x) k h = by_home (x.home == p) refl h
  where
    of_life : (l : Life) → x.home ≡ p → x.life ≡ l → runs x l ≡ Some k → Some x ≡ Some (task_at p k.cell k.place k.stage)
    of_life (Called code args) home life e = cc
    of_life Over home life e = cc
    of_life (Running place st) home life e =
        let same : record { cell = x.cell; place = place; stage = st } ≡ k = some_same _ _ e in
        λ j. Some (record { home = home j; cell = (same j).cell; life = (life ∙ (λ i. Running (same i).place (same i).stage)) j })

    by_home : (b : Bool) → (x.home == p) ≡ b → (if b then runs x x.life else None) ≡ Some k → Some x ≡ Some (task_at p k.cell k.place k.stage)
    by_home true e h = of_life x.life (same_test x.home p e) refl h
    by_home false e h = cc

at_work : (w : Net) (p : ℕ) (n : Node) (s : State) (t : TaskId) (rest : List TaskId) (cell : Option RefId) (place : Place) (o : Outcome) → IsReached s → s.ending ≡ None → Here w p n s
    → n.ready ≡ t ∷ rest → s.tasks t.process t.number ≡ Some (task_at p cell place (stage.Ready o)) → AtWork w p (handed_out n t rest) s t cell place o
at_work w p n s t rest cell place o a running h e there = record {
  reached = a;
  running = running;
  there = there;
  here = here_kept w p n (handed_out n t rest) s (out_state s t) h
      (node_tasks p n s (handed_out n t rest).tasks rest (out_state s t).tasks h.node
      (hands_out p n.tasks t rest s.tasks (subst (λ (xs : List TaskId). TasksFit p n.tasks xs s.tasks) e h.node.tasks)))
      refl refl
      (lives _ _ s.tasks s.requests t.process t.number None h.ways
      (λ q. sym (ap (call_messages t.process q t.number) there ∙ no_call (task_at p cell place (stage.Ready o)) refl t.process q t.number)))
      refl (λ y i. i);
}

pub run_left : (w : Net) (p : ℕ) (n : Node) (s : State) (step : Stepped) → IsReached s → s.ending ≡ None → ((q : ℕ) → (q == p) ≡ false → NodeFits q (w.nodes q) s) → Here w p n s
    → node.ran p n n.ready ≡ Some step → Left w p s step
run_left w p n s step a running others h e = by_ready n.ready refl e
  where
    by_stage : (t : TaskId) (rest : List TaskId) (k : RunningTask) (st : Stage) → n.ready ≡ t ∷ rest → n.tasks t.process t.number ≡ Some k → k.stage ≡ st
        → node.ran_from p (handed_out n t rest) t k st ≡ Some step → Left w p s step
    by_stage t rest k (stage.Waits c) er et es h2 = cc
    by_stage t rest k (stage.Prints vs) er et es h2 = cc
    by_stage t rest k (stage.Ready o) er et es h2 =
        let there : s.tasks t.process t.number ≡ Some (task_at p k.cell k.place (stage.Ready o)) =
        shown_is p (s.tasks t.process t.number) k (sym (h.node.tasks.same t.process t.number) ∙ et) ∙ ap (λ (z : Stage). Some (task_at p k.cell k.place z)) es in
        let work = at_work w p n s t rest k.cell k.place o a running h er there in
        let turn = advance k.place o in
        subst (Left w p s) (some_same _ _ h2)
        (goes_on w p (handed_out n t rest) s t k.cell k.place o turn.0 turn.1 others work
        (ran_state s t p (task_at p k.cell k.place (stage.Ready o)) k.place o (record { there = there; home = refl; life = refl })))

    by_task : (t : TaskId) (rest : List TaskId) (x : Option RunningTask) → n.ready ≡ t ∷ rest → n.tasks t.process t.number ≡ x → node.ran_task p n rest t x ≡ Some step → Left w p s step
    by_task t rest None er et h2 = cc
    by_task t rest (Some k) er et h2 = by_stage t rest k k.stage er et refl h2

    by_ready : (xs : List TaskId) → n.ready ≡ xs → node.ran p n xs ≡ Some step → Left w p s step
    by_ready [] er h2 = cc
    by_ready (t ∷ rest) er h2 = by_task t rest (n.tasks t.process t.number) er refl h2

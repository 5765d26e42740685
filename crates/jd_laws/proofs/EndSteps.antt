-- A task ends.
use Rattle.std.proofs.Common.{◌≡◌, ℕ, ◌+◌, ◌<◌, ◌≤◌, ◌==◌, List, [], ◌∷◌, ◌++◌, Option, Some, None, Bool, true, false, not, ◌&&◌, refl, arith, ap, sym, subst, ◌∙◌, if◌then◌else◌}
use Rattle.std.specs.Prelude.{filter}
use Rattle.std.proofs.lemmas.Bool.Decides.{nat_tests}
use Rattle.jd_value.specs.declared.reference.RefId.{RefId}
use Rattle.jd_task.specs.declared.job.TaskId.{TaskId}
use Rattle.jd_task.specs.declared.place.Place.{Place}
use Rattle.jd_task.specs.declared.msg.Msg.{Msg}
use Rattle.jd_model.specs.Outcome.{Outcome}
use Rattle.jd_model.specs.declared.life.Stage.TheVariants as stage
use Rattle.jd_model.specs.declared.life.Life.TheVariants.{Over}
use Rattle.jd_model.specs.declared.mark.Effect.{Effect}
use Rattle.jd_model.specs.declared.mark.Effect.TheVariants.{Ran}
use Rattle.jd_model.specs.Table.{put2, put3, count, All}
use Rattle.jd_laws.proofs.Basics.{not_is, is_false, test_self, at_put3, put3-same, count-append, all-append, all-filter, all-zip, all-passed, count-split}
use Rattle.std.proofs.Common.{append-nil, append_assoc}
use Rattle.jd_model.specs.Asking.{is_known}
use Rattle.jd_model.specs.Machine.{State, Task, Request, joined, outcome_of, does, after, with_life, refreshed, set_cell, settled, first_of, passed_on, is_same, is_task}
use Rattle.jd_model.specs.Node as node
use Rattle.jd_model.specs.Node.{Node, Running as RunningTask, Stepped, Waiting, with_cell, stored_at, then_woken}
use Rattle.jd_model.specs.World.{Net}
use Rattle.jd_model.specs.Refines.{IsUnset, is_waiting, is_fetch}
use Rattle.jd_laws.proofs.Sound.{after_reached}
use Rattle.jd_laws.proofs.Fits.{NodeFits, WaysFit, runs_at, tasks_alike, ways_same}
use Rattle.jd_laws.proofs.Licences.{cell_is, cell_self, waiting_licence}
use Rattle.jd_laws.proofs.NodeParts.{node_rest, state_rest, node_tasks, node_cell, state_cells, node_refreshed}
use Rattle.jd_laws.proofs.Here.{Steps, way_from, wait_from, way_kept, goes, here_kept}
use Rattle.jd_laws.proofs.AtWork.{AtWork, task_at, out_state, runnable_at, still_running}
use Rattle.jd_laws.proofs.Waking.{rest_from, wake_all}
use Rattle.jd_laws.proofs.Effects.{mark}

-- Each that waits at a process waits for a cell of it.
pub waiting_owners : (u : ℕ → ℕ → List Msg) (v : ℕ → List Waiting) (tasks : ℕ → ℕ → Option Task) (requests : ℕ → ℕ → Option Request) (q : ℕ) → WaysFit u v tasks requests
    → All (λ (x : Waiting). x.cell.owner ≡ q) (v q)
waiting_owners u v tasks requests q a = each (v q) (λ f. omega arith)
  where
    each : (xs : List Waiting) → ((f : Waiting → Bool) → count f xs ≤ count f (v q)) → All (λ (x : Waiting). x.cell.owner ≡ q) xs
    each [] within = tt
    each (x ∷ xs) within =
        let f = is_waiting x.ask.process x.ask.number x.cell.maker x.cell.number x.cell.owner in
        let self : f x ≡ true = rw (test_self x.ask.process, test_self x.ask.number, cell_self x.cell) refl in
        let some : 0 < count f (v q) = (let most = within f in grind (arith, most, self)) in
        ((waiting_licence u v tasks requests x.ask.process q x.ask.number x.cell a some).0, each xs (λ g. let most = within g in omega arith))

-- Only the numbers of those that wait matter.
pub ways_counts : (u : ℕ → ℕ → List Msg) (v z : ℕ → List Waiting) (tasks : ℕ → ℕ → Option Task) (requests : ℕ → ℕ → Option Request)
    → ((q : ℕ) (f : Waiting → Bool) → count f (z q) ≡ count f (v q)) → WaysFit u v tasks requests → WaysFit u z tasks requests
ways_counts u v z tasks requests e a = record {
  call = a.call;
  fetch = λ p c m i o. ap (λ k. count (is_fetch c m i o) (u p o) + k) (e o (is_waiting p c m i o)) ∙ a.fetch p c m i o;
  fetch_owner = λ p q c m i o ne. ap (λ k. count (is_fetch c m i o) (u p q) + k) (e q (is_waiting p c m i o)) ∙ a.fetch_owner p q c m i o ne;
  reply = a.reply;
  own = a.own;
  away = a.away;
}

-- Effects before a waking stay before those of the waking.
pub woken_behind : (p : ℕ) (r : RefId) (v : Outcome) (ws : List Waiting) (es : List Effect) (n : Node) (fs : List Effect)
    → then_woken p r v ws (record { node = n; effects = es ++ fs }) ≡ node.behind es (then_woken p r v ws (record { node = n; effects = fs }))
woken_behind p r v [] es n fs = refl
woken_behind p r v (x ∷ xs) es n fs =
    let one = node.woken p n x.ask v in
    let rest = λ (m : Node) (gs : List Effect). woken_behind p r v xs es m gs in
    elim (is_same r x.cell) as (λ b. then_woken p r v xs (if b then node.behind (es ++ fs) one else record { node = n; effects = es ++ fs })
    ≡ node.behind es (then_woken p r v xs (if b then node.behind fs one else record { node = n; effects = fs }))) [
      | true ↦ ap (λ gs. then_woken p r v xs (record { node = one.node; effects = gs })) (append_assoc es fs one.effects) ∙ rest one.node (fs ++ one.effects)
      | false ↦ rest n fs
    ]

-- The machine without the task's life.
abbrev pub ended_state : ℕ → State → TaskId → Option RefId → Place → Outcome → State
ended_state p s t cell place o = record (with_life s t (task_at p cell place (stage.Ready o)) Over) { running = filter (λ u. not (is_task t u)) s.running }

module _ (w : Net) (p : ℕ) (n : Node) (s : State) (t : TaskId) (r : RefId) (place : Place) (o : Outcome) (v : Outcome) (a : AtWork w p n s t (Some r) place o)
    (d : does s (Ran t) ≡ refreshed (set_cell (ended_state p s t (Some r) place o) r (passed_on p v)) p) where
  owner : r.owner ≡ p
  owner = a.reached.cell_home t.process t.number (task_at p (Some r) place (stage.Ready o)) r a.there refl

  known_here : is_known s.workers p ≡ true
  known_here = a.reached.homes t.process t.number (task_at p (Some r) place (stage.Ready o)) a.there

  abbrev gone_task : Task
  gone_task = record { home = p; cell = Some r; life = Over }

  abbrev ended : State
  ended = ended_state p s t (Some r) place o

  abbrev after_it : State
  after_it = refreshed (set_cell ended r (passed_on p v)) p

  one_mark : after (Some s) (mark (Ran t) p ∷ []) ≡ Some after_it
  one_mark = goes s (mark (Ran t) p) after_it [] after_it (runnable_at w p n s t (Some r) place o a) d refl

  stored_is : stored_at n r ≡ outcome_of s r
  stored_is = ap (λ q. joined (n.cells r.maker r.number q)) owner ∙ a.here.node.stored r.maker r.number ∙ ap (λ q. joined (s.cells r.maker r.number q)) (sym owner)

  nothing : (b : Bool) → (if b then None else None) ≡ (let x : Option RunningTask = None in x)
  nothing true = refl
  nothing false = refl

  ended_node : NodeFits p n ended
  ended_node =
      let tasks = put2 s.tasks t.process t.number (Some gone_task) in
      let same = λ (i j : ℕ). elim (i == t.process && j == t.number) as (λ b. runs_at p (if b then Some gone_task else s.tasks i j) ≡ runs_at p (if b then None else s.tasks i j)) [
        | true ↦ nothing (p == p)
        | false ↦ refl
      ] in
      state_rest p n (record s { tasks = tasks }) (filter (λ u. not (is_task t u)) s.running) s.lines s.ending
      (node_tasks p n (out_state s t) n.tasks n.ready tasks a.here.node (tasks_alike p n.tasks n.ready (put2 s.tasks t.process t.number None) tasks same a.here.node.tasks))

  ended_ways : WaysFit (way_from w p n) (wait_from w p n) (put2 s.tasks t.process t.number (Some gone_task)) s.requests
  ended_ways = still_running _ _ s.tasks s.requests t gone_task a.here.ways refl

  -- the cell's outcome stays, where it had one
  pub end_set : (old : Outcome) → stored_at n r ≡ Some old → Steps w p s n (Ran t ∷ [])
  end_set old set = record {
    state = after_it;
    replay = one_mark;
    running = a.running;
    here = here_kept w p n n (out_state s t) after_it a.here
        (node_refreshed p n _ (state_cells p n ended (put3 s.cells r.maker r.number r.owner (settled (s.cells r.maker r.number r.owner) (passed_on p v))) ended_node same))
        refl refl ended_ways refl (λ y h. same y.cell.maker y.cell.number y.cell.owner ∙ h);
  }
    where
      there : outcome_of s r ≡ Some old
      there = sym stored_is ∙ set

      same : (m i k : ℕ) → joined (put3 s.cells r.maker r.number r.owner (settled (s.cells r.maker r.number r.owner) (passed_on p v)) m i k) ≡ joined (s.cells m i k)
      same m i k = at_put3 s.cells r.maker r.number r.owner (settled (s.cells r.maker r.number r.owner) (passed_on p v)) m i k (λ z. joined z ≡ joined (s.cells m i k))
          (λ em ei ek. ap (λ c. Some (first_of c (passed_on p v))) there ∙ sym (ap joined (λ j. s.cells (em j) (ei j) (ek j)) ∙ there))
          (λ _. refl)

  -- else it gets this one, and those that wait for it are answered
  pub end_sets : stored_at n r ≡ None → Steps w p s (node.set_at p n r (passed_on p v)).node (Ran t ∷ (node.set_at p n r (passed_on p v)).effects)
  end_sets unset =
      subst (λ (z : Stepped). Steps w p s z.node z.effects) (woken_behind p r (passed_on p v) n.waiting (Ran t ∷ []) set_node [])
      (wake_all w p s r (passed_on p v) n.waiting (record { node = set_node; effects = Ran t ∷ [] }) owner (record {
        state = after_it;
        replay = one_mark;
        running = a.running;
        reached = after_reached s (mark (Ran t) p ∷ []) after_it a.reached one_mark;
        node = node_refreshed p set_node _ (node_rest p _ _ n.outbox set_node.waiting
            (node_cell p n ended r (settled (n.cells r.maker r.number r.owner) (passed_on p v)) (settled (s.cells r.maker r.number r.owner) (passed_on p v)) ended_node owner
            (ap (λ c. Some (first_of c (passed_on p v))) stored_is) (λ x h. ap (λ c. Some (first_of c (passed_on p v))) h)));
        ways = ways_same (way_from w p n) (way_from w p set_node) matched_rest matched_rest _ _ _ _ (way_kept w p n set_node refl) (λ q. refl) (λ i j. refl) (λ i j. refl)
            (ways_counts _ (wait_from w p n) matched_rest _ _ counts ended_ways);
        mail = record { mail = λ i j e. way_kept w p n set_node refl i j ∙ a.here.mail.mail i j e; askers = askers };
        unset = still_unset;
        outcome = ap joined (put3-same s.cells r.maker r.number r.owner (settled (s.cells r.maker r.number r.owner) (passed_on p v))) ∙ ap (λ c. Some (first_of c (passed_on p v))) none;
        known = known_here;
      }))
    where
      none : outcome_of s r ≡ None
      none = sym stored_is ∙ unset

      set_node : Node
      set_node = record (with_cell n r (settled (n.cells r.maker r.number r.owner) (passed_on p v))) { waiting = filter (λ x. not (is_same r x.cell)) n.waiting }

      matched_rest : ℕ → List Waiting
      matched_rest = rest_from w p set_node (filter (λ x. is_same r x.cell) n.waiting)

      counts : (q : ℕ) (f : Waiting → Bool) → count f (matched_rest q) ≡ count f (wait_from w p n q)
      counts q f = elim (q == p) as (λ b. count f ((if b then set_node else w.nodes q).waiting ++ (if b then filter (λ x. is_same r x.cell) n.waiting else [])) ≡ count f ((if b then n else w.nodes q).waiting)) [
        | true ↦ count-append f set_node.waiting (filter (λ x. is_same r x.cell) n.waiting) ∙ count-split f (λ (x : Waiting). is_same r x.cell) n.waiting
        | false ↦ ap (count f) (append-nil (w.nodes q).waiting)
      ]

      IsAsker : Waiting → Type 0
      IsAsker x = is_known s.workers x.ask.process ≡ true

      askers : (q : ℕ) → All IsAsker (matched_rest q)
      askers q = elim (q == p) as (λ b. All IsAsker ((if b then n else w.nodes q).waiting) → All IsAsker ((if b then set_node else w.nodes q).waiting ++ (if b then filter (λ x. is_same r x.cell) n.waiting else []))) [
        | true ↦ λ h. all-append IsAsker set_node.waiting (filter (λ x. is_same r x.cell) n.waiting) (all-filter IsAsker (λ x. not (is_same r x.cell)) n.waiting h) (all-filter IsAsker (λ x. is_same r x.cell) n.waiting h)
        | false ↦ λ h. subst (All IsAsker) (sym (append-nil (w.nodes q).waiting)) h
      ] (a.here.mail.askers q)

      other_cell : (y : Waiting) → is_same r y.cell ≡ false → IsUnset s y → IsUnset after_it y
      other_cell y other h = at_put3 s.cells r.maker r.number r.owner (settled (s.cells r.maker r.number r.owner) (passed_on p v)) y.cell.maker y.cell.number y.cell.owner (λ z. joined z ≡ None)
          (λ em ei eo. let same : is_same r y.cell ≡ true = (let e : y.cell ≡ r = λ j. record { maker = em j; number = ei j; owner = eo j } in ap (is_same r) e ∙ cell_self r) in cc)
          (λ _. h)

      still_unset : (q : ℕ) → All (IsUnset after_it) (wait_from w p set_node q)
      still_unset q = by_process (q == p) refl (a.here.unset q)
        where
          by_process : (b : Bool) → (q == p) ≡ b → All (IsUnset s) ((if b then n else w.nodes q).waiting) → All (IsUnset after_it) ((if b then set_node else w.nodes q).waiting)
          by_process true e h = all-passed (IsUnset s) (IsUnset after_it) (λ x. not (is_same r x.cell)) n.waiting (λ y other i. other_cell y (not_is (is_same r y.cell) other) i) h
          by_process false e h =
              let owners = waiting_owners (way_from w p n) (wait_from w p n) _ _ q a.here.ways in
              let here : All (λ (x : Waiting). x.cell.owner ≡ q) (w.nodes q).waiting = subst (All (λ (x : Waiting). x.cell.owner ≡ q)) (ap (λ (b : Bool). (if b then n else w.nodes q).waiting) e) owners in
              all-zip (IsUnset s) (λ (x : Waiting). x.cell.owner ≡ q) (IsUnset after_it) (w.nodes q).waiting
              (λ y i own. other_cell y (is_false (is_same r y.cell) (λ same. let there : y.cell.owner ≡ r.owner = ap (λ (z : RefId). z.owner) (cell_is y.cell r same) in grind (arith, nat_tests, there, own, owner, e))) i)
              h here

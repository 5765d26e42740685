-- A task goes on to a fetch.
use Rattle.std.proofs.Common.{◌≡◌, ℕ, ◌+◌, ◌==◌, [], ◌∷◌, ◌++◌, Option, Some, None, true, false, is_some, refl, arith, ap, sym, ◌∙◌}
use Rattle.jd_value.specs.declared.reference.RefId.{RefId}
use Rattle.jd_task.specs.declared.job.TaskId.{TaskId}
use Rattle.jd_task.specs.declared.place.Place.{Place}
use Rattle.jd_task.specs.declared.msg.Msg.TheVariants.{Fetch}
use Rattle.jd_model.specs.Outcome.{Outcome}
use Rattle.jd_model.specs.declared.life.Stage.TheVariants as stage
use Rattle.jd_model.specs.declared.life.Life.TheVariants.{Running}
use Rattle.jd_model.specs.declared.life.Answer.TheVariants.{Kept, Given}
use Rattle.jd_model.specs.declared.mark.Effect.TheVariants.{Ran, Took, Returned, Local}
use Rattle.jd_model.specs.Table.{put, put2, All}
use Rattle.jd_laws.proofs.Basics.{both, at_put, put2-same, all-append}
use Rattle.jd_model.specs.Asking.{is_known}
use Rattle.jd_model.specs.Machine as machine
use Rattle.jd_model.specs.Machine.{State, Task, Request, joined, outcome_of, legal, does, after, with_life, refreshed, has, gives, is_same, occurs}
use Rattle.jd_model.specs.Node as node
use Rattle.jd_model.specs.Node.{Node, Stepped, Waiting, readied, learnt, cached_at, stored_at, send}
use Rattle.jd_model.specs.World.{Net}
use Rattle.jd_model.specs.Refines.{IsUnset}
use Rattle.jd_laws.proofs.Changes.{with_answer}
use Rattle.jd_laws.proofs.Reached.{IsReached}
use Rattle.jd_laws.proofs.Effects.{IsTakable, IsWaiting, look_legal, take_legal, return_legal, looked_state, took_state, returned_state, mark}
use Rattle.jd_laws.proofs.Sound.{after_reached}
use Rattle.jd_laws.proofs.Fits.{NodeFits, WaysFit, IsCached, Same, opens, ways_same, put2-twice}
use Rattle.jd_laws.proofs.RequestWays.{new_request, entry, fetch_leaves, fetch_waits, fetch_given}
use Rattle.jd_laws.proofs.NodeParts.{node_rest, node_tasks, node_ask, node_request, node_asked, node_fetched, node_refreshed, node_learnt, learnt_cached, learnt_same, not_fetched, state_same, all_refreshed, all_given}
use Rattle.jd_laws.proofs.Here.{Steps, way_from, wait_from, way_kept, way_sent, wait_kept, wait_added, goes, mail_put, mail_wait, here_by, here_kept}
use Rattle.jd_laws.proofs.AtWork.{AtWork, task_at, out_state, runnable_at, still_running, ready_tasks, rest_tasks}

-- The machine once the task asks for the outcome of r, by the request of this number.
abbrev pub asked_state : ℕ → State → TaskId → Option RefId → Place → Outcome → Place → RefId → ℕ → State
asked_state p s t cell place o x r c = machine.asks_for s t (task_at p cell place (stage.Ready o)) x r c

module _ (w : Net) (p : ℕ) (n : Node) (s : State) (t : TaskId) (cell : Option RefId) (place : Place) (o : Outcome) (x : Place) (r : RefId) (c : ℕ)
    (a : AtWork w p n s t cell place o) (number : c ≡ s.asked p + 1) (d : does s (Ran t) ≡ refreshed (asked_state p s t cell place o x r c) p) where
  fresh : s.requests p c ≡ None
  fresh = a.reached.no_request p c (omega arith)

  known_here : is_known s.workers p ≡ true
  known_here = a.reached.homes t.process t.number (task_at p cell place (stage.Ready o)) a.there

  one_mark : after (Some s) (mark (Ran t) p ∷ []) ≡ Some (refreshed (asked_state p s t cell place o x r c) p)
  one_mark = goes s (mark (Ran t) p) (refreshed (asked_state p s t cell place o x r c) p) [] _ (runnable_at w p n s t cell place o a) d refl

  asked_reached : IsReached (refreshed (asked_state p s t cell place o x r c) p)
  asked_reached = after_reached s (mark (Ran t) p ∷ []) _ a.reached one_mark

  counted : NodeFits p (record n { asked = c }) (record (out_state s t) { asked = put s.asked p c })
  counted = node_asked p n (out_state s t) c a.here.node

  -- the task waits, and its request is open
  waiting_node : NodeFits p (record (node.rests (record n { asked = c }) t cell x (stage.Waits c)) { asks = put n.asks c (Some (record { task = t; cell = r })) })
      (refreshed (asked_state p s t cell place o x r c) p)
  waiting_node =
      let m = node.rests (record n { asked = c }) t cell x (stage.Waits c) in
      let u = record (out_state s t) { asked = put s.asked p c } in
      let tasks = put2 s.tasks t.process t.number (Some (task_at p cell x (stage.Waits c))) in
      let there = node_tasks p (record n { asked = c }) u m.tasks n.ready tasks counted (rest_tasks p n s t cell x (stage.Waits c) a.here.node refl) in
      node_refreshed p _ _ (node_ask p m (record u { tasks = tasks }) c (Some (record { task = t; cell = r })) (Some (new_request t r (has (s.fetched p) r))) there refl)

  waiting_ways : WaysFit (way_from w p n) (wait_from w p n) (asked_state p s t cell place o x r c).tasks s.requests
  waiting_ways = still_running _ _ s.tasks s.requests t (task_at p cell x (stage.Waits c)) a.here.ways refl

  -- it is asked of another process
  pub fetch_there : cached_at n r ≡ None → (p == r.owner) ≡ false → is_known s.workers r.owner ≡ true
      → Steps w p s (node.fetched_there (record n { asked = c }) t cell x r c).node (Ran t ∷ [])
  fetch_there none other known = record {
    state = refreshed (asked_state p s t cell place o x r c) p;
    replay = one_mark;
    running = a.running;
    here = here_by w p (node.fetched_there (record n { asked = c }) t cell x r c).node _ (put2 (way_from w p n) p r.owner (way_from w p n p r.owner ++ Fetch c r ∷ [])) (wait_from w p n)
        (node_rest p _ _ (put n.outbox r.owner (n.outbox r.owner ++ Fetch c r ∷ [])) n.waiting waiting_node)
        (way_sent w p n (node.fetched_there (record n { asked = c }) t cell x r c).node r.owner (Fetch c r) refl)
        (wait_kept w p n (node.fetched_there (record n { asked = c }) t cell x r c).node refl)
        (fetch_leaves _ _ _ s.requests p c t r (has (s.fetched p) r) waiting_ways other fresh (not_fetched p n (out_state s t) r a.here.node none))
        (mail_put _ _ s.workers p r.owner _ a.here.mail (both _ _ known_here known))
        a.here.unset;
  }

  stored_here : r.owner ≡ p → stored_at n r ≡ outcome_of s r
  stored_here owner = ap (λ q. joined (n.cells r.maker r.number q)) owner ∙ a.here.node.stored r.maker r.number ∙ ap (λ q. joined (s.cells r.maker r.number q)) (sym owner)

  -- it waits here
  pub fetch_here : cached_at n r ≡ None → r.owner ≡ p → stored_at n r ≡ None
      → Steps w p s (node.fetched_own p (record n { asked = c }) t cell x r c None).node (Ran t ∷ [])
  fetch_here none owner unset = record {
    state = refreshed (asked_state p s t cell place o x r c) p;
    replay = one_mark;
    running = a.running;
    here = here_by w p (node.fetched_own p (record n { asked = c }) t cell x r c None).node _ (way_from w p n) (put (wait_from w p n) p (wait_from w p n p ++ entry p c r ∷ []))
        (node_rest p _ _ n.outbox (n.waiting ++ entry p c r ∷ []) waiting_node)
        (way_kept w p n (node.fetched_own p (record n { asked = c }) t cell x r c None).node refl)
        (wait_added w p n (node.fetched_own p (record n { asked = c }) t cell x r c None).node (entry p c r) refl)
        (fetch_waits _ _ _ s.requests p c t r (has (s.fetched p) r) waiting_ways owner fresh (not_fetched p n (out_state s t) r a.here.node none))
        (mail_wait _ _ s.workers p (entry p c r) a.here.mail known_here)
        (λ q. at_put (wait_from w p n) p (wait_from w p n p ++ entry p c r ∷ []) q (All (IsUnset s)) (λ _. all-append (IsUnset s) (wait_from w p n p) (entry p c r ∷ []) (a.here.unset p) (sym (stored_here owner) ∙ unset, tt)) (λ _. a.here.unset q));
  }

  -- the task goes on at once
  ready_node : (v : Outcome) → NodeFits p (readied (record n { asked = c }) t cell x v)
      (record (with_life s t (task_at p cell place (stage.Ready o)) (Running x (stage.Ready v))) { asked = put s.asked p c; requests = put2 s.requests p c (Some (record (new_request t r (has (s.fetched p) r)) { answer = Given })) })
  ready_node v =
      let m = readied (record n { asked = c }) t cell x v in
      let u = record (out_state s t) { asked = put s.asked p c } in
      let tasks = put2 s.tasks t.process t.number (Some (task_at p cell x (stage.Ready v))) in
      let there = node_tasks p (record n { asked = c }) u m.tasks m.ready tasks counted (ready_tasks p n s t cell x v a.here.node) in
      node_request p m (record u { tasks = tasks }) p c (Some (record (new_request t r (has (s.fetched p) r)) { answer = Given })) there (ap opens (sym fresh))

  given_ways : (v : Outcome) → WaysFit (way_from w p n) (wait_from w p n) (put2 s.tasks t.process t.number (Some (task_at p cell x (stage.Ready v))))
      (put2 s.requests p c (Some (record (new_request t r (has (s.fetched p) r)) { answer = Given })))
  given_ways v = fetch_given _ _ _ s.requests p c (record (new_request t r (has (s.fetched p) r)) { answer = Given })
      (still_running _ _ s.tasks s.requests t (task_at p cell x (stage.Ready v)) a.here.ways refl) fresh refl

  -- it was fetched before
  pub fetch_cached : (v : Outcome) → cached_at n r ≡ Some v → Steps w p s (readied (record n { asked = c }) t cell x v) (Ran t ∷ Local t ∷ [])
  fetch_cached v cached =
      record {
        state = u2;
        replay = goes s (mark (Ran t) p) u1 (mark (Local t) p ∷ []) u2 (runnable_at w p n s t cell place o a) d
            (goes u1 (mark (Local t) p) u2 [] u2 (look_legal u1 t p k1 x c q1 v asked_reached a.running waits refl outcome) (looked_state u1 t p k1 x c q1 v waits outcome) refl);
        running = a.running;
        here = here_kept w p n m (out_state s t) u2 a.here
            (node_fetched p m _ u2.fetched (state_same p m _ u2.tasks u2.requests (ready_node v) same_tasks same_requests) fetched)
            refl refl (ways_same _ _ _ _ _ u2.tasks _ u2.requests (λ i j. refl) (λ q. refl) same_tasks same_requests (given_ways v)) refl (λ y h. h);
      }
    where
      m : Node
      m = readied (record n { asked = c }) t cell x v

      q1 : Request
      q1 = new_request t r (has (s.fetched p) r)

      k1 : Task
      k1 = task_at p cell x (stage.Waits c)

      u1 : State
      u1 = refreshed (asked_state p s t cell place o x r c) p

      u2 : State
      u2 = gives u1 t k1 x c q1 (Some v)

      waits : IsWaiting u1 t p k1 x c q1
      waits = record { there = put2-same s.tasks t.process t.number (Some k1); home = refl; life = refl; request = put2-same s.requests p c (Some q1) }

      outcome : outcome_of s r ≡ Some v
      outcome = a.here.node.cache r.maker r.number r.owner v cached

      same_tasks : Same u2.tasks (put2 s.tasks t.process t.number (Some (task_at p cell x (stage.Ready v))))
      same_tasks = put2-twice s.tasks t.process t.number (Some k1) (Some (task_at p cell x (stage.Ready v)))

      same_requests : Same u2.requests (put2 s.requests p c (Some (record q1 { answer = Given })))
      same_requests = put2-twice s.requests p c (Some q1) (Some (record q1 { answer = Given }))

      fetched : All (IsCached n) (u2.fetched p)
      fetched =
          let C : RefId → Type 0 = IsCached n in
          let first = all_refreshed C s.fetched p (occurs (asked_state p s t cell place o x r c) p) a.here.node.fetched in
          let more = all_given C u1.fetched p r first (ap is_some cached) in
          all_refreshed C (put u1.fetched p (machine.add_once (u1.fetched p) r)) p _ more

  -- its outcome is stored here
  pub fetch_stored : (v : Outcome) → cached_at n r ≡ None → r.owner ≡ p → stored_at n r ≡ Some v
      → Steps w p s (learnt (readied (record n { asked = c }) t cell x v) r v) (Ran t ∷ Took (record { process = p; number = c }) ∷ Returned t ∷ [])
  fetch_stored v none owner stored =
      record {
        state = u3;
        replay = goes s (mark (Ran t) p) u1 (mark (Took (record { process = p; number = c })) p ∷ mark (Returned t) p ∷ []) u3 (runnable_at w p n s t cell place o a) d
            (goes u1 (mark (Took (record { process = p; number = c })) p) u2 (mark (Returned t) p ∷ []) u3 take_ok (took_state u1 p c p q1 v takes)
            (goes u2 (mark (Returned t) p) u3 [] u3 (return_legal u2 t p k1 x c q2 v took_reached a.running waits refl) (returned_state u2 t p k1 x c q2 v waits refl) refl));
        running = a.running;
        here = here_kept w p n m (out_state s t) u3 a.here
            (node_fetched p m _ u3.fetched (node_learnt p base _ r v (state_same p base _ u3.tasks u3.requests (ready_node v) same_tasks same_requests) outcome) fetched)
            (learnt_same (λ (z : Node). z.outbox) base r v (λ _. refl)) (learnt_same (λ (z : Node). z.waiting) base r v (λ _. refl))
            (ways_same _ _ _ _ _ u3.tasks _ u3.requests (λ i j. refl) (λ q. refl) same_tasks same_requests (given_ways v)) refl (λ y h. h);
      }
    where
      base : Node
      base = readied (record n { asked = c }) t cell x v

      m : Node
      m = learnt base r v

      q1 : Request
      q1 = new_request t r (has (s.fetched p) r)

      q2 : Request
      q2 = record q1 { answer = Kept v }

      k1 : Task
      k1 = task_at p cell x (stage.Waits c)

      u1 : State
      u1 = refreshed (asked_state p s t cell place o x r c) p

      u2 : State
      u2 = with_answer u1 p c q1 (Kept v)

      u3 : State
      u3 = gives u2 t k1 x c q2 (Some v)

      outcome : outcome_of s r ≡ Some v
      outcome = sym (stored_here owner) ∙ stored

      takes : IsTakable u1 p c p q1 v
      takes = record { there = put2-same s.requests p c (Some q1); owner = owner; asked = refl; away = not_fetched p n (out_state s t) r a.here.node none; outcome = outcome }

      take_ok : legal u1 (mark (Took (record { process = p; number = c })) p) ≡ true
      take_ok = take_legal u1 p c p q1 v asked_reached a.running takes

      took_reached : IsReached u2
      took_reached = after_reached u1 (mark (Took (record { process = p; number = c })) p ∷ []) u2 asked_reached
          (goes u1 (mark (Took (record { process = p; number = c })) p) u2 [] u2 take_ok (took_state u1 p c p q1 v takes) refl)

      waits : IsWaiting u2 t p k1 x c q2
      waits = record { there = put2-same s.tasks t.process t.number (Some k1); home = refl; life = refl; request = put2-same u1.requests p c (Some q2) }

      same_tasks : Same u3.tasks (put2 s.tasks t.process t.number (Some (task_at p cell x (stage.Ready v))))
      same_tasks = put2-twice s.tasks t.process t.number (Some k1) (Some (task_at p cell x (stage.Ready v)))

      same_requests : Same u3.requests (put2 s.requests p c (Some (record q1 { answer = Given })))
      same_requests i j = put2-twice u1.requests p c (Some q2) (Some (record q1 { answer = Given })) i j ∙ put2-twice s.requests p c (Some q1) (Some (record q1 { answer = Given })) i j

      fetched : All (IsCached m) (u3.fetched p)
      fetched =
          let C : RefId → Type 0 = IsCached m in
          let old = (node_learnt p base _ r v (ready_node v) outcome).fetched in
          let first = all_refreshed C s.fetched p (occurs (asked_state p s t cell place o x r c) p) old in
          let more = all_given C u1.fetched p r first (learnt_cached base r v) in
          all_refreshed C (put u1.fetched p (machine.add_once (u1.fetched p) r)) p _ more

-- A message arrives.
use Rattle.std.proofs.Common.{◌≡◌, ℕ, ◌+◌, ◌<◌, ◌==◌, List, [], ◌∷◌, ◌++◌, Option, Some, None, Bool, true, false, ◌&&◌, Ok, refl, arith, ap, sym, subst, ◌∙◌, if◌then◌else◌}
use Rattle.std.proofs.lemmas.Bool.Decides.{nat_tests}
use Rattle.jd_value.specs.declared.reference.RefId.{RefId}
use Rattle.jd_value.specs.declared.value.Value.{Value}
use Rattle.jd_value.specs.declared.value.Value.TheVariants.{Nothing}
use Rattle.jd_task.specs.declared.job.TaskId.{TaskId}
use Rattle.jd_task.specs.declared.closure.Closure.{Closure}
use Rattle.jd_task.specs.declared.place.Place.{Place}
use Rattle.jd_task.specs.declared.msg.Msg.{Msg}
use Rattle.jd_task.specs.declared.msg.Msg.TheVariants.{Begin, Call, Fetch, Reply}
use Rattle.jd_task.specs.Places.{called_place}
use Rattle.jd_model.specs.Outcome.{Outcome}
use Rattle.jd_model.specs.declared.life.Stage.TheVariants as stage
use Rattle.jd_model.specs.declared.life.Life.TheVariants.{Called}
use Rattle.jd_model.specs.declared.life.Answer.TheVariants.{Kept, Given}
use Rattle.jd_model.specs.declared.mark.Effect.TheVariants.{Started, Took, Returned}
use Rattle.jd_model.specs.Table.{put, put2, one, count, All}
use Rattle.jd_laws.proofs.Basics.{and_left, and_right, both, same_test, test_self, at_put, at_put3, put-same, count-snoc, all-append}
use Rattle.jd_model.specs.Asking.{is_known}
use Rattle.jd_model.specs.Machine.{State, Task, Request, joined, outcome_of, gives, is_asked}
use Rattle.jd_model.specs.Node as node
use Rattle.jd_model.specs.Node.{Node, Stepped, Waiting, OpenAsk, delivered, readied, with_cell, send, stored_at}
use Rattle.jd_model.specs.World.{Net, off_link}
use Rattle.jd_model.specs.Refines.{IsUnset, way, open_by, is_waiting, is_ready}
use Rattle.jd_laws.proofs.Changes.{with_answer}
use Rattle.jd_laws.proofs.Reached.{IsReached}
use Rattle.jd_laws.proofs.Effects.{IsStartable, IsTakable, IsWaiting, start_legal, start_state, started_state, take_legal, took_state, return_legal, returned_state, mark}
use Rattle.jd_laws.proofs.Fits.{WaysFit, MailFits, Fits, Same, runs_at, opens, put2_alike, readies}
use Rattle.jd_laws.proofs.Licences.{CallLicence, AskLicence, ReplyLicence, call_licence, waiting_licence, reply_licence, to_another, cell_self}
use Rattle.jd_laws.proofs.TaskWays.{begin_comes, call_comes}
use Rattle.jd_laws.proofs.RequestWays.{TakenOut, entry, fetch_comes, reply_leaves, reply_comes}
use Rattle.jd_laws.proofs.NodeParts.{node_rest, state_rest, node_tasks, node_request, node_cells}
use Rattle.jd_laws.proofs.Here.{Steps, way_from, wait_from, way_kept, way_sent, wait_kept, wait_added, goes, mail_put, mail_wait, mail_known, here_by}
use Rattle.jd_laws.proofs.AtWork.{task_at, shown_at, shows}
use Rattle.jd_laws.proofs.Answered.{Waiter, waiter, answered_node, answered_is, given_node, woken_ways, answered_outbox, answered_waiting}

module _ (w : Net) (p q : ℕ) (rest : List Msg) (s : State) (a : IsReached s) (running : s.ending ≡ None) (h : Fits w (λ x. (w.nodes x).waiting) s)
    (unset : (x : ℕ) → All (IsUnset s) (w.nodes x).waiting) where
  -- the process that the message comes to, and what is on its way behind the message
  abbrev at : Node
  at = w.nodes q

  abbrev left : List Msg
  left = rest ++ (w.nodes p).outbox q

  abbrev ways : ℕ → ℕ → List Msg
  ways = put2 (way w) p q left

  abbrev waits : ℕ → List Waiting
  waits x = (w.nodes x).waiting

  back : (x : ℕ) → put w.nodes q at x ≡ w.nodes x
  back x = at_put w.nodes q at x (λ z. z ≡ w.nodes x) (λ e. ap w.nodes (sym e)) (λ _. refl)

  same_ways : Same (way_from (off_link w p q rest) q at) ways
  same_ways x y = ap (λ (n : Node). put2 w.links p q rest x y ++ n.outbox y) (back x) ∙ by_test (x == p && y == q) refl
    where
      by_test : (b : Bool) → (x == p && y == q) ≡ b → (if b then rest else w.links x y) ++ (w.nodes x).outbox y ≡ (if b then left else way w x y)
      by_test true e =
          let ex = same_test x p (and_left _ _ e) in
          let ey = same_test y q (and_right (x == p) _ e) in
          λ j. rest ++ (w.nodes (ex j)).outbox (ey j)
      by_test false e = refl

  same_waits : (x : ℕ) → wait_from (off_link w p q rest) q at x ≡ waits x
  same_waits x = ap (λ (n : Node). n.waiting) (back x)

  there_ways : (m : Msg) → w.links p q ≡ m ∷ rest → way w p q ≡ m ∷ left
  there_ways m e = ap (λ ms. ms ++ (w.nodes p).outbox q) e

  known : (m : Msg) → w.links p q ≡ m ∷ rest → (is_known s.workers p && is_known s.workers q) ≡ true
  known m e = mail_known (way w) waits s.workers p q m left h.mail (there_ways m e)

  mail_left : (m : Msg) → w.links p q ≡ m ∷ rest → MailFits ways waits s.workers
  mail_left m e = mail_put (way w) waits s.workers p q left h.mail (known m e)

  -- a cell is announced
  pub begin_arrives : (r : RefId) → w.links p q ≡ Begin r ∷ rest → Steps (off_link w p q rest) q s (delivered p (Begin r) at).node (delivered p (Begin r) at).effects
  begin_arrives r e = record {
    state = s;
    replay = refl;
    running = running;
    here = here_by (off_link w p q rest) q m s ways waits (node_cells q at s m.cells (h.nodes q) same)
        (λ x y. way_kept (off_link w p q rest) q at m refl x y ∙ same_ways x y) (λ x. wait_kept (off_link w p q rest) q at m refl x ∙ same_waits x)
        (begin_comes (way w) waits s.tasks s.requests p q r left h.ways (there_ways (Begin r) e)) (mail_left (Begin r) e) unset;
  }
    where
      m : Node
      m = with_cell at r (node.begun (at.cells r.maker r.number r.owner))

      begun_joined : (c : Option (Option Outcome)) → joined (node.begun c) ≡ joined c
      begun_joined None = refl
      begun_joined (Some c) = refl

      same : (i j k : ℕ) → joined (m.cells i j k) ≡ joined (at.cells i j k)
      same i j k = at_put3 at.cells r.maker r.number r.owner (node.begun (at.cells r.maker r.number r.owner)) i j k (λ z. joined z ≡ joined (at.cells i j k))
          (λ ei ej ek. begun_joined (at.cells r.maker r.number r.owner) ∙ ap joined (λ d. at.cells (sym ei d) (sym ej d) (sym ek d)))
          (λ _. refl)

  -- a task is called, and starts
  pub call_arrives : (r : RefId) (t : TaskId) (code : Closure) (args : List Value) → w.links p q ≡ Call r t code args ∷ rest
      → Steps (off_link w p q rest) q s (delivered p (Call r t code args) at).node (delivered p (Call r t code args) at).effects
  call_arrives r t code args e = record {
    state = u;
    replay = goes s (mark (Started t) q) u [] u (start_legal s t q new code args a running starts) (start_state s t q new code args starts) refl;
    running = running;
    here = here_by (off_link w p q rest) q m u ways waits
        (state_rest q m (record s { tasks = u.tasks }) u.running u.lines u.ending (node_tasks q at s m.tasks m.ready u.tasks (h.nodes q)
        (readies q at.tasks at.ready s.tasks t (shown_at (Some r) place (stage.Ready (Ok Nothing))) (Some (task_at q (Some r) place (stage.Ready (Ok Nothing)))) (h.nodes q).tasks idle (shows q (Some r) place (stage.Ready (Ok Nothing))) refl)))
        (λ x y. way_kept (off_link w p q rest) q at m refl x y ∙ same_ways x y) (λ x. wait_kept (off_link w p q rest) q at m refl x ∙ same_waits x)
        (call_comes (way w) waits s.tasks s.requests p q r t code args left (task_at q (Some r) place (stage.Ready (Ok Nothing))) h.ways (there_ways (Call r t code args) e) refl refl)
        (mail_left (Call r t code args) e) unset;
  }
    where
      place : Place
      place = called_place code args

      lic : CallLicence s.tasks p q r t code args left
      lic = call_licence (way w) waits s.tasks s.requests p q r t code args left h.ways (there_ways (Call r t code args) e)

      new : Task
      new = record { home = q; cell = Some r; life = Called code args }

      there : s.tasks t.process t.number ≡ Some new
      there = lic.there ∙ (λ j. Some (record { home = lic.home j; cell = lic.cell j; life = lic.life j }))

      starts : IsStartable s t q new code args
      starts = record { there = there; home = refl; life = refl }

      u : State
      u = started_state s t new code args

      m : Node
      m = readied at t (Some r) place (Ok Nothing)

      idle : is_ready (runs_at q (s.tasks t.process t.number)) ≡ false
      idle = ap (λ z. is_ready (runs_at q z)) there ∙ rw (test_self q) refl

  -- an outcome is asked for
  pub fetch_arrives : (c : ℕ) (r : RefId) → w.links p q ≡ Fetch c r ∷ rest → Steps (off_link w p q rest) q s (delivered p (Fetch c r) at).node (delivered p (Fetch c r) at).effects
  fetch_arrives c r e = by_store (stored_at at r) refl
    where
      more : ℕ → List Waiting
      more = put waits q (waits q ++ entry p c r ∷ [])

      come : WaysFit ways more s.tasks s.requests
      come = fetch_comes (way w) waits s.tasks s.requests p q c r left h.ways (there_ways (Fetch c r) e)

      some : 0 < count (is_waiting p c r.maker r.number r.owner) (more q)
      some =
          let f = is_waiting p c r.maker r.number r.owner in
          let all : count f (more q) ≡ count f (waits q) + one (f (entry p c r)) = ap (count f) (put-same waits q (waits q ++ entry p c r ∷ [])) ∙ count-snoc f (waits q) (entry p c r) in
          let self : f (entry p c r) ≡ true = rw (test_self p, test_self c, cell_self r) refl in
          grind (arith, all, self)

      licence : (owner : r.owner ≡ q) × AskLicence s.requests p c r
      licence = waiting_licence ways more s.tasks s.requests p q c r come some

      stored_is : stored_at at r ≡ outcome_of s r
      stored_is = ap (λ x. joined (at.cells r.maker r.number x)) licence.0 ∙ (h.nodes q).stored r.maker r.number ∙ ap (λ x. joined (s.cells r.maker r.number x)) (sym licence.0)

      known_asker : is_known s.workers p ≡ true
      known_asker = and_left (is_known s.workers p) (is_known s.workers q) (known (Fetch c r) e)

      known_owner : is_known s.workers q ≡ true
      known_owner = and_right (is_known s.workers p) (is_known s.workers q) (known (Fetch c r) e)

      by_store : (z : Option Outcome) → stored_at at r ≡ z → Steps (off_link w p q rest) q s (node.fetch_answered p c r at z).node (node.fetch_answered p c r at z).effects
      by_store None es = record {
        state = s;
        replay = refl;
        running = running;
        here = here_by (off_link w p q rest) q m s ways more (node_rest q at s at.outbox m.waiting (h.nodes q))
            (λ x y. way_kept (off_link w p q rest) q at m refl x y ∙ same_ways x y)
            (λ x. wait_added (off_link w p q rest) q at m (entry p c r) refl x ∙ added x)
            come
            (mail_wait ways waits s.workers q (entry p c r) (mail_left (Fetch c r) e) known_asker)
            (λ x. at_put waits q (waits q ++ entry p c r ∷ []) x (All (IsUnset s)) (λ _. all-append (IsUnset s) (waits q) (entry p c r ∷ []) (unset q) (sym stored_is ∙ es, tt)) (λ _. unset x));
      }
        where
          m : Node
          m = record at { waiting = at.waiting ++ entry p c r ∷ [] }

          added : (x : ℕ) → put (wait_from (off_link w p q rest) q at) q (wait_from (off_link w p q rest) q at q ++ entry p c r ∷ []) x ≡ more x
          added x = λ j. if x == q then same_waits q j ++ entry p c r ∷ [] else same_waits x j
      by_store (Some v) es = record {
        state = u;
        replay = goes s (mark (Took (record { process = p; number = c })) q) u [] u (take_legal s p c q k.request v a running takes) (took_state s p c q k.request v takes) refl;
        running = running;
        here = here_by (off_link w p q rest) q m u (put2 ways q p (ways q p ++ Reply c v ∷ [])) waits
            (node_request q m s p c (Some (record k.request { answer = Kept v })) (node_rest q at s m.outbox at.waiting (h.nodes q)) (sym (ap opens k.there ∙ ap (open_by k.request.task k.request.cell) k.asked)))
            (λ x y. way_sent (off_link w p q rest) q at m p (Reply c v) refl x y ∙ put2_alike (way_from (off_link w p q rest) q at) ways q p (Reply c v) same_ways x y)
            (λ x. wait_kept (off_link w p q rest) q at m refl x ∙ same_waits x)
            (reply_leaves ways more waits s.tasks s.requests p q c r v k come out licence.0 other)
            (mail_put ways waits s.workers q p _ (mail_left (Fetch c r) e) (both _ _ known_owner known_asker))
            unset;
      }
        where
          k : AskLicence s.requests p c r
          k = licence.1

          m : Node
          m = send at p (Reply c v)

          u : State
          u = with_answer s p c k.request (Kept v)

          takes : IsTakable s p c q k.request v
          takes = record {
            there = k.there;
            owner = ap (λ (x : RefId). x.owner) k.cell ∙ licence.0;
            asked = k.asked;
            away = h.ways.away p c k.request k.there (ap is_asked k.asked);
            outcome = ap (outcome_of s) k.cell ∙ sym stored_is ∙ es;
          }

          other : (q == p) ≡ false
          other = let ne = to_another (way w) waits s.tasks s.requests p q (Fetch c r) left h.ways (there_ways (Fetch c r) e) in grind (arith, nat_tests, ne)

          out : TakenOut more waits q (entry p c r)
          out = record {
            here = λ f. ap (count f) (put-same waits q (waits q ++ entry p c r ∷ [])) ∙ count-snoc f (waits q) (entry p c r) ∙ swap (count f (waits q)) (one (f (entry p c r)));
            others = λ x ne. sym (ap (λ (b : Bool). if b then waits q ++ entry p c r ∷ [] else waits x) ne);
          }
            where
              swap : (i j : ℕ) → i + j ≡ j + i
              swap i j = omega arith

  -- an answer comes
  pub reply_arrives : (c : ℕ) (v : Outcome) → w.links p q ≡ Reply c v ∷ rest → Steps (off_link w p q rest) q s (delivered p (Reply c v) at).node (delivered p (Reply c v) at).effects
  reply_arrives c v e = subst (λ (st : Stepped). Steps (off_link w p q rest) q s st.node st.effects) (sym (answered_is q at s c k v (h.nodes q) x asks)) (record {
    state = u;
    replay = goes s (mark (Returned k.task) q) u [] u (return_legal s k.task q _ x.place c k v a running stopped lic.kept) (returned_state s k.task q _ x.place c k v stopped lic.kept) refl;
    running = running;
    here = here_by (off_link w p q rest) q m u ways waits (given_node q at s k.task x.cell x.place c k v (h.nodes q) x.there (a.kept q c k v lic.there lic.kept))
        (λ i j. way_kept (off_link w p q rest) q at m (answered_outbox at c k.task x.cell x.place k.cell v) i j ∙ same_ways i j)
        (λ i. wait_kept (off_link w p q rest) q at m (answered_waiting at c k.task x.cell x.place k.cell v) i ∙ same_waits i)
        (woken_ways _ _ _ _ k.task q x.cell x.place (stage.Waits c) (stage.Ready v)
        (reply_comes (way w) waits s.tasks s.requests q p c v left k h.ways (there_ways (Reply c v) e) lic.there lic.owner lic.kept lic.once) x.there)
        (mail_left (Reply c v) e) unset;
  })
    where
      lic : ReplyLicence s.requests q p c v left
      lic = reply_licence (way w) waits s.tasks s.requests q p c v left h.ways (there_ways (Reply c v) e)

      k : Request
      k = lic.request

      not_given : k.answer ≡ Given → ⊥
      not_given g = let clash : Kept v ≡ Given = sym lic.kept ∙ g in cc

      x : Waiter s q c k
      x = waiter s q c k a lic.there not_given

      asks : at.asks c ≡ Some (record { task = k.task; cell = k.cell })
      asks = (h.nodes q).asks c ∙ ap opens lic.there ∙ ap (open_by k.task k.cell) lic.kept

      m : Node
      m = answered_node at c k.task x.cell x.place k.cell v

      u : State
      u = gives s k.task (task_at q x.cell x.place (stage.Waits c)) x.place c k (Some v)

      stopped : IsWaiting s k.task q (task_at q x.cell x.place (stage.Waits c)) x.place c k
      stopped = record { there = x.there; home = refl; life = refl; request = lic.there }

  pub arrives : (m : Msg) → w.links p q ≡ m ∷ rest → Steps (off_link w p q rest) q s (delivered p m at).node (delivered p m at).effects
  arrives (Begin r) e = begin_arrives r e
  arrives (Call r t code args) e = call_arrives r t code args e
  arrives (Fetch c r) e = fetch_arrives c r e
  arrives (Reply c v) e = reply_arrives c v e

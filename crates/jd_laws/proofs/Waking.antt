-- The requests that wait for a cell are answered, once it is set.
use Rattle.std.proofs.Common.{◌≡◌, ℕ, ◌+◌, ◌<◌, ◌==◌, List, [], ◌∷◌, ◌++◌, map, Some, None, Bool, true, false, refl, arith, ap, sym, subst, ◌∙◌, if◌then◌else◌}
use Rattle.std.specs.Prelude.{filter}
use Rattle.std.proofs.lemmas.Bool.Decides.{nat_tests}
use Rattle.jd_value.specs.declared.reference.RefId.{RefId}
use Rattle.jd_task.specs.declared.msg.Msg.{Msg}
use Rattle.jd_task.specs.declared.msg.Msg.TheVariants.{Reply}
use Rattle.jd_model.specs.Outcome.{Outcome}
use Rattle.jd_model.specs.declared.life.Stage.TheVariants as stage
use Rattle.jd_model.specs.declared.life.Answer.TheVariants.{Asked, Kept, Given}
use Rattle.jd_model.specs.declared.mark.Effect.{Effect}
use Rattle.jd_model.specs.declared.mark.Effect.TheVariants.{Took, Returned}
use Rattle.jd_model.specs.Table.{one, count, All}
use Rattle.jd_laws.proofs.Basics.{both, same_test, test_self, put2-same, count-append, map-append}
use Rattle.std.proofs.Common.{append-nil}
use Rattle.jd_model.specs.Asking.{is_known}
use Rattle.jd_model.specs.Machine.{State, Request, outcome_of, legal, after, gives, is_same, is_asked}
use Rattle.jd_model.specs.Node.{Node, Stepped, Waiting, send, then_woken, behind, woken, answered_own}
use Rattle.jd_model.specs.World.{Net, marked}
use Rattle.jd_model.specs.Refines.{IsUnset, is_waiting, open_by}
use Rattle.jd_laws.proofs.Changes.{with_answer}
use Rattle.jd_laws.proofs.Reached.{IsReached}
use Rattle.jd_laws.proofs.Effects.{IsTakable, IsWaiting, take_legal, return_legal, took_state, returned_state, mark}
use Rattle.jd_laws.proofs.Sound.{after-append, after_reached}
use Rattle.jd_laws.proofs.Fits.{NodeFits, WaysFit, MailFits, opens, ways_same, mail_same, put2-twice}
use Rattle.jd_laws.proofs.Licences.{AskLicence, cell_is, cell_self, waiting_licence}
use Rattle.jd_laws.proofs.RequestWays.{TakenOut, entry, reply_leaves, own_given}
use Rattle.jd_laws.proofs.NodeParts.{node_rest, node_request}
use Rattle.jd_laws.proofs.Here.{Steps, way_from, wait_from, way_kept, way_sent, wait_kept, goes, mail_put}
use Rattle.jd_laws.proofs.AtWork.{task_at}
use Rattle.jd_laws.proofs.Answered.{Waiter, waiter, answered_node, answered_is, given_node, woken_ways, answered_outbox, answered_waiting}

-- What waits, with those at process p that are still to be answered.
abbrev pub rest_from : Net → ℕ → Node → List Waiting → ℕ → List Waiting
rest_from w p n rest q = wait_from w p n q ++ (if q == p then rest else [])

-- Process p has answered some of those that wait for cell r, and these are left.
pub record Waking (w : Net) (p : ℕ) (s : State) (n : Node) (es : List Effect) (rest : List Waiting) (r : RefId) (v : Outcome) : Type 0 where
  pub state : State
  pub replay : after (Some s) (map (marked p) es) ≡ Some state
  pub running : state.ending ≡ None
  pub reached : IsReached state
  pub node : NodeFits p n state
  pub ways : WaysFit (way_from w p n) (rest_from w p n rest) state.tasks state.requests
  pub mail : MailFits (way_from w p n) (rest_from w p n rest) state.workers
  pub unset : (q : ℕ) → All (IsUnset state) (wait_from w p n q)
  pub outcome : outcome_of state r ≡ Some v
  pub known : is_known state.workers p ≡ true

pub more : (p : ℕ) (s x u : State) (es fs : List Effect) → after (Some s) (map (marked p) es) ≡ Some x → after (Some x) (map (marked p) fs) ≡ Some u
    → after (Some s) (map (marked p) (es ++ fs)) ≡ Some u
more p s x u es fs a b = ap (after (Some s)) (map-append (marked p) es fs) ∙ after-append (Some s) (map (marked p) es) (map (marked p) fs) ∙ ap (λ o. after o (map (marked p) fs)) a ∙ b

rest_kept : (w : Net) (p : ℕ) (n m : Node) (rest : List Waiting) → m.waiting ≡ n.waiting → (q : ℕ) → rest_from w p m rest q ≡ rest_from w p n rest q
rest_kept w p n m rest e q = ap (λ xs. xs ++ (if q == p then rest else [])) (wait_kept w p n m e q)

taken_out : (w : Net) (p : ℕ) (n : Node) (x : Waiting) (ms : List Waiting) → TakenOut (rest_from w p n (x ∷ ms)) (rest_from w p n ms) p x
taken_out w p n x ms = record {
  here = λ f. all_here f (p == p) (test_self p);
  others = λ y ne. ap (λ (b : Bool). wait_from w p n y ++ (if b then ms else [])) ne ∙ sym (ap (λ (b : Bool). wait_from w p n y ++ (if b then x ∷ ms else [])) ne);
}
  where
    all_here : (f : Waiting → Bool) (b : Bool) → b ≡ true → count f (wait_from w p n p ++ (if b then x ∷ ms else [])) ≡ one (f x) + count f (wait_from w p n p ++ (if b then ms else []))
    all_here f true e = omega (arith, count-append f (wait_from w p n p) (x ∷ ms), count-append f (wait_from w p n p) ms)
    all_here f false e = cc

-- Fewer that are still to be answered are on processes of the cluster too.
fewer : (w : Net) (p : ℕ) (n : Node) (x : Waiting) (ms : List Waiting) (ways : ℕ → ℕ → List Msg) (workers : ℕ) → MailFits ways (rest_from w p n (x ∷ ms)) workers
    → MailFits ways (rest_from w p n ms) workers
fewer w p n x ms ways workers a = record {
  mail = a.mail;
  askers = λ q. by_test (wait_from w p n q) (q == p) (a.askers q);
}
  where
    by_test : (xs : List Waiting) (b : Bool) → All (λ (z : Waiting). is_known workers z.ask.process ≡ true) (xs ++ (if b then x ∷ ms else []))
        → All (λ (z : Waiting). is_known workers z.ask.process ≡ true) (xs ++ (if b then ms else []))
    by_test [] true h = h.1
    by_test [] false h = h
    by_test (y ∷ ys) b h = (h.0, by_test ys b h.1)

first_known : (w : Net) (p : ℕ) (n : Node) (x : Waiting) (ms : List Waiting) (ways : ℕ → ℕ → List Msg) (workers : ℕ) → MailFits ways (rest_from w p n (x ∷ ms)) workers
    → is_known workers x.ask.process ≡ true
first_known w p n x ms ways workers a = by_list (wait_from w p n p) (p == p) (test_self p) (a.askers p)
  where
    by_list : (xs : List Waiting) (b : Bool) → b ≡ true → All (λ (z : Waiting). is_known workers z.ask.process ≡ true) (xs ++ (if b then x ∷ ms else [])) → is_known workers x.ask.process ≡ true
    by_list [] true e h = h.0
    by_list [] false e h = cc
    by_list (y ∷ ys) b e h = by_list ys b e h.1

waits_there : (w : Net) (p c : ℕ) (z : RefId) (i : ℕ) (n : Node) (ms : List Waiting) → 0 < count (is_waiting i c z.maker z.number z.owner) (rest_from w p n (entry i c z ∷ ms) p)
waits_there w p c z i n ms =
    let here = (taken_out w p n (entry i c z) ms).here (is_waiting i c z.maker z.number z.owner) in
    let self : is_waiting i c z.maker z.number z.owner (entry i c z) ≡ true = rw (test_self i, test_self c, cell_self z) refl in
    grind (arith, here, self)

-- ---- one of another process is answered

wake_other : (w : Net) (p : ℕ) (s : State) (n : Node) (es : List Effect) (ms : List Waiting) (r : RefId) (v : Outcome) (i c : ℕ) (z : RefId)
    → (i == p) ≡ false → z ≡ r → r.owner ≡ p → Waking w p s n es (entry i c z ∷ ms) r v
    → Waking w p s (send n i (Reply c v)) (es ++ Took (record { process = i; number = c }) ∷ []) ms r v
wake_other w p s n es ms r v i c z other same owner k = record {
  state = u;
  replay = more p s k.state u es (Took (record { process = i; number = c }) ∷ []) k.replay
      (goes k.state (mark (Took (record { process = i; number = c })) p) u [] u legal_now (took_state k.state i c p q v takes) refl);
  running = k.running;
  reached = after_reached k.state (mark (Took (record { process = i; number = c })) p ∷ []) u k.reached
      (goes k.state (mark (Took (record { process = i; number = c })) p) u [] u legal_now (took_state k.state i c p q v takes) refl);
  node = node_request p m k.state i c (Some (record q { answer = Kept v })) (node_rest p n k.state (send n i (Reply c v)).outbox n.waiting k.node)
      (sym (ap opens lic.there ∙ ap (open_by q.task q.cell) lic.asked));
  ways = ways_same _ (way_from w p m) (rest_from w p n ms) (rest_from w p m ms) _ _ _ _ (way_sent w p n m i (Reply c v) refl) (rest_kept w p n m ms refl) (λ x y. refl) (λ x y. refl)
      (reply_leaves _ _ _ k.state.tasks k.state.requests i p c z v lic k.ways (taken_out w p n (entry i c z) ms) at_home (sym_test i p other));
  mail = mail_same _ (way_from w p m) (rest_from w p n ms) (rest_from w p m ms) k.state.workers (way_sent w p n m i (Reply c v) refl) (rest_kept w p n m ms refl)
      (mail_put _ _ k.state.workers p i _ (fewer w p n (entry i c z) ms (way_from w p n) k.state.workers k.mail) (both _ _ k.known (first_known w p n (entry i c z) ms (way_from w p n) k.state.workers k.mail)));
  unset = λ y. subst (All (IsUnset k.state)) (sym (wait_kept w p n m refl y)) (k.unset y);
  outcome = k.outcome;
  known = k.known;
}
  where
    m : Node
    m = send n i (Reply c v)

    at_home : z.owner ≡ p
    at_home = ap (λ (x : RefId). x.owner) same ∙ owner

    lic : AskLicence k.state.requests i c z
    lic = (waiting_licence (way_from w p n) (rest_from w p n (entry i c z ∷ ms)) k.state.tasks k.state.requests i p c z k.ways (waits_there w p c z i n ms)).1

    q : Request
    q = lic.request

    u : State
    u = with_answer k.state i c q (Kept v)

    takes : IsTakable k.state i c p q v
    takes = record {
      there = lic.there;
      owner = ap (λ (x : RefId). x.owner) lic.cell ∙ at_home;
      asked = lic.asked;
      away = k.ways.away i c q lic.there (ap is_asked lic.asked);
      outcome = ap (outcome_of k.state) (lic.cell ∙ same) ∙ k.outcome;
    }

    legal_now : legal k.state (mark (Took (record { process = i; number = c })) p) ≡ true
    legal_now = take_legal k.state i c p q v k.reached k.running takes

    sym_test : (a b : ℕ) → (a == b) ≡ false → (b == a) ≡ false
    sym_test a b e = grind (arith, nat_tests, e)

-- ---- one of the process itself is answered

wake_own : (w : Net) (p : ℕ) (s : State) (n : Node) (es : List Effect) (ms : List Waiting) (r : RefId) (v : Outcome) (c : ℕ) (z : RefId)
    → z ≡ r → r.owner ≡ p → Waking w p s n es (entry p c z ∷ ms) r v
    → Waking w p s (answered_own n p c v).node (es ++ (answered_own n p c v).effects) ms r v
wake_own w p s n es ms r v c z same owner k =
    subst P (sym (answered_is p n k.state c q v k.node x asks)) (record {
      state = u2;
      replay = more p s k.state u2 es (Took (record { process = p; number = c }) ∷ Returned q.task ∷ []) k.replay two_marks;
      running = k.running;
      reached = after_reached k.state (mark (Took (record { process = p; number = c })) p ∷ mark (Returned q.task) p ∷ []) u2 k.reached two_marks;
      node = given_node p n u1 q.task x.cell x.place c q1 v f1 x.there outcome;
      ways = ways_same (way_from w p n) (way_from w p m) (rest_from w p n ms) (rest_from w p m ms) _ u2.tasks _ u2.requests
          (way_kept w p n m (answered_outbox n c q.task x.cell x.place q.cell v)) (rest_kept w p n m ms (answered_waiting n c q.task x.cell x.place q.cell v))
          (λ i j. refl) (put2-twice k.state.requests p c (Some q1) (Some (record q { answer = Given })))
          (woken_ways _ _ _ _ q.task p x.cell x.place (stage.Waits c) (stage.Ready v)
          (own_given (way_from w p n) _ (rest_from w p n ms) k.state.tasks k.state.requests p c z lic k.ways (taken_out w p n (entry p c z) ms) at_home) x.there);
      mail = mail_same (way_from w p n) (way_from w p m) (rest_from w p n ms) (rest_from w p m ms) k.state.workers
          (way_kept w p n m (answered_outbox n c q.task x.cell x.place q.cell v)) (rest_kept w p n m ms (answered_waiting n c q.task x.cell x.place q.cell v))
          (fewer w p n (entry p c z) ms (way_from w p n) k.state.workers k.mail);
      unset = λ y. subst (All (IsUnset k.state)) (sym (wait_kept w p n m (answered_waiting n c q.task x.cell x.place q.cell v) y)) (k.unset y);
      outcome = k.outcome;
      known = k.known;
    })
  where
    P : Stepped → Type 0
    P st = Waking w p s st.node (es ++ Took (record { process = p; number = c }) ∷ st.effects) ms r v

    at_home : z.owner ≡ p
    at_home = ap (λ (x : RefId). x.owner) same ∙ owner

    lic : AskLicence k.state.requests p c z
    lic = (waiting_licence (way_from w p n) (rest_from w p n (entry p c z ∷ ms)) k.state.tasks k.state.requests p p c z k.ways (waits_there w p c z p n ms)).1

    q : Request
    q = lic.request

    not_given : q.answer ≡ Given → ⊥
    not_given g = let e : Asked ≡ Given = sym lic.asked ∙ g in cc

    x : Waiter k.state p c q
    x = waiter k.state p c q k.reached lic.there not_given

    asks : n.asks c ≡ Some (record { task = q.task; cell = q.cell })
    asks = k.node.asks c ∙ ap opens lic.there ∙ ap (open_by q.task q.cell) lic.asked

    m : Node
    m = answered_node n c q.task x.cell x.place q.cell v

    q1 : Request
    q1 = record q { answer = Kept v }

    u1 : State
    u1 = with_answer k.state p c q (Kept v)

    u2 : State
    u2 = gives u1 q.task (task_at p x.cell x.place (stage.Waits c)) x.place c q1 (Some v)

    outcome : outcome_of k.state q.cell ≡ Some v
    outcome = ap (outcome_of k.state) (lic.cell ∙ same) ∙ k.outcome

    takes : IsTakable k.state p c p q v
    takes = record {
      there = lic.there;
      owner = ap (λ (x : RefId). x.owner) lic.cell ∙ at_home;
      asked = lic.asked;
      away = k.ways.away p c q lic.there (ap is_asked lic.asked);
      outcome = outcome;
    }

    legal_now : legal k.state (mark (Took (record { process = p; number = c })) p) ≡ true
    legal_now = take_legal k.state p c p q v k.reached k.running takes

    f1 : NodeFits p n u1
    f1 = node_request p n k.state p c (Some q1) k.node (sym (ap opens lic.there ∙ ap (open_by q.task q.cell) lic.asked))

    reached1 : IsReached u1
    reached1 = after_reached k.state (mark (Took (record { process = p; number = c })) p ∷ []) u1 k.reached
        (goes k.state (mark (Took (record { process = p; number = c })) p) u1 [] u1 legal_now (took_state k.state p c p q v takes) refl)

    waits : IsWaiting u1 q.task p (task_at p x.cell x.place (stage.Waits c)) x.place c q1
    waits = record { there = x.there; home = refl; life = refl; request = put2-same k.state.requests p c (Some q1) }

    two_marks : after (Some k.state) (mark (Took (record { process = p; number = c })) p ∷ mark (Returned q.task) p ∷ []) ≡ Some u2
    two_marks = goes k.state (mark (Took (record { process = p; number = c })) p) u1 (mark (Returned q.task) p ∷ []) u2 legal_now (took_state k.state p c p q v takes)
        (goes u1 (mark (Returned q.task) p) u2 [] u2 (return_legal u1 q.task p _ x.place c q1 v reached1 k.running waits refl) (returned_state u1 q.task p _ x.place c q1 v waits refl) refl)

-- ---- all of them

wake_one : (w : Net) (p : ℕ) (s : State) (n : Node) (es : List Effect) (ms : List Waiting) (r : RefId) (v : Outcome) (x : Waiting)
    → is_same r x.cell ≡ true → r.owner ≡ p → Waking w p s n es (x ∷ ms) r v
    → Waking w p s (woken p n x.ask v).node (es ++ (woken p n x.ask v).effects) ms r v
wake_one w p s n es ms r v x same owner k = by_process (x.ask.process == p) refl
  where
    own : Stepped
    own = answered_own n p x.ask.number v

    other : Stepped
    other = record { node = send n x.ask.process (Reply x.ask.number v); effects = Took x.ask ∷ [] }

    by_process : (b : Bool) → (x.ask.process == p) ≡ b → Waking w p s (if b then own else other).node (es ++ (if b then own else other).effects) ms r v
    by_process true e =
        let here : x.ask.process ≡ p = same_test x.ask.process p e in
        wake_own w p s n es ms r v x.ask.number x.cell (cell_is x.cell r same) owner
        (subst (λ (y : Waiting). Waking w p s n es (y ∷ ms) r v) (λ j. record { ask = record { process = here j; number = x.ask.number }; cell = x.cell }) k)
    by_process false e = wake_other w p s n es ms r v x.ask.process x.ask.number x.cell e (cell_is x.cell r same) owner k

pub wake_all : (w : Net) (p : ℕ) (s : State) (r : RefId) (v : Outcome) (ws : List Waiting) (st : Stepped) → r.owner ≡ p
    → Waking w p s st.node st.effects (filter (λ x. is_same r x.cell) ws) r v → Steps w p s (then_woken p r v ws st).node (then_woken p r v ws st).effects
wake_all w p s r v [] st owner k = record {
  state = k.state;
  replay = k.replay;
  running = k.running;
  here = record {
    node = k.node;
    ways = ways_same _ _ (rest_from w p st.node []) (wait_from w p st.node) _ _ _ _ (λ x y. refl) none (λ x y. refl) (λ x y. refl) k.ways;
    mail = mail_same _ _ (rest_from w p st.node []) (wait_from w p st.node) k.state.workers (λ x y. refl) none k.mail;
    unset = k.unset;
  };
}
  where
    nothing : List Waiting
    nothing = []

    empty : (b : Bool) → (if b then nothing else nothing) ≡ nothing
    empty true = refl
    empty false = refl

    none : (q : ℕ) → wait_from w p st.node q ≡ rest_from w p st.node [] q
    none q = sym (append-nil (wait_from w p st.node q)) ∙ ap (λ xs. wait_from w p st.node q ++ xs) (sym (empty (q == p)))
wake_all w p s r v (x ∷ xs) st owner k =
    let rest = λ (z : Stepped) (h : Waking w p s z.node z.effects (filter (λ y. is_same r y.cell) xs) r v). wake_all w p s r v xs z owner h in
    elim (is_same r x.cell) as (λ b. is_same r x.cell ≡ b → Waking w p s st.node st.effects (if b then x ∷ filter (λ y. is_same r y.cell) xs else filter (λ y. is_same r y.cell) xs) r v
    → Steps w p s (then_woken p r v xs (if b then behind st.effects (woken p st.node x.ask v) else st)).node (then_woken p r v xs (if b then behind st.effects (woken p st.node x.ask v) else st)).effects) [
      | true ↦ λ e h. rest (behind st.effects (woken p st.node x.ask v)) (wake_one w p s st.node st.effects _ r v x e owner h)
      | false ↦ λ e h. rest st h
    ] refl k

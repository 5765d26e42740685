-- How many messages a step puts into the outboxes: two for each effect at most.
use Rattle.std.proofs.Common.{arith, ◌≡◌, ℕ, zero, suc, ◌+◌, ◌*◌, ◌-◌, ◌≤◌, ◌<◌, ◌==◌, List, [], ◌∷◌, ◌++◌, length, length-append, Bool, true, false, Option, Some, None, Ok, Err, refl, ap, sym, subst, ◌∙◌, if◌then◌else◌}
use Rattle.std.specs.Prelude.{is_some, filter}
use Rattle.std.proofs.lemmas.Bool.Decides.{nat_tests}
use Rattle.jd_value.specs.declared.reference.RefId.{RefId}
use Rattle.jd_value.specs.declared.reference.Ask.{Ask}
use Rattle.jd_value.specs.declared.value.Value.{Value}
use Rattle.jd_task.specs.declared.job.TaskId.{TaskId}
use Rattle.jd_task.specs.declared.job.Turn.{Turn}
use Rattle.jd_task.specs.declared.job.Turn.TheVariants.{Asks, Ended}
use Rattle.jd_task.specs.declared.closure.Closure.{Closure}
use Rattle.jd_task.specs.declared.place.Place.{Place}
use Rattle.jd_task.specs.declared.msg.Msg.{Msg}
use Rattle.jd_task.specs.declared.msg.Msg.TheVariants.{Begin, Call, Fetch, Reply}
use Rattle.jd_task.specs.Running.{advance}
use Rattle.jd_model.specs.Outcome.{Outcome}
use Rattle.jd_model.specs.declared.mark.Effect.{Effect}
use Rattle.jd_model.specs.declared.asking.Asking.{Asking}
use Rattle.jd_model.specs.declared.asking.Asking.TheVariants as asking
use Rattle.jd_model.specs.declared.life.Stage.{Stage}
use Rattle.jd_model.specs.declared.life.Stage.TheVariants as stage
use Rattle.jd_model.specs.Table.{put}
use Rattle.jd_model.specs.Asking.{asking}
use Rattle.jd_model.specs.Machine.{passed_on, is_main, is_same}
use Rattle.jd_model.specs.Node.{Node, Running, OpenAsk, Waiting, Stepped, silent, behind, send, stored_at, cached_at, learnt, readied, fetch_answered, answered_task, answered_ask, delivered, answered_own, woken, then_woken, set_at, set_once_at, ended, fetched_own, fetched_there, fetched, asks_for, called_here, called_there, calls, wants, turned, finished, handed_out, ran_from, ran_task, ran}
use Rattle.jd_session.specs.Headline.{mail}

-- at most so many messages more
abbrev AtMost : ℕ → (ℕ → List Msg) → (ℕ → List Msg) → Type 0
AtMost c f g = (k : ℕ) → mail g k ≤ mail f k + c

-- a box beyond the first ones changes nothing
pub mail_beyond : (f : ℕ → List Msg) (q : ℕ) (ms : List Msg) (k : ℕ) → k + 2 ≤ q → mail (put f q ms) k ≡ mail f k
mail_beyond f q ms zero h = refl
mail_beyond f q ms (suc k) h =
    let rest = mail_beyond f q ms k (omega arith) in grind (arith, nat_tests, rest, h)

pub mail_put : (f : ℕ → List Msg) (q : ℕ) (m : Msg) → AtMost 1 f (put f q (f q ++ m ∷ []))
mail_put f q m zero = omega arith
mail_put f q m (suc k) = by_box (mail_put f q m k) (k + 2 == q) refl
  where
    by_box : mail (put f q (f q ++ m ∷ [])) k ≤ mail f k + 1 → (b : Bool) → (k + 2 == q) ≡ b → mail (put f q (f q ++ m ∷ [])) (suc k) ≤ mail f (suc k) + 1
    by_box below true e =
        let same : k + 2 ≡ q = grind (arith, nat_tests, e) in
        let rest = mail_beyond f q (f q ++ m ∷ []) k (omega (arith, same)) in
        let more = length-append (f q) (m ∷ []) in
        grind (arith, nat_tests, rest, more, e, same)
    by_box below false e = grind (arith, nat_tests, below, e)

pub mail_taken : (f : ℕ → List Msg) (q : ℕ) (m : Msg) (ms : List Msg) (k : ℕ) → f q ≡ m ∷ ms → 2 ≤ q → q ≤ k + 1 → mail (put f q ms) k + 1 ≡ mail f k
mail_taken f q m ms zero e a b = absurd (omega arith)
mail_taken f q m ms (suc k) e a b = by_box (mail_taken f q m ms k e a) (k + 2 == q) refl
  where
    by_box : (q ≤ k + 1 → mail (put f q ms) k + 1 ≡ mail f k) → (c : Bool) → (k + 2 == q) ≡ c → mail (put f q ms) (suc k) + 1 ≡ mail f (suc k)
    by_box below true t =
        let same : k + 2 ≡ q = grind (arith, nat_tests, t) in
        let rest = mail_beyond f q ms k (omega (arith, same)) in
        let head = ap (length {A = Msg}) e in
        grind (arith, nat_tests, rest, head, t, same)
    by_box below false t =
        let apart : k + 2 ≡ q → ⊥ = λ s. grind (arith, nat_tests, t, s) in
        let rest = below (within apart) in
        grind (arith, nat_tests, rest, t)
      where
        within : (k + 2 ≡ q → ⊥) → q ≤ k + 1
        within apart = grind (arith, apart, b)

-- ---- the parts of steps

-- two messages for each effect, and so many more
abbrev Costs : ℕ → Node → Stepped → Type 0
Costs c n s = AtMost (2 * length s.effects + c) n.outbox s.node.outbox

same_box : (f : ℕ → List Msg) (c : ℕ) → AtMost c f f
same_box f c k = omega arith

learnt_box : (n : Node) (r : RefId) (o : Outcome) → (learnt n r o).outbox ≡ n.outbox
learnt_box n r o = by_test (is_some (cached_at n r)) refl
  where
    by_test : (b : Bool) → is_some (cached_at n r) ≡ b → (learnt n r o).outbox ≡ n.outbox
    by_test true e = rw e refl
    by_test false e = rw e refl

free : (n : Node) (s : Stepped) (c : ℕ) → s.node.outbox ≡ n.outbox → Costs c n s
free n s c e k = let same = ap (λ (f : ℕ → List Msg). mail f k) e in omega (arith, same)

answered_task_box : (n : Node) (t : TaskId) (r : RefId) (o : Outcome) (k : Option Running) → (answered_task n t r o k).node.outbox ≡ n.outbox
answered_task_box n t r o None = refl
answered_task_box n t r o (Some k) = learnt_box (readied n t k.cell k.place o) r o

answered_ask_box : (n : Node) (a : ℕ) (o : Outcome) (q : Option OpenAsk) → (answered_ask n a o q).node.outbox ≡ n.outbox
answered_ask_box n a o None = refl
answered_ask_box n a o (Some q) = answered_task_box (record n { asks = put n.asks a None }) q.task q.cell o (n.tasks q.task.process q.task.number)

fetch_answered_costs : (p a : ℕ) (r : RefId) (n : Node) (o : Option Outcome) → Costs 0 n (fetch_answered p a r n o)
fetch_answered_costs p a r n (Some o) k = let one = mail_put n.outbox p (Reply a o) k in omega (arith, one)
fetch_answered_costs p a r n None k = omega arith

pub delivered_costs : (p : ℕ) (m : Msg) (n : Node) → Costs 0 n (delivered p m n)
delivered_costs p (Begin r) n k = omega arith
delivered_costs p (Call r t code args) n k = omega arith
delivered_costs p (Fetch a r) n k = fetch_answered_costs p a r n (stored_at n r) k
delivered_costs p (Reply a o) n k = free n (answered_ask n a o (n.asks a)) 0 (answered_ask_box n a o (n.asks a)) k

woken_costs : (p : ℕ) (n : Node) (who : Ask) (o : Outcome) → Costs 0 n (woken p n who o)
woken_costs p n who o = by_owner (who.process == p) refl
  where
    by_owner : (b : Bool) → (who.process == p) ≡ b → Costs 0 n (woken p n who o)
    by_owner true e k = rw e (let same = ap (λ (f : ℕ → List Msg). mail f k) (answered_ask_box n who.number o (n.asks who.number)) in omega (arith, same))
    by_owner false e k = rw e (let one = mail_put n.outbox who.process (Reply who.number o) k in omega (arith, one))

-- behind a step, another
behind_costs : (n : Node) (s u : Stepped) (c : ℕ) → Costs c n s → Costs 0 s.node u → Costs c n (behind s.effects u)
behind_costs n s u c a b k =
    let x = a k in let y = b k in let all = length-append s.effects u.effects in omega (arith, x, y, all)

then_woken_costs : (p : ℕ) (r : RefId) (o : Outcome) (ws : List Waiting) (n : Node) (s : Stepped) → Costs 0 n s → Costs 0 n (then_woken p r o ws s)
then_woken_costs p r o [] n s c = c
then_woken_costs p r o (w ∷ ws) n s c = then_woken_costs p r o ws n _ (by_cell (is_same r w.cell))
  where
    by_cell : (b : Bool) → Costs 0 n (if b then behind s.effects (woken p s.node w.ask o) else s)
    by_cell true = behind_costs n s (woken p s.node w.ask o) 0 c (woken_costs p s.node w.ask o)
    by_cell false = c

set_at_costs : (p : ℕ) (n : Node) (r : RefId) (o : Outcome) → Costs 0 n (set_at p n r o)
set_at_costs p n r o = then_woken_costs p r o n.waiting n _ (same_box n.outbox 0)

set_once_costs : (p : ℕ) (n : Node) (r : RefId) (o : Outcome) (old : Option Outcome) → Costs 0 n (set_once_at p n r o old)
set_once_costs p n r o (Some old) = same_box n.outbox 0
set_once_costs p n r o None = set_at_costs p n r o

ended_costs : (p : ℕ) (n : Node) (cell : Option RefId) (o : Outcome) → Costs 0 n (ended p n cell o)
ended_costs p n None o = same_box n.outbox 0
ended_costs p n (Some r) o = set_once_costs p n r (passed_on p o) (stored_at n r)

fetched_own_costs : (p : ℕ) (n : Node) (t : TaskId) (cell : Option RefId) (place : Place) (r : RefId) (a : ℕ) (o : Option Outcome) → Costs 0 n (fetched_own p n t cell place r a o)
fetched_own_costs p n t cell place r a (Some o) = free n (fetched_own p n t cell place r a (Some o)) 0 (learnt_box (readied n t cell place o) r o)
fetched_own_costs p n t cell place r a None = same_box n.outbox 0

fetched_costs : (p : ℕ) (n : Node) (t : TaskId) (cell : Option RefId) (place : Place) (r : RefId) (a : ℕ) (o : Option Outcome) → Costs 1 n (fetched p n t cell place r a o)
fetched_costs p n t cell place r a (Some o) k = omega arith
fetched_costs p n t cell place r a None k = by_loss (n.noticed r.owner) refl k
  where
    by_owner : (b : Bool) → (r.owner == p) ≡ b → n.noticed r.owner ≡ false → Costs 1 n (fetched p n t cell place r a None)
    by_owner true e l k = rw (l, e) (let own = fetched_own_costs p n t cell place r a (stored_at n r) k in omega (arith, own))
    by_owner false e l k = rw (l, e) (let one = mail_put n.outbox r.owner (Fetch a r) k in omega (arith, one))

    by_loss : (b : Bool) → n.noticed r.owner ≡ b → Costs 1 n (fetched p n t cell place r a None)
    by_loss true l k = rw l (omega arith)
    by_loss false l k = by_owner (r.owner == p) refl l k

calls_costs : (p : ℕ) (n : Node) (t : TaskId) (cell : Option RefId) (place : Place) (r : RefId) (u : TaskId) (code : Closure) (args : List Value) → Costs 2 n (calls p n t cell place r u code args)
calls_costs p n t cell place r u code args = by_owner (r.owner == p) refl
  where
    by_owner : (b : Bool) → (r.owner == p) ≡ b → Costs 2 n (calls p n t cell place r u code args)
    by_owner true e k = rw e (omega arith)
    by_owner false e k = rw e (
        let one = mail_put n.outbox r.owner (Begin r) k in
        let two = mail_put (put n.outbox r.owner (n.outbox r.owner ++ Begin r ∷ [])) r.owner (Call r u code args) k in
        omega (arith, one, two))

wants_costs : (p : ℕ) (n : Node) (t : TaskId) (cell : Option RefId) (place : Place) (x : Asking) → Costs 2 n (wants p n t cell place x)
wants_costs p n t cell place (asking.Answers o) k = omega arith
wants_costs p n t cell place (asking.Prints vs) k = omega arith
wants_costs p n t cell place (asking.Fetches r) k =
    let m : Node = record n { asked = n.asked + 1 } in let one = fetched_costs p m t cell place r (n.asked + 1) (cached_at m r) k in omega (arith, one)
wants_costs p n t cell place (asking.Calls q code args) k = calls_costs p n t cell place _ _ code args k

turned_costs : (p : ℕ) (n : Node) (t : TaskId) (cell : Option RefId) (place : Place) (turn : Turn) → Costs 2 n (turned p n t cell place turn)
turned_costs p n t cell place (Ended o) k = let e = ended_costs p n cell o k in omega (arith, e)
turned_costs p n t cell place (Asks op) k = wants_costs p n t cell place (asking n.workers n.noticed (is_main t) op) k

finished_costs : (p : ℕ) (n : Node) (t : TaskId) (cell : Option RefId) (place : Place) (turn : Turn) → Costs 0 n (finished p n t cell place turn)
finished_costs p n t cell place turn k = let c = turned_costs p n t cell place turn k in omega (arith, c)

-- What a step of a task costs, and that it has an effect.
pub record RanCosts (n : Node) (s : Stepped) : Type 0 where
  pub costs : (k : ℕ) → mail s.node.outbox k ≤ mail n.outbox k + 2 * length s.effects
  pub some : 1 ≤ length s.effects

ran_from_costs : (p : ℕ) (n m : Node) (t : TaskId) (k : Running) (st : Stage) (s : Stepped) → n.outbox ≡ m.outbox → ran_from p n t k st ≡ Some s → RanCosts m s
ran_from_costs p n m t k (stage.Ready o) s same e =
    let turn = advance k.place o in
    subst (RanCosts m) (got _ _ e) (record {
      costs = λ j. let c = finished_costs p n t k.cell turn.0 turn.1 j in let box = ap (λ (f : ℕ → List Msg). mail f j) same in omega (arith, c, box);
      some = omega arith;
    })
  where
    got : (a b : Stepped) → Some a ≡ Some b → a ≡ b
    got a b h = cc
ran_from_costs p n m t k (stage.Waits a) s same e = absurd cc
ran_from_costs p n m t k (stage.Prints vs) s same e = absurd cc

ran_task_costs : (p : ℕ) (n : Node) (rest : List TaskId) (t : TaskId) (k : Option Running) (s : Stepped) → ran_task p n rest t k ≡ Some s → RanCosts n s
ran_task_costs p n rest t None s e = absurd cc
ran_task_costs p n rest t (Some k) s e = ran_from_costs p (handed_out n t rest) n t k k.stage s refl e

pub ran_costs : (p : ℕ) (n : Node) (ts : List TaskId) (s : Stepped) → ran p n ts ≡ Some s → RanCosts n s
ran_costs p n [] s e = absurd cc
ran_costs p n (t ∷ rest) s e = ran_task_costs p n rest t (n.tasks t.process t.number) s e

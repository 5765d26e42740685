-- What each part of a step does to what a process and the machine have in common.
use Rattle.std.proofs.Common.{◌≡◌, ℕ, List, [], ◌∷◌, ◌++◌, Option, Some, None, Bool, true, false, is_some, refl, arith, ap, sym, subst, ◌∙◌, if◌then◌else◌}
use Rattle.std.specs.Prelude.{filter}
use Rattle.std.proofs.lemmas.Bool.Decides.{nat_tests}
use Rattle.jd_value.specs.declared.reference.RefId.{RefId}
use Rattle.jd_task.specs.declared.job.TaskId.{TaskId}
use Rattle.jd_task.specs.declared.msg.Msg.{Msg}
use Rattle.jd_model.specs.Outcome.{Outcome}
use Rattle.jd_model.specs.declared.ending.Ending.{Ending}
use Rattle.jd_model.specs.Table.{put, put2, put3, All}
use Rattle.jd_laws.proofs.Basics.{is_false, at_put2, at_put3, put-same, put3-same, all-append, all-filter, all-map, all-any, ap_both}
use Rattle.jd_model.specs.Machine.{State, Task, Request, joined, outcome_of, refreshed, occurs, add_once, has, is_same}
use Rattle.jd_model.specs.Node.{Node, Running as RunningTask, OpenAsk, Waiting, learnt, with_cell, cached_at}
use Rattle.jd_laws.proofs.Licences.{cell_is}
use Rattle.jd_laws.proofs.Fits.{NodeFits, TasksFit, IsCached, Same, opens, tasks_same}

-- What a process sends, and who waits there, is no part of it.
pub node_rest : (p : ℕ) (n : Node) (s : State) (outbox : ℕ → List Msg) (waiting : List Waiting) → NodeFits p n s → NodeFits p (record n { outbox = outbox; waiting = waiting }) s
node_rest p n s outbox waiting a = record {
  workers = a.workers;
  noticed = a.noticed;
  called = a.called;
  asked = a.asked;
  made = a.made;
  tasks = a.tasks;
  stored = a.stored;
  asks = a.asks;
  cache = a.cache;
  fetched = a.fetched;
  running = a.running;
}

-- Nor is what the machine counts besides.
pub state_rest : (p : ℕ) (n : Node) (s : State) (running : List TaskId) (lines : List (List ℕ)) (ending : Option Ending) → NodeFits p n s
    → NodeFits p n (record s { running = running; lines = lines; ending = ending })
state_rest p n s running lines ending a = record {
  workers = a.workers;
  noticed = a.noticed;
  called = a.called;
  asked = a.asked;
  made = a.made;
  tasks = a.tasks;
  stored = a.stored;
  asks = a.asks;
  cache = a.cache;
  fetched = a.fetched;
  running = a.running;
}

pub node_tasks : (p : ℕ) (n : Node) (s : State) (here : ℕ → ℕ → Option RunningTask) (ready : List TaskId) (tasks : ℕ → ℕ → Option Task)
    → NodeFits p n s → TasksFit p here ready tasks → NodeFits p (record n { tasks = here; ready = ready }) (record s { tasks = tasks })
node_tasks p n s here ready tasks a t = record {
  workers = a.workers;
  noticed = a.noticed;
  called = a.called;
  asked = a.asked;
  made = a.made;
  tasks = t;
  stored = a.stored;
  asks = a.asks;
  cache = a.cache;
  fetched = a.fetched;
  running = a.running;
}

-- A request is made or answered.
pub node_ask : (p : ℕ) (n : Node) (s : State) (c : ℕ) (x : Option OpenAsk) (r : Option Request) → NodeFits p n s → x ≡ opens r
    → NodeFits p (record n { asks = put n.asks c x }) (record s { requests = put2 s.requests p c r })
node_ask p n s c x r a e = record {
  workers = a.workers;
  noticed = a.noticed;
  called = a.called;
  asked = a.asked;
  made = a.made;
  tasks = a.tasks;
  stored = a.stored;
  asks = λ d. let old = a.asks d in grind (arith, nat_tests, old, e);
  cache = a.cache;
  fetched = a.fetched;
  running = a.running;
}

-- A request changes, and is as open as before.
pub node_request : (p : ℕ) (n : Node) (s : State) (x c : ℕ) (r : Option Request) → NodeFits p n s → opens r ≡ opens (s.requests x c)
    → NodeFits p n (record s { requests = put2 s.requests x c r })
node_request p n s x c r a e = record {
  workers = a.workers;
  noticed = a.noticed;
  called = a.called;
  asked = a.asked;
  made = a.made;
  tasks = a.tasks;
  stored = a.stored;
  asks = λ d. a.asks d ∙ at_put2 s.requests x c r p d (λ z. opens (s.requests p d) ≡ opens z) (λ ep ed. ap opens (ap_both s.requests ep ed) ∙ sym e) (λ _. refl);
  cache = a.cache;
  fetched = a.fetched;
  running = a.running;
}

pub node_asked : (p : ℕ) (n : Node) (s : State) (c : ℕ) → NodeFits p n s → NodeFits p (record n { asked = c }) (record s { asked = put s.asked p c })
node_asked p n s c a = record {
  workers = a.workers;
  noticed = a.noticed;
  called = a.called;
  asked = sym (put-same s.asked p c);
  made = a.made;
  tasks = a.tasks;
  stored = a.stored;
  asks = a.asks;
  cache = a.cache;
  fetched = a.fetched;
  running = a.running;
}

pub node_made : (p : ℕ) (n : Node) (s : State) (c d : ℕ) → NodeFits p n s
    → NodeFits p (record n { made = c; called = d }) (record s { made = put s.made p c; called = put s.called p d })
node_made p n s c d a = record {
  workers = a.workers;
  noticed = a.noticed;
  called = sym (put-same s.called p d);
  asked = a.asked;
  made = sym (put-same s.made p c);
  tasks = a.tasks;
  stored = a.stored;
  asks = a.asks;
  cache = a.cache;
  fetched = a.fetched;
  running = a.running;
}

-- A cell of the process gets an outcome that it hadn't.
pub node_cell : (p : ℕ) (n : Node) (s : State) (r : RefId) (c d : Option (Option Outcome)) → NodeFits p n s → r.owner ≡ p → joined c ≡ joined d
    → ((v : Outcome) → outcome_of s r ≡ Some v → joined d ≡ Some v) → NodeFits p (with_cell n r c) (record s { cells = put3 s.cells r.maker r.number r.owner d })
node_cell p n s r c d a owner e grows = record {
  workers = a.workers;
  noticed = a.noticed;
  called = a.called;
  asked = a.asked;
  made = a.made;
  tasks = a.tasks;
  stored = λ m i. let old = a.stored m i in grind (arith, nat_tests, old, e);
  asks = a.asks;
  cache = λ m i o v h. at_put3 s.cells r.maker r.number r.owner d m i o (λ z. joined z ≡ Some v)
      (λ em ei eo. grows v (ap joined (λ j. s.cells (sym em j) (sym ei j) (sym eo j)) ∙ a.cache m i o v h))
      (λ _. a.cache m i o v h);
  fetched = a.fetched;
  running = a.running;
}

-- Cells change, and the outcomes don't.
pub state_cells : (p : ℕ) (n : Node) (s : State) (cells : ℕ → ℕ → ℕ → Option (Option Outcome)) → NodeFits p n s
    → ((m i o : ℕ) → joined (cells m i o) ≡ joined (s.cells m i o)) → NodeFits p n (record s { cells = cells })
state_cells p n s cells a same = record {
  workers = a.workers;
  noticed = a.noticed;
  called = a.called;
  asked = a.asked;
  made = a.made;
  tasks = a.tasks;
  stored = λ m i. a.stored m i ∙ sym (same m i p);
  asks = a.asks;
  cache = λ m i o v h. same m i o ∙ a.cache m i o v h;
  fetched = a.fetched;
  running = a.running;
}

pub node_cells : (p : ℕ) (n : Node) (s : State) (cells : ℕ → ℕ → ℕ → Option (Option Outcome)) → NodeFits p n s
    → ((m i o : ℕ) → joined (cells m i o) ≡ joined (n.cells m i o)) → NodeFits p (record n { cells = cells }) s
node_cells p n s cells a same = record {
  workers = a.workers;
  noticed = a.noticed;
  called = a.called;
  asked = a.asked;
  made = a.made;
  tasks = a.tasks;
  stored = λ m i. same m i p ∙ a.stored m i;
  asks = a.asks;
  cache = a.cache;
  fetched = a.fetched;
  running = a.running;
}

-- ---- what was fetched

pub node_fetched : (p : ℕ) (n : Node) (s : State) (f : ℕ → List RefId) → NodeFits p n s → All (IsCached n) (f p) → NodeFits p n (record s { fetched = f })
node_fetched p n s f a all = record {
  workers = a.workers;
  noticed = a.noticed;
  called = a.called;
  asked = a.asked;
  made = a.made;
  tasks = a.tasks;
  stored = a.stored;
  asks = a.asks;
  cache = a.cache;
  fetched = all;
  running = a.running;
}

pub node_refreshed : (p : ℕ) (n : Node) (s : State) → NodeFits p n s → NodeFits p n (refreshed s p)
node_refreshed p n s a =
    node_fetched p n s (refreshed s p).fetched a
    (subst (All (IsCached n)) (sym (put-same s.fetched p (filter (occurs s p) (s.fetched p)))) (all-filter (IsCached n) (occurs s p) (s.fetched p) a.fetched))

-- The outcome of a cell is learnt.
pub node_learnt : (p : ℕ) (n : Node) (s : State) (r : RefId) (o : Outcome) → NodeFits p n s → outcome_of s r ≡ Some o → NodeFits p (learnt n r o) s
node_learnt p n s r o a there = by_test (is_some (cached_at n r))
  where
    more : ℕ → ℕ → ℕ → Option Outcome
    more = put3 n.cache r.maker r.number r.owner (Some o)

    still : (x : RefId) → IsCached n x → IsCached (record n { cache = more }) x
    still x h = at_put3 n.cache r.maker r.number r.owner (Some o) x.maker x.number x.owner (λ z. is_some z ≡ true) (λ _ _ _. refl) (λ _. h)

    by_test : (b : Bool) → NodeFits p (if b then n else record n { cache = more }) s
    by_test true = a
    by_test false = record {
      workers = a.workers;
      noticed = a.noticed;
      called = a.called;
      asked = a.asked;
      made = a.made;
      tasks = a.tasks;
      stored = a.stored;
      asks = a.asks;
      cache = λ m i x v h. at_put3 n.cache r.maker r.number r.owner (Some o) m i x (λ z. z ≡ Some v → joined (s.cells m i x) ≡ Some v)
          (λ em ei eo e. ap joined (λ j. s.cells (em j) (ei j) (eo j)) ∙ there ∙ e)
          (λ _ e. a.cache m i x v e)
          h;
      fetched = all-map (IsCached n) (IsCached (record n { cache = more })) (s.fetched p) still a.fetched;
      running = a.running;
    }

pub learnt_cached : (n : Node) (r : RefId) (o : Outcome) → IsCached (learnt n r o) r
learnt_cached n r o = by_test (is_some (cached_at n r)) refl
  where
    by_test : (b : Bool) → is_some (cached_at n r) ≡ b → IsCached (if b then n else record n { cache = put3 n.cache r.maker r.number r.owner (Some o) }) r
    by_test true e = e
    by_test false e = ap is_some (put3-same n.cache r.maker r.number r.owner (Some o))

-- What learning leaves as it is.
pub learnt_same : {A : Type 0} (f : Node → A) (n : Node) (r : RefId) (o : Outcome) → ((cache : ℕ → ℕ → ℕ → Option Outcome) → f (record n { cache = cache }) ≡ f n)
    → f (learnt n r o) ≡ f n
learnt_same {A = A} f n r o same =
    elim (is_some (cached_at n r)) as (λ b. f (if b then n else record n { cache = put3 n.cache r.maker r.number r.owner (Some o) }) ≡ f n) [
      | true ↦ refl
      | false ↦ same (put3 n.cache r.maker r.number r.owner (Some o))
    ]

-- The machine counts the reference as fetched, and the process has its outcome.
pub node_given : (p : ℕ) (n : Node) (s : State) (r : RefId) → NodeFits p n s → IsCached n r
    → NodeFits p n (record s { fetched = put s.fetched p (add_once (s.fetched p) r) })
node_given p n s r a here =
    node_fetched p n s (put s.fetched p (add_once (s.fetched p) r)) a
    (subst (All (IsCached n)) (sym (put-same s.fetched p (add_once (s.fetched p) r))) (by_test (has (s.fetched p) r)))
  where
    by_test : (b : Bool) → All (IsCached n) (if b then s.fetched p else s.fetched p ++ r ∷ [])
    by_test true = a.fetched
    by_test false = all-append (IsCached n) (s.fetched p) (r ∷ []) a.fetched (here, tt)

-- What isn't cached wasn't fetched.
pub not_fetched : (p : ℕ) (n : Node) (s : State) (r : RefId) → NodeFits p n s → cached_at n r ≡ None → has (s.fetched p) r ≡ false
not_fetched p n s r a none = is_false _ (λ h.
    let x = all-any (IsCached n) (is_same r) (s.fetched p) a.fetched h in
    let same : x.0 ≡ r = cell_is x.0 r x.2 in
    let there : IsCached n r = subst (IsCached n) same x.1 in
    let gone : is_some (cached_at n r) ≡ false = ap is_some none in
    cc)

-- ---- the same tables

pub state_same : (p : ℕ) (n : Node) (s : State) (tasks : ℕ → ℕ → Option Task) (requests : ℕ → ℕ → Option Request) → NodeFits p n s → Same tasks s.tasks → Same requests s.requests
    → NodeFits p n (record s { tasks = tasks; requests = requests })
state_same p n s tasks requests a et er = record {
  workers = a.workers;
  noticed = a.noticed;
  called = a.called;
  asked = a.asked;
  made = a.made;
  tasks = tasks_same p n.tasks n.ready s.tasks tasks et a.tasks;
  stored = a.stored;
  asks = λ c. a.asks c ∙ ap opens (sym (er p c));
  cache = a.cache;
  fetched = a.fetched;
  running = a.running;
}

pub all_refreshed : (P : RefId → Type 0) (f : ℕ → List RefId) (p : ℕ) (g : RefId → Bool) → All P (f p) → All P (put f p (filter g (f p)) p)
all_refreshed P f p g a = subst (All P) (sym (put-same f p (filter g (f p)))) (all-filter P g (f p) a)

pub all_given : (P : RefId → Type 0) (f : ℕ → List RefId) (p : ℕ) (r : RefId) → All P (f p) → P r → All P (put f p (add_once (f p) r) p)
all_given P f p r a here = subst (All P) (sym (put-same f p (add_once (f p) r))) (by_test (has (f p) r))
  where
    by_test : (b : Bool) → All P (if b then f p else f p ++ r ∷ [])
    by_test true = a
    by_test false = all-append P (f p) (r ∷ []) a (here, tt)

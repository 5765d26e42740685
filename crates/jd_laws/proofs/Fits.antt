-- The families of facts, for clusters in which nothing is lost: apart for each process, and for the messages between them.
use Rattle.std.proofs.Common.{◌≡◌, ℕ, ◌+◌, ◌≤◌, ◌==◌, List, [], ◌∷◌, ◌++◌, Option, Some, None, Bool, true, false, ◌&&◌, is_some, refl, arith, ap, sym, subst, ◌∙◌, if◌then◌else◌}
use Rattle.std.proofs.lemmas.Bool.Decides.{nat_tests}
use Rattle.jd_value.specs.declared.reference.RefId.{RefId}
use Rattle.jd_task.specs.declared.job.TaskId.{TaskId}
use Rattle.jd_task.specs.declared.msg.Msg.{Msg}
use Rattle.jd_model.specs.Outcome.{Outcome}
use Rattle.jd_model.specs.declared.life.Stage.{Stage}
use Rattle.jd_model.specs.declared.life.Stage.TheVariants as stage
use Rattle.jd_model.specs.declared.life.Life.{Life}
use Rattle.jd_model.specs.declared.life.Life.TheVariants.{Called, Running, Over}
use Rattle.jd_model.specs.Table.{put2, one, count, only, All}
use Rattle.jd_laws.proofs.Basics.{at_put2, count-snoc, ap_both}
use Rattle.jd_model.specs.Machine.{State, Task, Request, joined, is_asked}
use Rattle.jd_model.specs.Node.{Node, Running as RunningTask, OpenAsk, Waiting}
use Rattle.jd_model.specs.Asking.{is_known}
use Rattle.jd_model.specs.World.{Net}
use Rattle.jd_model.specs.Refines.{Agrees, way, shown_stage, shown_by, running_life, running_at, is_ready, is_ready_stage, is_task_of, is_call, call_messages, is_fetch, is_waiting, is_pending, is_reply, reply_messages, open_by, open_ask}
use Rattle.jd_laws.proofs.Reached.{IsReached}
use Rattle.jd_laws.proofs.Effects.{exited_none, live}

abbrev pub runs : Task → Life → Option RunningTask
runs k (Running place st) = Some (record { cell = k.cell; place = place; stage = st })
runs k _ = None

-- The task as it runs on p.
abbrev pub runs_at : ℕ → Option Task → Option RunningTask
runs_at p None = None
runs_at p (Some k) = if k.home == p then runs k k.life else None

abbrev pub opens : Option Request → Option OpenAsk
opens None = None
opens (Some q) = open_by q.task q.cell q.answer

-- The same tasks run on p, and one that can go on stands once among those that are ready.
pub record TasksFit (p : ℕ) (here : ℕ → ℕ → Option RunningTask) (ready : List TaskId) (tasks : ℕ → ℕ → Option Task) : Type 0 where
  pub same : (m n : ℕ) → here m n ≡ runs_at p (tasks m n)
  pub once : (m n : ℕ) → count (is_task_of m n) ready ≡ one (is_ready (runs_at p (tasks m n)))

abbrev pub IsCached : Node → RefId → Type 0
IsCached n r = is_some (n.cache r.maker r.number r.owner) ≡ true

-- A process and the machine agree.
pub record NodeFits (p : ℕ) (n : Node) (s : State) : Type 0 where
  pub workers : n.workers ≡ s.workers
  pub noticed : n.noticed ≡ s.noticed p
  pub called : n.called ≡ s.called p
  pub asked : n.asked ≡ s.asked p
  pub made : n.made ≡ s.made p
  pub tasks : TasksFit p n.tasks n.ready s.tasks
  pub stored : (m i : ℕ) → joined (n.cells m i p) ≡ joined (s.cells m i p)
  pub asks : (c : ℕ) → n.asks c ≡ opens (s.requests p c)
  pub cache : (m i o : ℕ) (v : Outcome) → n.cache m i o ≡ Some v → joined (s.cells m i o) ≡ Some v
  pub fetched : All (IsCached n) (s.fetched p)
  pub running : n.main_end ≡ None

-- The messages on their ways and the requests that wait are those that the machine expects.
pub record WaysFit (on_way : ℕ → ℕ → List Msg) (waiting : ℕ → List Waiting) (tasks : ℕ → ℕ → Option Task) (requests : ℕ → ℕ → Option Request) : Type 0 where
  pub call : (p q n : ℕ) → only (is_call n) (on_way p q) ≡ call_messages p q n (tasks p n)
  pub fetch : (p c m i o : ℕ) → count (is_fetch c m i o) (on_way p o) + count (is_waiting p c m i o) (waiting o) ≡ one (is_pending m i o (requests p c))
  pub fetch_owner : (p q c m i o : ℕ) → (q ≡ o → ⊥) → count (is_fetch c m i o) (on_way p q) + count (is_waiting p c m i o) (waiting q) ≡ 0
  pub reply : (p q c : ℕ) → only (is_reply c) (on_way q p) ≡ reply_messages q c (requests p c)
  pub own : (p : ℕ) → on_way p p ≡ []
  pub away : (p c : ℕ) (q : Request) → requests p c ≡ Some q → is_asked q.answer ≡ true → q.is_here ≡ false

-- Messages and requests are between processes of the cluster.
pub record MailFits (on_way : ℕ → ℕ → List Msg) (waiting : ℕ → List Waiting) (workers : ℕ) : Type 0 where
  pub mail : (p q : ℕ) → (is_known workers p && is_known workers q) ≡ false → on_way p q ≡ []
  pub askers : (q : ℕ) → All (λ x. is_known workers x.ask.process ≡ true) (waiting q)

pub record Fits (w : Net) (waiting : ℕ → List Waiting) (s : State) : Type 0 where
  pub nodes : (p : ℕ) → NodeFits p (w.nodes p) s
  pub ways : WaysFit (way w) waiting s.tasks s.requests
  pub mail : MailFits (way w) waiting s.workers

-- ---- with nothing lost, they are what the cluster and the machine have in common

shown_is : (s : State) (p : ℕ) (st : Stage) → IsReached s → shown_stage s p st ≡ st
shown_is s p (stage.Ready o) a = refl
shown_is s p (stage.Prints vs) a = refl
shown_is s p (stage.Waits c) a = ap (shown_by (stage.Waits c)) (exited_none s p (s.requests p c) a)

life_is : (s : State) (k : Task) (l : Life) → IsReached s → running_life s k l ≡ runs k l
life_is s k (Called code args) a = refl
life_is s k Over a = refl
life_is s k (Running place st) a = ap (λ (x : Stage). Some (record { cell = k.cell; place = place; stage = x })) (shown_is s k.home st a)

pub running_is : (s : State) (p : ℕ) (o : Option Task) → IsReached s → running_at s p o ≡ runs_at p o
running_is s p None a = refl
running_is s p (Some k) a = ap (λ (x : Option RunningTask). if k.home == p then x else None) (life_is s k k.life a)

pub open_is : (s : State) (p : ℕ) (o : Option Request) → IsReached s → open_ask s p o ≡ opens o
open_is s p None a = refl
open_is s p (Some q) a = rw (a.calm p q.cell.owner) refl

pub agrees_fits : (w : Net) (waiting : ℕ → List Waiting) (s : State) → IsReached s → Agrees w waiting s → Fits w waiting s
agrees_fits w waiting s r a = record {
  nodes = λ p. record {
    workers = a.workers p;
    noticed = a.noticed p;
    called = a.called p;
    asked = a.asked p;
    made = a.made p;
    tasks = record {
      same = λ m n. a.tasks p m n (live s r p) ∙ running_is s p (s.tasks m n) r;
      once = λ m n. a.ready p m n (live s r p) ∙ ap (λ (x : Option RunningTask). one (is_ready x)) (running_is s p (s.tasks m n) r);
    };
    stored = λ m i. a.stored m i p (live s r p);
    asks = λ c. a.asks p c (live s r p) ∙ open_is s p (s.requests p c) r;
    cache = a.cache p;
    fetched = a.fetched p (live s r p);
    running = a.running p;
  };
  ways = record {
    call = λ p q n. a.call p q n (live s r p) (live s r q);
    fetch = λ p c m i o. a.fetch p c m i o (live s r p) (live s r o);
    fetch_owner = a.fetch_owner;
    reply = λ p q c. a.reply p q c (live s r p) (live s r q);
    own = a.own;
    away = a.away;
  };
  mail = record { mail = a.mail; askers = a.askers };
}

pub fits_agrees : (w : Net) (waiting : ℕ → List Waiting) (s : State) → IsReached s → Fits w waiting s → Agrees w waiting s
fits_agrees w waiting s r f = record {
  workers = λ p. (f.nodes p).workers;
  noticed = λ p. (f.nodes p).noticed;
  called = λ p. (f.nodes p).called;
  asked = λ p. (f.nodes p).asked;
  made = λ p. (f.nodes p).made;
  tasks = λ p m n l. (f.nodes p).tasks.same m n ∙ sym (running_is s p (s.tasks m n) r);
  ready = λ p m n l. (f.nodes p).tasks.once m n ∙ ap (λ (x : Option RunningTask). one (is_ready x)) (sym (running_is s p (s.tasks m n) r));
  stored = λ m i p l. (f.nodes p).stored m i;
  call = λ p q n l k. f.ways.call p q n;
  fetch = λ p c m i o l k. f.ways.fetch p c m i o;
  fetch_owner = f.ways.fetch_owner;
  reply = λ p q c l k. f.ways.reply p q c;
  asks = λ p c l. (f.nodes p).asks c ∙ sym (open_is s p (s.requests p c) r);
  away = f.ways.away;
  cache = λ p. (f.nodes p).cache;
  fetched = λ p l. (f.nodes p).fetched;
  own = f.ways.own;
  mail = f.mail.mail;
  askers = f.mail.askers;
  running = λ p. (f.nodes p).running;
}

-- ---- what makes no difference

-- Two tables with the same entries.
abbrev pub Same : {A : Type 0} → (ℕ → ℕ → A) → (ℕ → ℕ → A) → Type 0
Same f g = (x y : ℕ) → f x y ≡ g x y

pub put2-twice : {A : Type 0} (f : ℕ → ℕ → A) (k n : ℕ) (u v : A) → Same (put2 (put2 f k n u) k n v) (put2 f k n v)
put2-twice f k n u v x y =
    elim (x == k && y == n) as (λ b. (if b then v else (if b then u else f x y)) ≡ (if b then v else f x y)) [
      | true ↦ refl
      | false ↦ refl
    ]

pub put2-back : {A : Type 0} (f : ℕ → ℕ → A) (k n : ℕ) (v : A) → f k n ≡ v → Same (put2 f k n v) f
put2-back f k n v e x y = at_put2 f k n v x y (λ z. z ≡ f x y) (λ ex ey. sym (ap_both f ex ey ∙ e)) (λ other. refl)

pub tasks_same : (p : ℕ) (here : ℕ → ℕ → Option RunningTask) (ready : List TaskId) (tasks more : ℕ → ℕ → Option Task)
    → Same more tasks → TasksFit p here ready tasks → TasksFit p here ready more
tasks_same p here ready tasks more e a = record {
  same = λ m n. a.same m n ∙ ap (runs_at p) (sym (e m n));
  once = λ m n. a.once m n ∙ ap (λ (x : Option Task). one (is_ready (runs_at p x))) (sym (e m n));
}

pub ways_same : (u v : ℕ → ℕ → List Msg) (waiting still : ℕ → List Waiting) (tasks more : ℕ → ℕ → Option Task) (requests others : ℕ → ℕ → Option Request)
    → Same v u → ((q : ℕ) → still q ≡ waiting q) → Same more tasks → Same others requests → WaysFit u waiting tasks requests → WaysFit v still more others
ways_same u v waiting still tasks more requests others eu ew et er a = record {
  call = λ p q n. ap (only (is_call n)) (eu p q) ∙ a.call p q n ∙ ap (call_messages p q n) (sym (et p n));
  fetch = λ p c m i o. (λ j. count (is_fetch c m i o) (eu p o j) + count (is_waiting p c m i o) (ew o j)) ∙ a.fetch p c m i o ∙ ap (λ (x : Option Request). one (is_pending m i o x)) (sym (er p c));
  fetch_owner = λ p q c m i o ne. (λ j. count (is_fetch c m i o) (eu p q j) + count (is_waiting p c m i o) (ew q j)) ∙ a.fetch_owner p q c m i o ne;
  reply = λ p q c. ap (only (is_reply c)) (eu q p) ∙ a.reply p q c ∙ ap (reply_messages q c) (sym (er p c));
  own = λ p. eu p p ∙ a.own p;
  away = λ p c q h. a.away p c q (sym (er p c) ∙ h);
}

pub mail_same : (u v : ℕ → ℕ → List Msg) (waiting still : ℕ → List Waiting) (workers : ℕ) → Same v u → ((q : ℕ) → still q ≡ waiting q)
    → MailFits u waiting workers → MailFits v still workers
mail_same u v waiting still workers eu ew a = record {
  mail = λ p q e. eu p q ∙ a.mail p q e;
  askers = λ q. subst (All (λ x. is_known workers x.ask.process ≡ true)) (sym (ew q)) (a.askers q);
}

-- ---- one task changes

-- The oldest task that can go on is handed out.
pub hands_out : (p : ℕ) (here : ℕ → ℕ → Option RunningTask) (t : TaskId) (rest : List TaskId) (tasks : ℕ → ℕ → Option Task)
    → TasksFit p here (t ∷ rest) tasks → TasksFit p (put2 here t.process t.number None) rest (put2 tasks t.process t.number None)
hands_out p here t rest tasks a = record {
  same = λ m n. let old = a.same m n in grind (arith, nat_tests, old);
  once = λ m n. let old = a.once m n in let most = at_most_one (is_ready (runs_at p (tasks m n))) in grind (arith, nat_tests, old, most);
}
  where
    at_most_one : (b : Bool) → one b ≤ 1
    at_most_one true = omega arith
    at_most_one false = omega arith

-- A task that couldn't go on can now.
pub readies : (p : ℕ) (here : ℕ → ℕ → Option RunningTask) (ready : List TaskId) (tasks : ℕ → ℕ → Option Task) (t : TaskId) (k : RunningTask) (x : Option Task)
    → TasksFit p here ready tasks → is_ready (runs_at p (tasks t.process t.number)) ≡ false → runs_at p x ≡ Some k → is_ready_stage k.stage ≡ true
    → TasksFit p (put2 here t.process t.number (Some k)) (ready ++ t ∷ []) (put2 tasks t.process t.number x)
readies p here ready tasks t k x a idle now can = record {
  same = λ m n. let old = a.same m n in grind (arith, nat_tests, old, now);
  once = λ m n. let old = a.once m n in
      at_put2 tasks t.process t.number x m n (λ z. count (is_task_of m n) (ready ++ t ∷ []) ≡ one (is_ready (runs_at p z)))
      (λ em en. let there : tasks m n ≡ tasks t.process t.number = ap_both tasks em en in
      let was : count (is_task_of m n) ready ≡ 0 = old ∙ ap (λ (z : Option Task). one (is_ready (runs_at p z))) there ∙ ap one idle in
      let will : is_ready (runs_at p x) ≡ true = ap is_ready now ∙ can in
      grind (arith, nat_tests, was, will, em, en, count-snoc (is_task_of m n) ready t))
      (λ other. grind (arith, nat_tests, old, other, count-snoc (is_task_of m n) ready t));
}

-- A task that can't go on is at another stage where it can't.
pub rests : (p : ℕ) (here : ℕ → ℕ → Option RunningTask) (ready : List TaskId) (tasks : ℕ → ℕ → Option Task) (t : TaskId) (k : RunningTask) (x : Option Task)
    → TasksFit p here ready tasks → is_ready (runs_at p (tasks t.process t.number)) ≡ false → runs_at p x ≡ Some k → is_ready_stage k.stage ≡ false
    → TasksFit p (put2 here t.process t.number (Some k)) ready (put2 tasks t.process t.number x)
rests p here ready tasks t k x a idle now can = record {
  same = λ m n. let old = a.same m n in grind (arith, nat_tests, old, now);
  once = λ m n. let old = a.once m n in
      at_put2 tasks t.process t.number x m n (λ z. count (is_task_of m n) ready ≡ one (is_ready (runs_at p z)))
      (λ em en. old ∙ ap (λ (z : Option Task). one (is_ready (runs_at p z))) (ap_both tasks em en) ∙ ap one (idle ∙ sym (ap is_ready now ∙ can)))
      (λ other. old);
}

-- A task changes that doesn't run here.
pub unseen : (p : ℕ) (here : ℕ → ℕ → Option RunningTask) (ready : List TaskId) (tasks : ℕ → ℕ → Option Task) (m n : ℕ) (x : Option Task)
    → TasksFit p here ready tasks → runs_at p x ≡ runs_at p (tasks m n) → TasksFit p here ready (put2 tasks m n x)
unseen p here ready tasks m n x a same = record {
  same = λ i j. a.same i j ∙ sym (still i j);
  once = λ i j. a.once i j ∙ ap (λ (z : Option RunningTask). one (is_ready z)) (sym (still i j));
}
  where
    still : (i j : ℕ) → runs_at p (put2 tasks m n x i j) ≡ runs_at p (tasks i j)
    still i j = at_put2 tasks m n x i j (λ z. runs_at p z ≡ runs_at p (tasks i j)) (λ ei ej. same ∙ ap (runs_at p) (sym (ap_both tasks ei ej))) (λ other. refl)

-- Tasks that run here are the same.
pub tasks_alike : (p : ℕ) (here : ℕ → ℕ → Option RunningTask) (ready : List TaskId) (tasks more : ℕ → ℕ → Option Task)
    → ((m n : ℕ) → runs_at p (more m n) ≡ runs_at p (tasks m n)) → TasksFit p here ready tasks → TasksFit p here ready more
tasks_alike p here ready tasks more e a = record {
  same = λ m n. a.same m n ∙ sym (e m n);
  once = λ m n. a.once m n ∙ ap (λ (z : Option RunningTask). one (is_ready z)) (sym (e m n));
}

pub put2_alike : {A : Type 0} (f g : ℕ → ℕ → List A) (k n : ℕ) (x : A) → Same f g → Same (put2 f k n (f k n ++ x ∷ [])) (put2 g k n (g k n ++ x ∷ []))
put2_alike f g k n x e i j = λ d. if i == k && j == n then e k n d ++ x ∷ [] else e i j d

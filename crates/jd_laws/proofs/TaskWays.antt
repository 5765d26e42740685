-- What each step does to the messages on their ways and to the requests that wait.
use Rattle.std.proofs.Common.{◌≡◌, ℕ, ◌==◌, List, [], ◌∷◌, ◌++◌, Option, Some, None, Bool, true, false, ◌&&◌, refl, arith, ap, sym, subst, ◌∙◌, if◌then◌else◌}
use Rattle.std.proofs.lemmas.Bool.Decides.{nat_tests}
use Rattle.jd_value.specs.declared.reference.RefId.{RefId}
use Rattle.jd_value.specs.declared.value.Value.{Value}
use Rattle.jd_task.specs.declared.job.TaskId.{TaskId}
use Rattle.jd_task.specs.declared.closure.Closure.{Closure}
use Rattle.jd_task.specs.declared.msg.Msg.{Msg}
use Rattle.jd_task.specs.declared.msg.Msg.TheVariants.{Begin, Call}
use Rattle.jd_model.specs.declared.life.Life.{Life}
use Rattle.jd_model.specs.declared.life.Life.TheVariants.{Called, Running, Over}
use Rattle.jd_model.specs.Table.{put2, count, only}
use Rattle.jd_laws.proofs.Basics.{is_false, same_test, test_self, at_put2, count-snoc, only-append, ap_both, only-other}
use Rattle.jd_model.specs.Machine.{Task, Request, is_called}
use Rattle.jd_model.specs.Node.{Waiting}
use Rattle.jd_model.specs.Refines.{is_call, call_message, call_messages, is_fetch, is_reply, reply_messages}
use Rattle.jd_laws.proofs.Fits.{WaysFit}
use Rattle.jd_laws.proofs.Licences.{CallLicence, call_licence}

-- ---- tasks

-- Only a task that hasn't started has a message.
pub no_call : (k : Task) → is_called k.life ≡ false → (p q n : ℕ) → call_messages p q n (Some k) ≡ []
no_call k e p q n = elim (k.home == q) as (λ b. (if b then call_message p n k.cell k.life else []) ≡ []) [
  | true ↦ none k.cell k.life e
  | false ↦ refl
]
  where
    none : (c : Option RefId) (l : Life) → is_called l ≡ false → call_message p n c l ≡ []
    none None l e = refl
    none (Some r) (Running place st) e = refl
    none (Some r) Over e = refl
    none (Some r) (Called code args) e = cc

-- A task's life changes, and its messages don't.
pub lives : (w : ℕ → ℕ → List Msg) (v : ℕ → List Waiting) (tasks : ℕ → ℕ → Option Task) (requests : ℕ → ℕ → Option Request)
    (p n : ℕ) (x : Option Task) → WaysFit w v tasks requests → ((q : ℕ) → call_messages p q n x ≡ call_messages p q n (tasks p n))
    → WaysFit w v (put2 tasks p n x) requests
lives w v tasks requests p n x a same = record {
  call = λ y q i. a.call y q i ∙ at_put2 tasks p n x y i (λ z. call_messages y q i (tasks y i) ≡ call_messages y q i z)
      (λ ey ei. subst (λ u. call_messages u q i (tasks u i) ≡ call_messages u q i x) (sym ey)
      (subst (λ u. call_messages p q u (tasks p u) ≡ call_messages p q u x) (sym ei) (sym (same q))))
      (λ other. refl);
  fetch = a.fetch;
  fetch_owner = a.fetch_owner;
  reply = a.reply;
  own = a.own;
  away = a.away;
}

-- The message that called a task has come, and the task runs.
pub call_comes : (w : ℕ → ℕ → List Msg) (v : ℕ → List Waiting) (tasks : ℕ → ℕ → Option Task) (requests : ℕ → ℕ → Option Request)
    (p q : ℕ) (r : RefId) (t : TaskId) (code : Closure) (args : List Value) (rest : List Msg) (k : Task)
    → WaysFit w v tasks requests → w p q ≡ Call r t code args ∷ rest → k.home ≡ q → is_called k.life ≡ false
    → WaysFit (put2 w p q rest) v (put2 tasks t.process t.number (Some k)) requests
call_comes w v tasks requests p q r t code args rest k a e home begun =
    let caller = c.caller in
    let once = c.once in
    record {
      call = λ x y i. let old = a.call x y i in let none = no_call k begun x y i in let cut = ap (only (is_call i)) e in
          at_put2 tasks t.process t.number (Some k) x i (λ z. only (is_call i) (put2 w p q rest x y) ≡ call_messages x y i z)
          (λ ex ei. called x y i (ex ∙ caller) ei ∙ sym none)
          (λ other. at_put2 w p q rest x y (λ ms. only (is_call i) ms ≡ call_messages x y i (tasks x i))
          (λ ex ey. elsewhere x y i ex ey other)
          (λ _. old));
      fetch = λ x d m i o. let old = a.fetch x d m i o in grind (arith, nat_tests, old, ap (count (is_fetch d m i o)) e);
      fetch_owner = λ x y d m i o ne. let old = a.fetch_owner x y d m i o ne in grind (arith, nat_tests, old, ap (count (is_fetch d m i o)) e);
      reply = λ x y d. let old = a.reply x y d in grind (arith, nat_tests, old, ap (only (is_reply d)) e);
      own = λ x. let old = a.own x in grind (arith, nat_tests, old, e);
      away = a.away;
    }
  where
    c : CallLicence tasks p q r t code args rest
    c = call_licence w v tasks requests p q r t code args rest a e

    not_there : (x y : ℕ) → x ≡ p → (x == p && y == q) ≡ false → (c.task.home == y) ≡ false
    not_there x y ex other = is_false _ (λ same. let home : c.task.home ≡ q = c.home in let ey : c.task.home ≡ y = same_test c.task.home y same in grind (arith, nat_tests, other, ex, home, ey))

    -- at the task's number nothing is left, to q or to another
    called : (x y i : ℕ) → x ≡ p → i ≡ t.number → only (is_call i) (put2 w p q rest x y) ≡ []
    called x y i ex ei = at_put2 w p q rest x y (λ ms. only (is_call i) ms ≡ [])
        (λ fx fy. ap (λ u. only (is_call u) rest) ei ∙ c.once)
        (λ other. a.call x y i ∙ ap (call_messages x y i) (ap_both tasks (ex ∙ sym c.caller) ei ∙ c.there) ∙ ap (λ (b : Bool). if b then call_message x i c.task.cell c.task.life else []) (not_there x y ex other))

    elsewhere : (x y i : ℕ) → x ≡ p → y ≡ q → (x == t.process && i == t.number) ≡ false → only (is_call i) rest ≡ call_messages x y i (tasks x i)
    elsewhere x y i ex ey other =
        let ne : (t.number == i) ≡ false = (let caller : t.process ≡ p = c.caller in grind (arith, nat_tests, other, ex, caller)) in
        let cut : only (is_call i) (w x y) ≡ only (is_call i) rest = ap (only (is_call i)) (ap_both w ex ey ∙ e) ∙ ap (λ (b : Bool). if b then Call r t code args ∷ only (is_call i) rest else only (is_call i) rest) ne in
        sym cut ∙ a.call x y i

-- A cell is announced.
pub begin_comes : (w : ℕ → ℕ → List Msg) (v : ℕ → List Waiting) (tasks : ℕ → ℕ → Option Task) (requests : ℕ → ℕ → Option Request)
    (p q : ℕ) (r : RefId) (rest : List Msg) → WaysFit w v tasks requests → w p q ≡ Begin r ∷ rest → WaysFit (put2 w p q rest) v tasks requests
begin_comes w v tasks requests p q r rest a e = record {
  call = λ x y i. let old = a.call x y i in grind (arith, nat_tests, old, ap (only (is_call i)) e);
  fetch = λ x d m i o. let old = a.fetch x d m i o in grind (arith, nat_tests, old, ap (count (is_fetch d m i o)) e);
  fetch_owner = λ x y d m i o ne. let old = a.fetch_owner x y d m i o ne in grind (arith, nat_tests, old, ap (count (is_fetch d m i o)) e);
  reply = λ x y d. let old = a.reply x y d in grind (arith, nat_tests, old, ap (only (is_reply d)) e);
  own = λ x. let old = a.own x in grind (arith, nat_tests, old, e);
  away = a.away;
}

pub begin_leaves : (w : ℕ → ℕ → List Msg) (v : ℕ → List Waiting) (tasks : ℕ → ℕ → Option Task) (requests : ℕ → ℕ → Option Request)
    (p q : ℕ) (r : RefId) → WaysFit w v tasks requests → (p == q) ≡ false → WaysFit (put2 w p q (w p q ++ Begin r ∷ [])) v tasks requests
begin_leaves w v tasks requests p q r a ne = record {
  call = λ x y i. at_put2 w p q (w p q ++ Begin r ∷ []) x y (λ ms. only (is_call i) ms ≡ call_messages x y i (tasks x i))
      (λ ex ey. only-other (is_call i) (w p q) (Begin r) refl ∙ ap (only (is_call i)) (ap_both w (sym ex) (sym ey)) ∙ a.call x y i)
      (λ _. a.call x y i);
  fetch = λ x d m i o. let old = a.fetch x d m i o in grind (arith, nat_tests, old, count-snoc (is_fetch d m i o) (w p q) (Begin r));
  fetch_owner = λ x y d m i o no. let old = a.fetch_owner x y d m i o no in grind (arith, nat_tests, old, count-snoc (is_fetch d m i o) (w p q) (Begin r));
  reply = λ x y d. at_put2 w p q (w p q ++ Begin r ∷ []) y x (λ ms. only (is_reply d) ms ≡ reply_messages y d (requests x d))
      (λ ey ex. only-other (is_reply d) (w p q) (Begin r) refl ∙ ap (only (is_reply d)) (ap_both w (sym ey) (sym ex)) ∙ a.reply x y d)
      (λ _. a.reply x y d);
  own = λ x. let old = a.own x in grind (arith, nat_tests, old, ne);
  away = a.away;
}

-- A task is called on another process.
pub call_leaves : (w : ℕ → ℕ → List Msg) (v : ℕ → List Waiting) (tasks : ℕ → ℕ → Option Task) (requests : ℕ → ℕ → Option Request)
    (p q n : ℕ) (r : RefId) (code : Closure) (args : List Value) → WaysFit w v tasks requests → (p == q) ≡ false → tasks p n ≡ None
    → WaysFit (put2 w p q (w p q ++ Call r (record { process = p; number = n }) code args ∷ [])) v
    (put2 tasks p n (Some (record { home = q; cell = Some r; life = Called code args }))) requests
call_leaves w v tasks requests p q n r code args a ne fresh = record {
  call = λ x y i. at_put2 tasks p n (Some new) x i (λ z. only (is_call i) (put2 w p q (w p q ++ m ∷ []) x y) ≡ call_messages x y i z)
      (λ ex ei. at_put2 w p q (w p q ++ m ∷ []) x y (λ ms. only (is_call i) ms ≡ call_messages x y i (Some new))
      (λ fx ey.
      only-append (is_call i) (w p q) (m ∷ []) ∙ ap (λ xs. xs ++ only (is_call i) (m ∷ [])) (none p q i refl ei) ∙ this x y i ex ey ei)
      (λ other. none x y i ex ei ∙ sym (ap (λ (b : Bool). if b then call_message x i (Some r) (Called code args) else []) (is_false _ (λ same. let ey : q ≡ y = same_test q y same in grind (arith, nat_tests, other, ex, ey))))))
      (λ other. at_put2 w p q (w p q ++ m ∷ []) x y (λ ms. only (is_call i) ms ≡ call_messages x y i (tasks x i))
      (λ ex ey. let no : (n == i) ≡ false = grind (arith, nat_tests, other, ex) in
      only-other (is_call i) (w p q) m no
      ∙ ap (only (is_call i)) (ap_both w (sym ex) (sym ey)) ∙ a.call x y i)
      (λ _. a.call x y i));
  fetch = λ x d m2 i o. let old = a.fetch x d m2 i o in grind (arith, nat_tests, old, count-snoc (is_fetch d m2 i o) (w p q) m);
  fetch_owner = λ x y d m2 i o no. let old = a.fetch_owner x y d m2 i o no in grind (arith, nat_tests, old, count-snoc (is_fetch d m2 i o) (w p q) m);
  reply = λ x y d. at_put2 w p q (w p q ++ m ∷ []) y x (λ ms. only (is_reply d) ms ≡ reply_messages y d (requests x d))
      (λ ey ex. only-other (is_reply d) (w p q) m refl ∙ ap (only (is_reply d)) (ap_both w (sym ey) (sym ex)) ∙ a.reply x y d)
      (λ _. a.reply x y d);
  own = λ x. let old = a.own x in grind (arith, nat_tests, old, ne);
  away = a.away;
}
  where
    m : Msg
    m = Call r (record { process = p; number = n }) code args

    new : Task
    new = record { home = q; cell = Some r; life = Called code args }

    none : (x y i : ℕ) → x ≡ p → i ≡ n → only (is_call i) (w x y) ≡ []
    none x y i ex ei = a.call x y i ∙ ap (call_messages x y i) (ap_both tasks ex ei ∙ fresh)

    this : (x y i : ℕ) → x ≡ p → y ≡ q → i ≡ n → only (is_call i) (m ∷ []) ≡ call_messages x y i (Some new)
    this x y i ex ey ei =
        subst (λ z. only (is_call i) (m ∷ []) ≡ call_messages z y i (Some new)) (sym ex)
        (subst (λ z. only (is_call i) (m ∷ []) ≡ call_messages p z i (Some new)) (sym ey)
        (subst (λ z. only (is_call z) (m ∷ []) ≡ call_messages p q z (Some new)) (sym ei) (rw (test_self n, test_self q) refl)))

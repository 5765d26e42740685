-- What a process doesn't see of the effects of others.
use Rattle.std.proofs.Common.{◌≡◌, ℕ, ◌+◌, ◌==◌, List, [], ◌∷◌, ◌++◌, map, Option, Some, None, Bool, true, false, not, is_some, Ok, refl, arith, ap, sym, subst, ◌∙◌, if◌then◌else◌}
use Rattle.std.specs.Prelude.{filter}
use Rattle.std.proofs.lemmas.Bool.Decides.{nat_tests}
use Rattle.jd_value.specs.declared.reference.RefId.{RefId}
use Rattle.jd_value.specs.declared.value.Value.{Value}
use Rattle.jd_value.specs.declared.value.Value.TheVariants.{Nothing, Future}
use Rattle.jd_task.specs.declared.job.TaskId.{TaskId}
use Rattle.jd_task.specs.declared.closure.Closure.{Closure}
use Rattle.jd_task.specs.declared.place.Place.{Place}
use Rattle.jd_task.specs.declared.job.Turn.{Turn}
use Rattle.jd_task.specs.declared.job.Turn.TheVariants.{Asks, Ended}
use Rattle.jd_task.specs.Running.{advance}
use Rattle.jd_task.specs.Places.{called_place}
use Rattle.jd_model.specs.Outcome.{Outcome}
use Rattle.jd_model.specs.declared.asking.Asking.{Asking}
use Rattle.jd_model.specs.declared.asking.Asking.TheVariants as asking
use Rattle.jd_model.specs.declared.life.Stage.TheVariants as stage
use Rattle.jd_model.specs.declared.life.Life.{Life}
use Rattle.jd_model.specs.declared.life.Life.TheVariants.{Called, Running, Over}
use Rattle.jd_model.specs.declared.life.Answer.TheVariants.{Asked, Kept, Given}
use Rattle.jd_model.specs.declared.mark.Effect.{Effect}
use Rattle.jd_model.specs.declared.mark.Effect.TheVariants.{Ran, Started, Took, Returned, Local, Printed}
use Rattle.jd_model.specs.declared.ending.Ending.{Ending}
use Rattle.jd_model.specs.Table.{put, put2, put3, one, All}
use Rattle.jd_laws.proofs.Basics.{and_left, some_same, same_test, at_put2, at_put3, ap_both}
use Rattle.jd_model.specs.Machine.{State, Task, Request, joined, legal_at, does, with_life, refreshed, turned, wants, set_by_end, set_cell, settled, passed_on, ending_of, gives, is_task, after}
use Rattle.jd_model.specs.Node.{Node}
use Rattle.jd_model.specs.World.{marked}
use Rattle.jd_laws.proofs.Changes.{settles, resumes, is_waits, with_answer, new_cell, called_by}
use Rattle.jd_laws.proofs.Reached.{IsReached}
use Rattle.jd_laws.proofs.Effects.{runnable, startable, takable, returnable, lookable, printable, ran_state, start_state, took_state, returned_state, looked_state, print_state, printed_state}
use Rattle.jd_laws.proofs.Sound.{first_mark, is_legal_at, effect_reached}
use Rattle.jd_model.specs.Refines.{IsSound, is_ready}
use Rattle.jd_model.specs.Node.{Running as RunningTask}
use Rattle.jd_laws.proofs.Fits.{NodeFits, runs_at, opens}

-- All that process q shows is the same, and no outcome is gone.
pub record Unseen (q : ℕ) (s u : State) : Type 0 where
  pub workers : u.workers ≡ s.workers
  pub noticed : u.noticed q ≡ s.noticed q
  pub called : u.called q ≡ s.called q
  pub asked : u.asked q ≡ s.asked q
  pub made : u.made q ≡ s.made q
  pub tasks : (m n : ℕ) → runs_at q (u.tasks m n) ≡ runs_at q (s.tasks m n)
  pub stored : (m i : ℕ) → joined (u.cells m i q) ≡ joined (s.cells m i q)
  pub grows : (m i o : ℕ) (v : Outcome) → joined (s.cells m i o) ≡ Some v → joined (u.cells m i o) ≡ Some v
  pub requests : (c : ℕ) → opens (u.requests q c) ≡ opens (s.requests q c)
  pub fetched : u.fetched q ≡ s.fetched q

pub unseen_fits : (q : ℕ) (n : Node) (s u : State) → Unseen q s u → NodeFits q n s → NodeFits q n u
unseen_fits q n s u e a = record {
  workers = a.workers ∙ sym e.workers;
  noticed = a.noticed ∙ sym e.noticed;
  called = a.called ∙ sym e.called;
  asked = a.asked ∙ sym e.asked;
  made = a.made ∙ sym e.made;
  tasks = record {
    same = λ i j. a.tasks.same i j ∙ sym (e.tasks i j);
    once = λ i j. a.tasks.once i j ∙ ap (λ x. one (is_ready x)) (sym (e.tasks i j));
  };
  stored = λ m i. a.stored m i ∙ sym (e.stored m i);
  asks = λ c. a.asks c ∙ sym (e.requests c);
  cache = λ m i o v h. e.grows m i o v (a.cache m i o v h);
  fetched = subst (λ (rs : List RefId). All (λ r. is_some (n.cache r.maker r.number r.owner) ≡ true) rs) (sym e.fetched) a.fetched;
  running = a.running;
}

unseen_self : (q : ℕ) (s : State) → Unseen q s s
unseen_self q s = record {
  workers = refl;
  noticed = refl;
  called = refl;
  asked = refl;
  made = refl;
  tasks = λ m n. refl;
  stored = λ m i. refl;
  grows = λ m i o v h. h;
  requests = λ c. refl;
  fetched = refl;
}

unseen_then : (q : ℕ) (s u v : State) → Unseen q s u → Unseen q u v → Unseen q s v
unseen_then q s u v a b = record {
  workers = b.workers ∙ a.workers;
  noticed = b.noticed ∙ a.noticed;
  called = b.called ∙ a.called;
  asked = b.asked ∙ a.asked;
  made = b.made ∙ a.made;
  tasks = λ m n. b.tasks m n ∙ a.tasks m n;
  stored = λ m i. b.stored m i ∙ a.stored m i;
  grows = λ m i o x h. b.grows m i o x (a.grows m i o x h);
  requests = λ c. b.requests c ∙ a.requests c;
  fetched = b.fetched ∙ a.fetched;
}

-- ---- the changes of another process

life_unseen : (q : ℕ) (s : State) (t : TaskId) (k : Task) (l : Life) → s.tasks t.process t.number ≡ Some k → (k.home == q) ≡ false → Unseen q s (with_life s t k l)
life_unseen q s t k l e ne = record {
  workers = refl;
  noticed = refl;
  called = refl;
  asked = refl;
  made = refl;
  tasks = λ m n. at_put2 s.tasks t.process t.number (Some (record k { life = l })) m n (λ z. runs_at q z ≡ runs_at q (s.tasks m n))
      (λ em en. elsewhere (record k { life = l }) ne ∙ sym (ap (runs_at q) (ap_both s.tasks em en ∙ e) ∙ elsewhere k ne))
      (λ _. refl);
  stored = λ m i. refl;
  grows = λ m i o v h. h;
  requests = λ c. refl;
  fetched = refl;
}
  where
    elsewhere : (x : Task) → (x.home == q) ≡ false → runs_at q (Some x) ≡ None
    elsewhere x other = rw other refl

-- What it has fetched, and what the machine counts besides.
rest_unseen : (q : ℕ) (s : State) (h : ℕ) (refs : List RefId) (running : List TaskId) (lines : List (List ℕ)) (ending : Option Ending) → (q == h) ≡ false
    → Unseen q s (record s { fetched = put s.fetched h refs; running = running; lines = lines; ending = ending })
rest_unseen q s h refs running lines ending ne = record {
  workers = refl;
  noticed = refl;
  called = refl;
  asked = refl;
  made = refl;
  tasks = λ m n. refl;
  stored = λ m i. refl;
  grows = λ m i o v h. h;
  requests = λ c. refl;
  fetched = rw ne refl;
}

counts_unseen : (q : ℕ) (s : State) (running : List TaskId) (lines : List (List ℕ)) (ending : Option Ending)
    → Unseen q s (record s { running = running; lines = lines; ending = ending })
counts_unseen q s running lines ending = record {
  workers = refl;
  noticed = refl;
  called = refl;
  asked = refl;
  made = refl;
  tasks = λ m n. refl;
  stored = λ m i. refl;
  grows = λ m i o v h. h;
  requests = λ c. refl;
  fetched = refl;
}

asked_unseen : (q : ℕ) (s : State) (h c d : ℕ) (x : Option Request) → (q == h) ≡ false
    → Unseen q s (record s { requests = put2 s.requests h c x; asked = put s.asked h d })
asked_unseen q s h c d x ne = record {
  workers = refl;
  noticed = refl;
  called = refl;
  asked = rw ne refl;
  made = refl;
  tasks = λ m n. refl;
  stored = λ m i. refl;
  grows = λ m i o v h. h;
  requests = λ b. rw ne refl;
  fetched = refl;
}

request_unseen : (q : ℕ) (s : State) (h c : ℕ) (x : Option Request) → (q == h) ≡ false → Unseen q s (record s { requests = put2 s.requests h c x })
request_unseen q s h c x ne = record {
  workers = refl;
  noticed = refl;
  called = refl;
  asked = refl;
  made = refl;
  tasks = λ m n. refl;
  stored = λ m i. refl;
  grows = λ m i o v h. h;
  requests = λ b. rw ne refl;
  fetched = refl;
}

-- An answer that is kept changes nothing for its process.
answer_unseen : (q : ℕ) (s : State) (p c : ℕ) (r : Request) (o : Outcome) → s.requests p c ≡ Some r → r.answer ≡ Asked → Unseen q s (with_answer s p c r (Kept o))
answer_unseen q s p c r o e asked = record {
  workers = refl;
  noticed = refl;
  called = refl;
  asked = refl;
  made = refl;
  tasks = λ m n. refl;
  stored = λ m i. refl;
  grows = λ m i o v h. h;
  requests = λ b. at_put2 s.requests p c (Some (record r { answer = Kept o })) q b (λ z. opens z ≡ opens (s.requests q b))
      (λ eq eb. sym (ap opens (ap_both s.requests eq eb ∙ e) ∙ rw asked refl))
      (λ _. refl);
  fetched = refl;
}

cell_unseen : (q : ℕ) (s : State) (r : RefId) (o : Outcome) → (r.owner == q) ≡ false → Unseen q s (set_cell s r o)
cell_unseen q s r o ne = record {
  workers = refl;
  noticed = refl;
  called = refl;
  asked = refl;
  made = refl;
  tasks = λ m n. refl;
  stored = λ m i. at_put3 s.cells r.maker r.number r.owner (settled (s.cells r.maker r.number r.owner) o) m i q (λ z. joined z ≡ joined (s.cells m i q))
      (λ em en eo. absurd (grind (arith, nat_tests, ne, eo)))
      (λ _. refl);
  grows = λ m i x v h. settles s r o (record { maker = m; number = i; owner = x }) v h;
  requests = λ c. refl;
  fetched = refl;
}

-- A new cell has no outcome yet.
pub fresh_cell : (s : State) (h owner : ℕ) → IsSound s → (m i o : ℕ) → joined (put3 s.cells h (s.made h + 1) owner (Some None) m i o) ≡ joined (s.cells m i o)
fresh_cell s h owner a m i o =
    at_put3 s.cells h (s.made h + 1) owner (Some None) m i o (λ z. joined z ≡ joined (s.cells m i o))
    (λ em ei eo. sym (ap joined ((λ j. s.cells (em j) (ei j) (eo j)) ∙ a.no_cell h (s.made h + 1) owner (omega arith))))
    (λ _. refl)

-- Nor does a new task run.
pub fresh_task : (q : ℕ) (s : State) (h owner : ℕ) (code : Closure) (args : List Value) → IsSound s → (m n : ℕ)
    → runs_at q ((called_by s h owner code args).tasks m n) ≡ runs_at q (s.tasks m n)
fresh_task q s h owner code args a m n =
    at_put2 s.tasks h (s.called h + 1) (Some new) m n (λ z. runs_at q z ≡ runs_at q (s.tasks m n))
    (λ em en. not_running (owner == q) ∙ sym (ap (runs_at q) (ap_both s.tasks em en ∙ a.no_task h (s.called h + 1) (omega arith))))
    (λ _. refl)
  where
    new : Task
    new = record { home = owner; cell = Some (new_cell s h owner); life = Called code args }

    nothing : Option RunningTask
    nothing = None

    not_running : (b : Bool) → (if b then nothing else nothing) ≡ nothing
    not_running true = refl
    not_running false = refl

call_unseen : (q : ℕ) (s : State) (h owner : ℕ) (code : Closure) (args : List Value) → IsSound s → (q == h) ≡ false → Unseen q s (called_by s h owner code args)
call_unseen q s h owner code args a ne = record {
  workers = refl;
  noticed = refl;
  called = rw ne refl;
  asked = refl;
  made = rw ne refl;
  tasks = fresh_task q s h owner code args a;
  stored = λ m i. fresh_cell s h owner a m i q;
  grows = λ m i o v e. fresh_cell s h owner a m i o ∙ e;
  requests = λ c. refl;
  fetched = refl;
}

-- ---- the effects of another process

end_unseen : (q : ℕ) (s : State) (h : ℕ) (c : Option RefId) (o : Outcome) → ((r : RefId) → c ≡ Some r → (r.owner == q) ≡ false) → Unseen q s (set_by_end s h c o)
end_unseen q s h None o ne = counts_unseen q s s.running s.lines (Some (ending_of o))
end_unseen q s h (Some r) o ne = cell_unseen q s r (passed_on h o) (ne r refl)

wants_unseen : (q : ℕ) (s : State) (t : TaskId) (k : Task) (x : Place) (want : Asking) → IsReached s → s.tasks t.process t.number ≡ Some k → is_waits k.life ≡ false
    → (k.home == q) ≡ false → (q == k.home) ≡ false → Unseen q s (wants s t k x want)
wants_unseen q s t k x (asking.Answers v) a e r ne ne2 = life_unseen q s t k _ e ne
wants_unseen q s t k x (asking.Prints vs) a e r ne ne2 = life_unseen q s t k _ e ne
wants_unseen q s t k x (asking.Fetches c) a e r ne ne2 =
    unseen_then q s (with_life s t k (Running x (stage.Waits (s.asked k.home + 1)))) _ (life_unseen q s t k _ e ne)
    (asked_unseen q _ k.home (s.asked k.home + 1) (s.asked k.home + 1) _ ne2)
wants_unseen q s t k x (asking.Calls p code args) a e r ne ne2 =
    let l : Life = Running x (stage.Ready (Ok (Future (new_cell s k.home p)))) in
    unseen_then q s (with_life s t k l) _ (life_unseen q s t k l e ne)
    (call_unseen q (with_life s t k l) k.home p code args (resumes s t k l a.sound e r refl refl) ne2)

turn_unseen : (q : ℕ) (s : State) (t : TaskId) (k : Task) (x : Place) (turn : Turn) → IsReached s → s.tasks t.process t.number ≡ Some k → is_waits k.life ≡ false
    → (k.home == q) ≡ false → (q == k.home) ≡ false → Unseen q s (turned s t k x turn)
turn_unseen q s t k x (Asks op) a e r ne ne2 = wants_unseen q s t k x _ a e r ne ne2
turn_unseen q s t k x (Ended v) a e r ne ne2 =
    let gone = filter (λ u. not (is_task t u)) s.running in
    unseen_then q s (with_life s t k Over) _ (life_unseen q s t k Over e ne)
    (unseen_then q (with_life s t k Over) (record (with_life s t k Over) { running = gone }) _
    (counts_unseen q (with_life s t k Over) gone s.lines s.ending)
    (end_unseen q (record (with_life s t k Over) { running = gone }) k.home k.cell v
    (λ c h. subst (λ z. (z == q) ≡ false) (sym (a.cell_home t.process t.number k c e h)) ne)))

refreshed_unseen : (q : ℕ) (s : State) (p : ℕ) → (q == p) ≡ false → Unseen q s (refreshed s p)
refreshed_unseen q s p ne = rest_unseen q s p _ s.running s.lines s.ending ne

gives_unseen : (q : ℕ) (s : State) (t : TaskId) (k : Task) (place : Place) (c : ℕ) (r : Request) (o : Outcome) → s.tasks t.process t.number ≡ Some k
    → (k.home == q) ≡ false → (q == k.home) ≡ false → Unseen q s (gives s t k place c r (Some o))
gives_unseen q s t k place c r o e ne ne2 =
    let life = with_life s t k (Running place (stage.Ready o)) in
    let asked = record life { requests = put2 s.requests k.home c (Some (record r { answer = Given })) } in
    unseen_then q s life _ (life_unseen q s t k _ e ne)
    (unseen_then q life asked _ (request_unseen q life k.home c (Some (record r { answer = Given })) ne2)
    (unseen_then q asked _ _ (rest_unseen q asked k.home _ s.running s.lines s.ending ne2) (refreshed_unseen q _ k.home ne2)))

other_way : (q p : ℕ) → (q == p) ≡ false → (p == q) ≡ false
other_way q p e = grind (arith, nat_tests, e)

at_home : (q by : ℕ) (k : Task) → (q == by) ≡ false → k.home ≡ by → ((k.home == q) ≡ false) × ((q == k.home) ≡ false)
at_home q by k ne home = (grind (arith, nat_tests, ne, home), grind (arith, nat_tests, ne, home))

pub effect_unseen : (q : ℕ) (s : State) (e : Effect) (by : ℕ) → IsReached s → legal_at s e by ≡ true → (q == by) ≡ false → Unseen q s (does s e)
effect_unseen q s (Ran t) by a l ne =
    let r = runnable s t by a l in
    let h = at_home q by r.0 ne r.3.home in
    subst (Unseen q s) (sym (ran_state s t by r.0 r.1 r.2 r.3))
    (unseen_then q s _ _ (turn_unseen q s t r.0 (advance r.1 r.2).0 (advance r.1 r.2).1 a r.3.there (ap is_waits r.3.life) h.0 h.1) (refreshed_unseen q _ r.0.home h.1))
effect_unseen q s (Started t) by a l ne =
    let r = startable s t by l in
    let h = at_home q by r.0 ne r.3.home in
    let life = with_life s t r.0 (Running (called_place r.1 r.2) (stage.Ready (Ok Nothing))) in
    subst (Unseen q s) (sym (start_state s t by r.0 r.1 r.2 r.3))
    (unseen_then q s life _ (life_unseen q s t r.0 _ r.3.there h.0) (counts_unseen q life (s.running ++ t ∷ []) s.lines s.ending))
effect_unseen q s (Took x) by a l ne =
    let r = takable s x.process x.number by l in
    subst (Unseen q s) (sym (took_state s x.process x.number by r.0 r.1 r.2)) (answer_unseen q s x.process x.number r.0 r.1 r.2.there r.2.asked)
effect_unseen q s (Returned t) by a l ne =
    let r = returnable s t by l in
    let h = at_home q by r.0 ne r.5.home in
    subst (Unseen q s) (sym (returned_state s t by r.0 r.1 r.2 r.3 r.4 r.5 r.6)) (gives_unseen q s t r.0 r.1 r.2 r.3 r.4 r.5.there h.0 h.1)
effect_unseen q s (Local t) by a l ne =
    let r = lookable s t by l in
    let h = at_home q by r.0 ne r.5.home in
    subst (Unseen q s) (sym (looked_state s t by r.0 r.1 r.2 r.3 r.4 r.5 r.7)) (gives_unseen q s t r.0 r.1 r.2 r.3 r.4 r.5.there h.0 h.1)
effect_unseen q s Printed by a l ne =
    let r = printable s by l in
    let one_by : by ≡ 1 = same_test by 1 (and_left _ _ l) in
    let h = at_home q by r.0 ne (a.main_home r.0 r.3.there ∙ sym one_by) in
    let main : TaskId = record { process = 1; number = 0 } in
    let life = with_life s main r.0 (Running r.1 (stage.Ready (Ok Nothing))) in
    subst (Unseen q s) (sym (print_state s r.0 r.1 r.2 r.3))
    (unseen_then q s life _ (life_unseen q s main r.0 _ r.3.there h.0) (counts_unseen q life s.running (printed_state s r.0 r.1 r.2).lines s.ending))

-- All effects of a step of another process.
pub effects_unseen : (q p : ℕ) (s : State) (es : List Effect) (u : State) → IsReached s → after (Some s) (map (marked p) es) ≡ Some u → (q == p) ≡ false → Unseen q s u
effects_unseen q p s [] u a h ne = subst (Unseen q s) (some_same _ _ h) (unseen_self q s)
effects_unseen q p s (e ∷ es) u a h ne =
    let f = first_mark s (marked p e) (map (marked p) es) u h in
    let l = is_legal_at s (marked p e) f.legal in
    unseen_then q s (does s e) u (effect_unseen q s e p a l ne) (effects_unseen q p (does s e) es u (effect_reached s e p a l) f.rest ne)

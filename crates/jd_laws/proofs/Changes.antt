-- How each change of the machine's state keeps what holds in each state that it comes to.
use Rattle.std.proofs.Common.{◌≡◌, ℕ, ◌+◌, ◌≤◌, ◌==◌, List, Option, Some, None, Bool, true, false, ◌&&◌, ◌⊎◌, inl, inr, Ok, refl, arith, ap, sym, subst, ◌∙◌}
use Rattle.std.proofs.lemmas.Bool.Decides.{nat_tests}
use Rattle.jd_value.specs.declared.reference.RefId.{RefId}
use Rattle.jd_value.specs.declared.value.Value.{Value}
use Rattle.jd_value.specs.declared.value.Value.TheVariants.{Nothing}
use Rattle.jd_value.specs.declared.tree.Program.{Program}
use Rattle.jd_task.specs.declared.job.TaskId.{TaskId}
use Rattle.jd_task.specs.declared.closure.Closure.{Closure}
use Rattle.jd_task.specs.declared.place.Place.{Place}
use Rattle.jd_task.specs.Places.{main_place}
use Rattle.jd_model.specs.Outcome.{Outcome}
use Rattle.jd_model.specs.declared.life.Stage.TheVariants as stage
use Rattle.jd_model.specs.declared.life.Life.{Life}
use Rattle.jd_model.specs.declared.life.Life.TheVariants.{Called, Running}
use Rattle.jd_model.specs.declared.life.Answer.{Answer}
use Rattle.jd_model.specs.declared.life.Answer.TheVariants.{Asked, Kept, Given}
use Rattle.jd_model.specs.declared.ending.Ending.{Ending}
use Rattle.jd_model.specs.declared.start.Start.{Start}
use Rattle.jd_model.specs.Table.{put, put2, put3}
use Rattle.jd_laws.proofs.Basics.{some_same, at_put2, at_put3, put2-same, ap_both}
use Rattle.jd_model.specs.Machine.{State, Task, Request, first, joined, outcome_of, is_called, has, with_life, settled, set_cell, first_of, asks_for}
use Rattle.jd_model.specs.Asking.{is_known}
use Rattle.jd_model.specs.Refines.{IsSound, IsWaitedBy, IsAskedBy}

-- What the machine counts besides makes no difference.
pub refits : (s : State) (running : List TaskId) (fetched : ℕ → List RefId) (lines : List (List ℕ)) (ending : Option Ending)
    → IsSound s → IsSound (record s { running = running; fetched = fetched; lines = lines; ending = ending })
refits s running fetched lines ending a = record {
  no_task = a.no_task;
  no_request = a.no_request;
  no_cell = a.no_cell;
  homes = a.homes;
  main_home = a.main_home;
  cell_home = a.cell_home;
  no_cell_home = a.no_cell_home;
  cell_made = a.cell_made;
  begun = a.begun;
  waits = a.waits;
  waited = a.waited;
  kept = a.kept;
}

pub known_one : (workers : ℕ) → is_known workers 1 ≡ true
known_one workers = grind (arith, nat_tests)

pub first_sound : (program : Program) (start : Start) → IsSound (first program start)
first_sound program start = record {
  no_task = λ p n h. grind (arith, nat_tests, h);
  no_request = λ p a h. refl;
  no_cell = λ m n o h. refl;
  homes = λ p n k h. main_only p n k h (λ x. is_known start.workers x.home ≡ true) (known_one start.workers);
  main_home = λ k h. sym (ap (λ (x : Task). x.home) (some_same _ _ h));
  cell_home = λ p n k r h c. main_only p n k h (λ x. x.cell ≡ Some r → r.owner ≡ x.home) (λ e. cc) c;
  no_cell_home = λ p n k h c. main_only p n k h (λ x. x.home ≡ 1) refl;
  cell_made = λ p n k r h c. main_only p n k h (λ x. x.cell ≡ Some r → r.number ≤ 0) (λ e. cc) c;
  begun = λ p n k h c. main_only p n k h (λ x. is_called x.life ≡ false) refl;
  waits = λ p n a k place h l. main_only p n k h (λ x. x.life ≡ Running place (stage.Waits a) → IsAskedBy (first program start) x.home a p n) (λ e. cc) l;
  waited = λ p a q h g. cc;
  kept = λ p a q o h g. cc;
}
  where
    main_only : (p n : ℕ) (k : Task) → (first program start).tasks p n ≡ Some k → (P : Task → Type 0)
        → P (record { home = 1; cell = None; life = Running (main_place program) (stage.Ready (Ok Nothing)) }) → P k
    main_only p n k h P here =
        at_put2 (λ p n. None) 1 0 (Some (record { home = 1; cell = None; life = Running (main_place program) (stage.Ready (Ok Nothing)) })) p n (λ o. o ≡ Some k → P k)
        (λ e f i. subst P (some_same _ _ i) here) (λ e i. cc) h

-- ---- a task's life

abbrev pub is_waits : Life → Bool
is_waits (Running place (stage.Waits a)) = true
is_waits _ = false

-- This is the task t with its new life, or another.
pub record IsNew (t : TaskId) (p n : ℕ) (x k : Task) (l : Life) : Type 0 where
  pub process : p ≡ t.process
  pub number : n ≡ t.number
  pub task : x ≡ record k { life = l }

pub record IsOld (t : TaskId) (p n : ℕ) (x k : Task) : Type 0 where
  pub other : (p == t.process && n == t.number) ≡ false
  pub task : x ≡ k

pub record Was (s : State) (t : TaskId) (p n : ℕ) (x : Task) (l : Life) : Type 0 where
  pub task : Task
  pub there : s.tasks p n ≡ Some task
  pub home : x.home ≡ task.home
  pub cell : x.cell ≡ task.cell
  pub life : IsOld t p n x task ⊎ IsNew t p n x task l

pub was : (s : State) (t : TaskId) (k : Task) (l : Life) → s.tasks t.process t.number ≡ Some k → (p n : ℕ) (x : Task)
    → (with_life s t k l).tasks p n ≡ Some x → Was s t p n x l
was s t k l e p n x h =
    at_put2 s.tasks t.process t.number (Some (record k { life = l })) p n (λ o. o ≡ Some x → Was s t p n x l)
    (λ ep en i. let same = sym (some_same _ _ i) in record {
      task = k;
      there = cc;
      home = ap (λ (y : Task). y.home) same;
      cell = ap (λ (y : Task). y.cell) same;
      life = inr (record { process = ep; number = en; task = same });
    })
    (λ other i. record { task = x; there = i; home = refl; cell = refl; life = inl (record { other = other; task = refl }) })
    h

-- Another task is as it was.
pub stays : (s : State) (t : TaskId) (k : Task) (l : Life) → s.tasks t.process t.number ≡ Some k → (p n : ℕ) (x : Task)
    → s.tasks p n ≡ Some x → (x ≡ k → ⊥) → (with_life s t k l).tasks p n ≡ Some x
stays s t k l e p n x h ne =
    at_put2 s.tasks t.process t.number (Some (record k { life = l })) p n (λ o. o ≡ Some x)
    (λ ep en. absurd (ne (some_same _ _ (let there : s.tasks t.process t.number ≡ Some x = cc in sym there ∙ e))))
    (λ other. h)

-- A task goes on or ends, which waited for nothing.
pub resumes : (s : State) (t : TaskId) (k : Task) (l : Life) → IsSound s → s.tasks t.process t.number ≡ Some k
    → is_waits k.life ≡ false → is_waits l ≡ false → is_called l ≡ false → IsSound (with_life s t k l)
resumes s t k l a e was_ready now_ready now_begun = record {
  no_task = λ p n h. let old = a.no_task p n h in grind (arith, nat_tests, old, e);
  no_request = a.no_request;
  no_cell = a.no_cell;
  homes = λ p n x h. let w = was s t k l e p n x h in ap (is_known s.workers) w.home ∙ a.homes p n w.task w.there;
  main_home = λ x h. let w = was s t k l e 1 0 x h in w.home ∙ a.main_home w.task w.there;
  cell_home = λ p n x r h c. let w = was s t k l e p n x h in a.cell_home p n w.task r w.there (sym w.cell ∙ c) ∙ sym w.home;
  no_cell_home = λ p n x h c. let w = was s t k l e p n x h in w.home ∙ a.no_cell_home p n w.task w.there (sym w.cell ∙ c);
  cell_made = λ p n x r h c. let w = was s t k l e p n x h in a.cell_made p n w.task r w.there (sym w.cell ∙ c);
  begun = λ p n x h c. let w = was s t k l e p n x h in
      elim w.life as (λ z. is_called x.life ≡ false) [
        | inl old ↦ ap (λ (y : Task). is_called y.life) old.task ∙ a.begun p n w.task w.there (sym w.cell ∙ c)
        | inr new ↦ ap (λ (y : Task). is_called y.life) new.task ∙ now_begun
      ];
  waits = λ p n b x place h r. let w = was s t k l e p n x h in
      elim w.life as (λ z. IsAskedBy s x.home b p n) [
        | inl old ↦ subst (λ y. IsAskedBy s y b p n) (sym w.home) (a.waits p n b w.task place w.there (ap (λ (y : Task). y.life) (sym old.task) ∙ r))
        | inr new ↦ let c : is_waits l ≡ true = ap is_waits (ap (λ (y : Task). y.life) (sym new.task) ∙ r) in cc
      ];
  waited = λ p b q h g. let o = a.waited p b q h g in
      (o.0, o.1, stays s t k l e q.task.process q.task.number o.0 o.2 (λ same. let c : is_waits k.life ≡ true = ap (λ (y : Task). is_waits y.life) (sym same) ∙ ap is_waits o.4 in cc), o.3, o.4);
  kept = a.kept;
}

-- ---- requests

-- A task asks for the outcome of a cell.
pub asks : (s : State) (t : TaskId) (k : Task) (place : Place) (r : RefId) (c : ℕ) → IsSound s → s.tasks t.process t.number ≡ Some k
    → is_waits k.life ≡ false → c ≡ s.asked k.home + 1 → IsSound (asks_for s t k place r c)
asks s t k place r c a e was_ready number = record {
  no_task = λ p n h. let old = a.no_task p n h in grind (arith, nat_tests, old, e);
  no_request = λ p b h. let old = a.no_request p b in grind (arith, nat_tests, old, h, number);
  no_cell = a.no_cell;
  homes = λ p n x h. let w = was s t k l e p n x h in ap (is_known s.workers) w.home ∙ a.homes p n w.task w.there;
  main_home = λ x h. let w = was s t k l e 1 0 x h in w.home ∙ a.main_home w.task w.there;
  cell_home = λ p n x y h i. let w = was s t k l e p n x h in a.cell_home p n w.task y w.there (sym w.cell ∙ i) ∙ sym w.home;
  no_cell_home = λ p n x h i. let w = was s t k l e p n x h in w.home ∙ a.no_cell_home p n w.task w.there (sym w.cell ∙ i);
  cell_made = λ p n x y h i. let w = was s t k l e p n x h in a.cell_made p n w.task y w.there (sym w.cell ∙ i);
  begun = λ p n x h i. let w = was s t k l e p n x h in
      elim w.life as (λ z. is_called x.life ≡ false) [
        | inl old ↦ ap (λ (y : Task). is_called y.life) old.task ∙ a.begun p n w.task w.there (sym w.cell ∙ i)
        | inr new ↦ ap (λ (y : Task). is_called y.life) new.task
      ];
  waits = λ p n b x place2 h i. let w = was s t k l e p n x h in
      elim w.life as (λ z. IsAskedBy (asks_for s t k place r c) x.home b p n) [
        | inl old ↦
            let o = subst (λ y. IsAskedBy s y b p n) (sym w.home) (a.waits p n b w.task place2 w.there (ap (λ (y : Task). y.life) (sym old.task) ∙ i)) in
            (o.0, still x.home b o.0 o.1, o.2, o.3)
        | inr new ↦
            let le : Running place (stage.Waits c) ≡ Running place2 (stage.Waits b) = ap (λ (y : Task). y.life) (sym new.task) ∙ i in
            let be : b ≡ c = cc in
            let he : x.home ≡ k.home = w.home ∙ ap (λ (y : Task). y.home) (some_same _ _ (sym w.there ∙ ap_both s.tasks new.process new.number ∙ e)) in
            (q0, rw (be, he) (put2-same s.requests k.home c (Some q0)), sym (λ j. record { process = new.process j; number = new.number j }), λ g. cc)
      ];
  waited = λ p b q h g.
      at_put2 s.requests k.home c (Some q0) p b (λ o. o ≡ Some q → IsWaitedBy (asks_for s t k place r c) p b q)
      (λ ep eb i. let same : q0 ≡ q = some_same _ _ i in
      (record k { life = l }, place, subst (λ (y : Request). (with_life s t k l).tasks y.task.process y.task.number ≡ Some (record k { life = l })) same (put2-same s.tasks t.process t.number (Some (record k { life = l }))), sym ep, ap (λ z. Running place (stage.Waits z)) (sym eb)))
      (λ other i. let o = a.waited p b q i g in
      (o.0, o.1, stays s t k l e q.task.process q.task.number o.0 o.2 (λ same. let z : is_waits k.life ≡ true = ap (λ (y : Task). is_waits y.life) (sym same) ∙ ap is_waits o.4 in cc), o.3, o.4))
      h;
  kept = λ p b q o h g.
      at_put2 s.requests k.home c (Some q0) p b (λ x. x ≡ Some q → outcome_of s q.cell ≡ Some o)
      (λ ep eb i. let f : Asked ≡ Kept o = ap (λ (y : Request). y.answer) (some_same _ _ i) ∙ g in cc)
      (λ other i. a.kept p b q o i g)
      h;
}
  where
    l : Life
    l = Running place (stage.Waits c)

    q0 : Request
    q0 = record { task = t; cell = r; is_here = has (s.fetched k.home) r; answer = Asked }

    still : (h b : ℕ) (q : Request) → s.requests h b ≡ Some q → put2 s.requests k.home c (Some q0) h b ≡ Some q
    still h b q there =
        at_put2 s.requests k.home c (Some q0) h b (λ o. o ≡ Some q)
        (λ eh eb. let z : s.requests k.home c ≡ None = a.no_request k.home c (omega arith) in let y : s.requests k.home c ≡ Some q = cc in cc)
        (λ other. there)

-- A request is answered, and the answer is kept for its task.
abbrev pub with_answer : State → ℕ → ℕ → Request → Answer → State
with_answer s p c q answer = record s { requests = put2 s.requests p c (Some (record q { answer = answer })) }

pub answers : (s : State) (p c : ℕ) (q : Request) (o : Outcome) → IsSound s → s.requests p c ≡ Some q → (q.answer ≡ Given → ⊥)
    → outcome_of s q.cell ≡ Some o → IsSound (with_answer s p c q (Kept o))
answers s p c q o a e open_ there = record {
  no_task = a.no_task;
  no_request = λ x b h. let old = a.no_request x b h in grind (arith, nat_tests, old, e);
  no_cell = a.no_cell;
  homes = a.homes;
  main_home = a.main_home;
  cell_home = a.cell_home;
  no_cell_home = a.no_cell_home;
  cell_made = a.cell_made;
  begun = a.begun;
  waits = λ x n b k place h i. let old = a.waits x n b k place h i in
      at_put2 s.requests p c (Some new) k.home b (λ z. z ≡ put2 s.requests p c (Some new) k.home b → IsAskedBy (with_answer s p c q (Kept o)) k.home b x n)
      (λ ep eb i. let same : old.0 ≡ q = some_same _ _ (sym old.1 ∙ ap_both s.requests ep eb ∙ e) in
      (new, sym i, ap (λ (y : Request). y.task) (sym same) ∙ old.2, λ g. cc))
      (λ other i. (old.0, sym i ∙ old.1, old.2, old.3))
      refl;
  waited = λ x b y h g.
      at_put2 s.requests p c (Some new) x b (λ z. z ≡ Some y → IsWaitedBy s x b y)
      (λ ep eb i. let old = a.waited p c q e open_ in
      subst (λ (v : Request). IsWaitedBy s x b v) (some_same _ _ i)
      (old.0, old.1, old.2, old.3 ∙ sym ep, old.4 ∙ ap (λ z. Running old.1 (stage.Waits z)) (sym eb)))
      (λ other i. a.waited x b y i g)
      h;
  kept = λ x b y v h g.
      at_put2 s.requests p c (Some new) x b (λ z. z ≡ Some y → outcome_of s y.cell ≡ Some v)
      (λ ep eb i. let same = some_same _ _ i in
      let answer : Kept o ≡ Kept v = ap (λ (u : Request). u.answer) same ∙ g in
      let outcome : o ≡ v = cc in
      ap (λ (u : Request). outcome_of s u.cell) (sym same) ∙ there ∙ ap Some outcome)
      (λ other i. a.kept x b y v i g)
      h;
}
  where
    new : Request
    new = record q { answer = Kept o }

-- The task has its answer, and goes on.
pub gets : (s : State) (t : TaskId) (k : Task) (place : Place) (c : ℕ) (q : Request) (l : Life) → IsSound s → s.tasks t.process t.number ≡ Some k
    → k.life ≡ Running place (stage.Waits c) → s.requests k.home c ≡ Some q → is_waits l ≡ false → is_called l ≡ false
    → IsSound (record (with_life s t k l) { requests = put2 s.requests k.home c (Some (record q { answer = Given })) })
gets s t k place c q l a e waiting asked now_ready now_begun = record {
  no_task = λ p n h. let old = a.no_task p n h in grind (arith, nat_tests, old, e);
  no_request = λ x b h. let old = a.no_request x b h in grind (arith, nat_tests, old, asked);
  no_cell = a.no_cell;
  homes = λ p n x h. let w = was s t k l e p n x h in ap (is_known s.workers) w.home ∙ a.homes p n w.task w.there;
  main_home = λ x h. let w = was s t k l e 1 0 x h in w.home ∙ a.main_home w.task w.there;
  cell_home = λ p n x y h i. let w = was s t k l e p n x h in a.cell_home p n w.task y w.there (sym w.cell ∙ i) ∙ sym w.home;
  no_cell_home = λ p n x h i. let w = was s t k l e p n x h in w.home ∙ a.no_cell_home p n w.task w.there (sym w.cell ∙ i);
  cell_made = λ p n x y h i. let w = was s t k l e p n x h in a.cell_made p n w.task y w.there (sym w.cell ∙ i);
  begun = λ p n x h i. let w = was s t k l e p n x h in
      elim w.life as (λ z. is_called x.life ≡ false) [
        | inl old ↦ ap (λ (y : Task). is_called y.life) old.task ∙ a.begun p n w.task w.there (sym w.cell ∙ i)
        | inr new ↦ ap (λ (y : Task). is_called y.life) new.task ∙ now_begun
      ];
  waits = λ p n b x place2 h i. let w = was s t k l e p n x h in
      elim w.life as (λ z. IsAskedBy after_it x.home b p n) [
        | inl old ↦
            let o = subst (λ y. IsAskedBy s y b p n) (sym w.home) (a.waits p n b w.task place2 w.there (ap (λ (y : Task). y.life) (sym old.task) ∙ i)) in
            (o.0, still x.home b p n o.0 o.1 o.2 old.other, o.2, o.3)
        | inr new ↦ let z : is_waits l ≡ true = ap is_waits (ap (λ (y : Task). y.life) (sym new.task) ∙ i) in cc
      ];
  waited = λ p b y h g.
      at_put2 s.requests k.home c (Some given_it) p b (λ o. o ≡ Some y → IsWaitedBy after_it p b y)
      (λ ep eb i. absurd (g (ap (λ (u : Request). u.answer) (sym (some_same _ _ i)))))
      (λ other i. let o = a.waited p b y i g in
      (o.0, o.1, stays s t k l e y.task.process y.task.number o.0 o.2 (λ same. elsewhere p b o.0 o.1 other o.3 o.4 same), o.3, o.4))
      h;
  kept = λ p b y o h g.
      at_put2 s.requests k.home c (Some given_it) p b (λ x. x ≡ Some y → outcome_of s y.cell ≡ Some o)
      (λ ep eb i. let f : Given ≡ Kept o = ap (λ (u : Request). u.answer) (some_same _ _ i) ∙ g in cc)
      (λ other i. a.kept p b y o i g)
      h;
}
  where
    given_it : Request
    given_it = record q { answer = Given }

    after_it : State
    after_it = record (with_life s t k l) { requests = put2 s.requests k.home c (Some given_it) }

    mine : q.task ≡ record { process = t.process; number = t.number }
    mine = let o = a.waits t.process t.number c k place e waiting in ap (λ (u : Request). u.task) (some_same _ _ (sym asked ∙ o.1)) ∙ o.2

    still : (h b p n : ℕ) (y : Request) → s.requests h b ≡ Some y → y.task ≡ record { process = p; number = n } → (p == t.process && n == t.number) ≡ false
        → put2 s.requests k.home c (Some given_it) h b ≡ Some y
    still h b p n y there task other =
        at_put2 s.requests k.home c (Some given_it) h b (λ o. o ≡ Some y)
        (λ eh eb.
        let same : y ≡ q = some_same _ _ (sym there ∙ ap_both s.requests eh eb ∙ asked) in
        let tasks : record { process = p; number = n } ≡ record { process = t.process; number = t.number } = sym task ∙ ap (λ (u : Request). u.task) same ∙ mine in
        let ep : p ≡ t.process = ap (λ (u : TaskId). u.process) tasks in
        let en : n ≡ t.number = ap (λ (u : TaskId). u.number) tasks in
        absurd (grind (arith, nat_tests, other, ep, en)))
        (λ _. there)

    elsewhere : (p b : ℕ) (x : Task) (place2 : Place) → (p == k.home && b == c) ≡ false → x.home ≡ p → x.life ≡ Running place2 (stage.Waits b) → x ≡ k → ⊥
    elsewhere p b x place2 other home life same =
        let ep : k.home ≡ p = ap (λ (u : Task). u.home) (sym same) ∙ home in
        let lives : Running place (stage.Waits c) ≡ Running place2 (stage.Waits b) = sym waiting ∙ ap (λ (u : Task). u.life) (sym same) ∙ life in
        let eb : c ≡ b = cc in
        grind (arith, nat_tests, other, ep, eb)

-- ---- cells

-- A cell's outcome stays.
pub settles : (s : State) (r : RefId) (o : Outcome) (x : RefId) (v : Outcome) → outcome_of s x ≡ Some v → outcome_of (set_cell s r o) x ≡ Some v
settles s r o x v h =
    at_put3 s.cells r.maker r.number r.owner (settled (s.cells r.maker r.number r.owner) o) x.maker x.number x.owner (λ c. joined c ≡ Some v)
    (λ em en eo. let there : joined (s.cells r.maker r.number r.owner) ≡ Some v = subst (λ c. joined c ≡ Some v) (λ j. s.cells (em j) (en j) (eo j)) h in
    ap (λ c. Some (first_of c o)) there)
    (λ other. h)

pub sets : (s : State) (r : RefId) (o : Outcome) → IsSound s → r.number ≤ s.made r.maker → IsSound (set_cell s r o)
sets s r o a made = record {
  no_task = a.no_task;
  no_request = a.no_request;
  no_cell = λ m n x h. let old = a.no_cell m n x h in
      at_put3 s.cells r.maker r.number r.owner (settled (s.cells r.maker r.number r.owner) o) m n x (λ c. c ≡ None)
      (λ em en eo. absurd (let em2 : s.made m ≡ s.made r.maker = ap s.made em in omega arith))
      (λ other. old);
  homes = a.homes;
  main_home = a.main_home;
  cell_home = a.cell_home;
  no_cell_home = a.no_cell_home;
  cell_made = a.cell_made;
  begun = a.begun;
  waits = a.waits;
  waited = a.waited;
  kept = λ p b q v h g. settles s r o q.cell v (a.kept p b q v h g);
}

-- ---- calls

abbrev pub new_cell : State → ℕ → ℕ → RefId
new_cell s h owner = record { maker = h; number = s.made h + 1; owner = owner }

abbrev pub new_task : RefId → Closure → List Value → Task
new_task r code args = record { home = r.owner; cell = Some r; life = Called code args }

-- A process calls a task, which is to set a new cell.
abbrev pub called_by : State → ℕ → ℕ → Closure → List Value → State
called_by s h owner code args = record s {
  tasks = put2 s.tasks h (s.called h + 1) (Some (new_task (new_cell s h owner) code args));
  cells = put3 s.cells h (s.made h + 1) owner (Some None);
  made = put s.made h (s.made h + 1);
  called = put s.called h (s.called h + 1);
}

pub adds : (s : State) (h owner : ℕ) (code : Closure) (args : List Value) → IsSound s → is_known s.workers owner ≡ true → IsSound (called_by s h owner code args)
adds s h owner code args a known = record {
  no_task = λ p n i. let old = a.no_task p n in grind (arith, nat_tests, old, i);
  no_request = a.no_request;
  no_cell = λ m n o i. let old = a.no_cell m n o in grind (arith, nat_tests, old, i);
  homes = λ p n x i. task_of p n x (λ p n y. is_known s.workers y.home ≡ true) i known (λ j. a.homes p n x j);
  main_home = λ x i. task_of 1 0 x (λ p n y. (p ≡ 1) → n ≡ 0 → y.home ≡ 1) i (λ ep en. absurd (omega arith)) (λ j ep en. a.main_home x j) refl refl;
  cell_home = λ p n x r i. task_of p n x (λ p n y. y.cell ≡ Some r → r.owner ≡ y.home) i (λ c. ap (λ (u : RefId). u.owner) (sym (some_same _ _ c))) (λ j. a.cell_home p n x r j);
  no_cell_home = λ p n x i. task_of p n x (λ p n y. y.cell ≡ None → y.home ≡ 1) i (λ c. cc) (λ j. a.no_cell_home p n x j);
  cell_made = λ p n x r i. task_of p n x (λ p n y. y.cell ≡ Some r → r.number ≤ put s.made h (s.made h + 1) r.maker) i
      (λ c. subst (λ (u : RefId). u.number ≤ put s.made h (s.made h + 1) u.maker) (some_same _ _ c) (grind (arith, nat_tests)))
      (λ j c. let old = a.cell_made p n x r j c in grind (arith, nat_tests, old));
  begun = λ p n x i. task_of p n x (λ p n y. y.cell ≡ None → is_called y.life ≡ false) i (λ c. cc) (λ j. a.begun p n x j);
  waits = λ p n b x place i. task_of p n x (λ p n y. y.life ≡ Running place (stage.Waits b) → IsAskedBy s y.home b p n) i (λ c. cc) (λ j. a.waits p n b x place j);
  waited = λ p b q i g. let o = a.waited p b q i g in (o.0, o.1, old_task q.task.process q.task.number o.0 o.2, o.3, o.4);
  kept = λ p b q v i g. old_cell q.cell v (a.kept p b q v i g);
}
  where
    new : Task
    new = new_task (new_cell s h owner) code args

    task_of : (p n : ℕ) (x : Task) (P : ℕ → ℕ → Task → Type 0) → put2 s.tasks h (s.called h + 1) (Some new) p n ≡ Some x
        → P h (s.called h + 1) new → (s.tasks p n ≡ Some x → P p n x) → P p n x
    task_of p n x P i now old =
        at_put2 s.tasks h (s.called h + 1) (Some new) p n (λ o. o ≡ Some x → P p n x)
        (λ ep en j. subst (λ (u : Task). P p n u) (some_same _ _ j) (subst (λ y. P y n new) (sym ep) (subst (λ y. P h y new) (sym en) now)))
        (λ other j. old j)
        i

    old_task : (p n : ℕ) (x : Task) → s.tasks p n ≡ Some x → put2 s.tasks h (s.called h + 1) (Some new) p n ≡ Some x
    old_task p n x there =
        at_put2 s.tasks h (s.called h + 1) (Some new) p n (λ o. o ≡ Some x)
        (λ ep en. let z : s.tasks h (s.called h + 1) ≡ None = a.no_task h (s.called h + 1) (omega arith) in let y : s.tasks h (s.called h + 1) ≡ Some x = cc in cc)
        (λ other. there)

    old_cell : (r : RefId) (v : Outcome) → outcome_of s r ≡ Some v → joined (put3 s.cells h (s.made h + 1) owner (Some None) r.maker r.number r.owner) ≡ Some v
    old_cell r v there =
        at_put3 s.cells h (s.made h + 1) owner (Some None) r.maker r.number r.owner (λ c. joined c ≡ Some v)
        (λ em en eo.
        let z : s.cells h (s.made h + 1) owner ≡ None = a.no_cell h (s.made h + 1) owner (omega arith) in
        let y : joined (s.cells h (s.made h + 1) owner) ≡ Some v = subst (λ c. joined c ≡ Some v) (λ j. s.cells (em j) (en j) (eo j)) there in
        let x : joined (s.cells h (s.made h + 1) owner) ≡ None = ap joined z in
        cc)
        (λ other. there)

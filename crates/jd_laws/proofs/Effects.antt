-- What a legal effect finds, and what it leaves.
use Rattle.std.proofs.Common.{◌≡◌, ℕ, ◌==◌, List, [], ◌∷◌, ◌++◌, Option, Some, None, Bool, true, false, not, is_some, Ok, refl, ap, sym, ◌∙◌}
use Rattle.jd_value.specs.declared.value.Value.{Value}
use Rattle.jd_value.specs.declared.value.Value.TheVariants.{Nothing}
use Rattle.jd_task.specs.declared.job.TaskId.{TaskId}
use Rattle.jd_task.specs.declared.closure.Closure.{Closure}
use Rattle.jd_task.specs.declared.place.Place.{Place}
use Rattle.jd_task.specs.Running.{advance}
use Rattle.jd_task.specs.Places.{called_place}
use Rattle.jd_model.specs.Outcome.{Outcome}
use Rattle.jd_model.specs.declared.life.Stage.{Stage}
use Rattle.jd_model.specs.declared.life.Stage.TheVariants as stage
use Rattle.jd_model.specs.declared.life.Life.{Life}
use Rattle.jd_model.specs.declared.life.Life.TheVariants.{Called, Running, Over}
use Rattle.jd_model.specs.declared.life.Answer.{Answer}
use Rattle.jd_model.specs.declared.life.Answer.TheVariants.{Asked, Kept, Given}
use Rattle.jd_model.specs.declared.mark.Mark.{Mark}
use Rattle.jd_model.specs.declared.mark.Effect.{Effect}
use Rattle.jd_model.specs.declared.mark.Effect.TheVariants.{Ran, Started, Took, Returned, Local, Printed}
use Rattle.jd_laws.proofs.Basics.{and_left, and_right, not_is, some_is, same_test, test_self}
use Rattle.jd_model.specs.Machine as machine
use Rattle.jd_model.specs.Machine.{State, Task, Request, outcome_of, is_live, is_asked, is_kept, exited, exited_by, is_cut_off, goes_on, is_called, has_come, is_set, line_of_life, line_of_task, request_of, legal_at, legal, does, with_life, refreshed, turned, gives, started_at, printed_at, line, main_id, kept_answer, answer_at, kept}
use Rattle.jd_laws.proofs.Changes.{with_answer}
use Rattle.jd_laws.proofs.Reached.{IsReached}

-- ---- what an effect finds

-- The task can go on with this answer.
pub record IsRunnable (s : State) (t : TaskId) (by : ℕ) (k : Task) (place : Place) (o : Outcome) : Type 0 where
  pub there : s.tasks t.process t.number ≡ Some k
  pub home : k.home ≡ by
  pub life : k.life ≡ Running place (stage.Ready o)

pub record IsStartable (s : State) (t : TaskId) (by : ℕ) (k : Task) (code : Closure) (args : List Value) : Type 0 where
  pub there : s.tasks t.process t.number ≡ Some k
  pub home : k.home ≡ by
  pub life : k.life ≡ Called code args

-- The request waits for the cell, which is set.
pub record IsTakable (s : State) (p c by : ℕ) (q : Request) (o : Outcome) : Type 0 where
  pub there : s.requests p c ≡ Some q
  pub owner : q.cell.owner ≡ by
  pub asked : q.answer ≡ Asked
  pub away : q.is_here ≡ false
  pub outcome : outcome_of s q.cell ≡ Some o

-- The task waits for this request.
pub record IsWaiting (s : State) (t : TaskId) (by : ℕ) (k : Task) (place : Place) (c : ℕ) (q : Request) : Type 0 where
  pub there : s.tasks t.process t.number ≡ Some k
  pub home : k.home ≡ by
  pub life : k.life ≡ Running place (stage.Waits c)
  pub request : s.requests k.home c ≡ Some q

pub record IsPrintable (s : State) (k : Task) (place : Place) (values : List Value) : Type 0 where
  pub there : s.tasks 1 0 ≡ Some k
  pub life : k.life ≡ Running place (stage.Prints values)

pub exited_none : (s : State) (p : ℕ) (r : Option Request) → IsReached s → exited s p r ≡ None
exited_none s p None a = refl
exited_none s p (Some q) a = by_answer q.answer (is_cut_off s p q) (rw (a.calm p q.cell.owner) refl)
  where
    by_answer : (x : Answer) (b : Bool) → b ≡ false → exited_by b q.cell.owner x ≡ None
    by_answer Given b e = refl
    by_answer Asked b e = rw e refl
    by_answer (Kept o) b e = rw e refl

can_go : (s : State) (p : ℕ) (l : Life) → IsReached s → goes_on s p l ≡ true → (place : Place) × (o : Outcome) × (l ≡ Running place (stage.Ready o))
can_go s p (Called code args) a h = cc
can_go s p Over a h = cc
can_go s p (Running place (stage.Ready o)) a h = (place, o, refl)
can_go s p (Running place (stage.Prints vs)) a h = cc
can_go s p (Running place (stage.Waits c)) a h = let none : is_some (exited s p (s.requests p c)) ≡ false = ap is_some (exited_none s p (s.requests p c) a) in cc

pub runnable : (s : State) (t : TaskId) (by : ℕ) → IsReached s → legal_at s (Ran t) by ≡ true
    → (k : Task) × (place : Place) × (o : Outcome) × IsRunnable s t by k place o
runnable s t by a h = find (s.tasks t.process t.number) refl h
  where
    find : (x : Option Task) → s.tasks t.process t.number ≡ x → machine.may_run s by x ≡ true → (k : Task) × (place : Place) × (o : Outcome) × IsRunnable s t by k place o
    find None e h = cc
    find (Some k) e h =
        let g = can_go s k.home k.life a (and_right _ _ (and_right (by == k.home) _ h)) in
        (k, g.0, g.1, record { there = e; home = sym (same_test by k.home (and_left _ _ h)); life = g.2 })

pub startable : (s : State) (t : TaskId) (by : ℕ) → legal_at s (Started t) by ≡ true → (k : Task) × (code : Closure) × (args : List Value) × IsStartable s t by k code args
startable s t by h = find (s.tasks t.process t.number) refl h
  where
    called : (l : Life) → is_called l ≡ true → (code : Closure) × (args : List Value) × (l ≡ Called code args)
    called (Called code args) h = (code, args, refl)
    called (Running place st) h = cc
    called Over h = cc

    find : (x : Option Task) → s.tasks t.process t.number ≡ x → machine.may_start s by t.process x ≡ true → (k : Task) × (code : Closure) × (args : List Value) × IsStartable s t by k code args
    find None e h = cc
    find (Some k) e h =
        let l = called k.life (and_right _ _ (and_right _ _ (and_right (by == k.home) _ h))) in
        (k, l.0, l.1, record { there = e; home = sym (same_test by k.home (and_left _ _ h)); life = l.2 })

pub asked_is : (x : Answer) → is_asked x ≡ true → x ≡ Asked
asked_is Asked h = refl
asked_is (Kept o) h = cc
asked_is Given h = cc

is_kept_is : (x : Answer) → is_kept x ≡ true → (o : Outcome) × (x ≡ Kept o)
is_kept_is Asked h = cc
is_kept_is (Kept o) h = (o, refl)
is_kept_is Given h = cc

pub takable : (s : State) (p c by : ℕ) → legal_at s (Took (record { process = p; number = c })) by ≡ true → (q : Request) × (o : Outcome) × IsTakable s p c by q o
takable s p c by h = find (s.requests p c) refl h
  where
    find : (x : Option Request) → s.requests p c ≡ x → machine.may_take s by p x ≡ true → (q : Request) × (o : Outcome) × IsTakable s p c by q o
    find None e h = cc
    find (Some q) e h =
        let h1 = and_right (by == q.cell.owner) _ h in
        let h2 = and_right (is_live s by) _ h1 in
        let h3 = and_right (not (s.noticed by p)) _ h2 in
        let h4 = and_right (is_asked q.answer) _ h3 in
        let o = some_is (outcome_of s q.cell) (and_right (not q.is_here) _ h4) in
        (q, o.0, record { there = e; owner = sym (same_test by q.cell.owner (and_left _ _ h)); asked = asked_is q.answer (and_left _ _ h3); away = not_is q.is_here (and_left _ _ h4); outcome = o.1 })

-- The request of a task that has one.
found_request : (s : State) (p : ℕ) (l : Life) (q : Request) → request_of s p l ≡ Some q → (place : Place) × (c : ℕ) × (l ≡ Running place (stage.Waits c)) × (s.requests p c ≡ Some q)
found_request s p (Called code args) q h = cc
found_request s p Over q h = cc
found_request s p (Running place (stage.Ready o)) q h = cc
found_request s p (Running place (stage.Prints vs)) q h = cc
found_request s p (Running place (stage.Waits c)) q h = (place, c, refl, h)

pub returnable : (s : State) (t : TaskId) (by : ℕ) → legal_at s (Returned t) by ≡ true
    → (k : Task) × (place : Place) × (c : ℕ) × (q : Request) × (o : Outcome) × (w : IsWaiting s t by k place c q) × (q.answer ≡ Kept o)
returnable s t by h = find (s.tasks t.process t.number) refl h
  where
    come : (k : Task) (x : Option Request) → has_come s k.home x ≡ true → (q : Request) × (o : Outcome) × (x ≡ Some q) × (q.answer ≡ Kept o)
    come k None h = cc
    come k (Some q) h = let o = is_kept_is q.answer (and_left _ _ h) in (q, o.0, refl, o.1)

    find : (x : Option Task) → s.tasks t.process t.number ≡ x → machine.may_return s by x ≡ true
        → (k : Task) × (place : Place) × (c : ℕ) × (q : Request) × (o : Outcome) × (w : IsWaiting s t by k place c q) × (q.answer ≡ Kept o)
    find None e h = cc
    find (Some k) e h =
        let i = come k (request_of s k.home k.life) (and_right _ _ (and_right (by == k.home) _ h)) in
        let r = found_request s k.home k.life i.0 i.2 in
        (k, r.0, r.1, i.0, i.1, record { there = e; home = sym (same_test by k.home (and_left _ _ h)); life = r.2; request = r.3 }, i.3)

pub lookable : (s : State) (t : TaskId) (by : ℕ) → legal_at s (Local t) by ≡ true
    → (k : Task) × (place : Place) × (c : ℕ) × (q : Request) × (o : Outcome) × (w : IsWaiting s t by k place c q) × (q.answer ≡ Asked) × (outcome_of s q.cell ≡ Some o)
lookable s t by h = find (s.tasks t.process t.number) refl h
  where
    set_by : (x : Option Request) → is_set s x ≡ true → (q : Request) × (o : Outcome) × (x ≡ Some q) × (q.answer ≡ Asked) × (outcome_of s q.cell ≡ Some o)
    set_by None h = cc
    set_by (Some q) h = let o = some_is (outcome_of s q.cell) (and_right (is_asked q.answer) _ h) in (q, o.0, refl, asked_is q.answer (and_left _ _ h), o.1)

    find : (x : Option Task) → s.tasks t.process t.number ≡ x → machine.may_look s by x ≡ true
        → (k : Task) × (place : Place) × (c : ℕ) × (q : Request) × (o : Outcome) × (w : IsWaiting s t by k place c q) × (q.answer ≡ Asked) × (outcome_of s q.cell ≡ Some o)
    find None e h = cc
    find (Some k) e h =
        let i = set_by (request_of s k.home k.life) (and_right _ _ (and_right (by == k.home) _ h)) in
        let r = found_request s k.home k.life i.0 i.2 in
        (k, r.0, r.1, i.0, i.1, record { there = e; home = sym (same_test by k.home (and_left _ _ h)); life = r.2; request = r.3 }, i.3, i.4)

pub printable : (s : State) (by : ℕ) → legal_at s Printed by ≡ true → (k : Task) × (place : Place) × (values : List Value) × IsPrintable s k place values
printable s by h = find (s.tasks 1 0) refl (and_right (by == 1) _ h)
  where
    of_life : (l : Life) → is_some (line_of_life l) ≡ true → (place : Place) × (values : List Value) × (l ≡ Running place (stage.Prints values))
    of_life (Called code args) h = cc
    of_life Over h = cc
    of_life (Running place (stage.Ready o)) h = cc
    of_life (Running place (stage.Waits c)) h = cc
    of_life (Running place (stage.Prints vs)) h = (place, vs, refl)

    find : (x : Option Task) → s.tasks 1 0 ≡ x → is_some (line_of_task x) ≡ true → (k : Task) × (place : Place) × (values : List Value) × IsPrintable s k place values
    find None e h = cc
    find (Some k) e h = let l = of_life k.life h in (k, l.0, l.1, record { there = e; life = l.2 })

-- ---- what an effect leaves

pub ran_state : (s : State) (t : TaskId) (by : ℕ) (k : Task) (place : Place) (o : Outcome) → IsRunnable s t by k place o
    → does s (Ran t) ≡ refreshed (turned s t k (advance place o).0 (advance place o).1) k.home
ran_state s t by k place o r = ap (machine.ran s t) r.there ∙ ap (machine.ran_at s t k) r.life

abbrev pub started_state : State → TaskId → Task → Closure → List Value → State
started_state s t k code args = record (with_life s t k (Running (called_place code args) (stage.Ready (Ok Nothing)))) { running = s.running ++ t ∷ [] }

pub start_state : (s : State) (t : TaskId) (by : ℕ) (k : Task) (code : Closure) (args : List Value) → IsStartable s t by k code args
    → does s (Started t) ≡ started_state s t k code args
start_state s t by k code args r = ap (machine.started s t) r.there ∙ ap (machine.started_at s t k) r.life

pub took_state : (s : State) (p c by : ℕ) (q : Request) (o : Outcome) → IsTakable s p c by q o
    → does s (Took (record { process = p; number = c })) ≡ with_answer s p c q (Kept o)
took_state s p c by q o r = ap (machine.taken s p c) r.there ∙ ap (λ (x : Option Outcome). with_answer s p c q (kept x)) r.outcome

pub returned_state : (s : State) (t : TaskId) (by : ℕ) (k : Task) (place : Place) (c : ℕ) (q : Request) (o : Outcome) → IsWaiting s t by k place c q → q.answer ≡ Kept o
    → does s (Returned t) ≡ gives s t k place c q (Some o)
returned_state s t by k place c q o w e =
    ap (machine.returned s t) w.there ∙ ap (machine.returned_at s t k) w.life ∙ ap (machine.returned_to s t k place c) w.request ∙ ap (λ (x : Answer). gives s t k place c q (kept_answer x)) e

pub looked_state : (s : State) (t : TaskId) (by : ℕ) (k : Task) (place : Place) (c : ℕ) (q : Request) (o : Outcome) → IsWaiting s t by k place c q → outcome_of s q.cell ≡ Some o
    → does s (Local t) ≡ gives s t k place c q (Some o)
looked_state s t by k place c q o w e =
    ap (machine.looked s t) w.there ∙ ap (machine.looked_at s t k) w.life ∙ ap (machine.looked_to s t k place c) w.request ∙ ap (gives s t k place c q) e

abbrev pub printed_state : State → Task → Place → List Value → State
printed_state s k place values = record (with_life s main_id k (Running place (stage.Ready (Ok Nothing)))) { lines = s.lines ++ line values ∷ [] }

pub print_state : (s : State) (k : Task) (place : Place) (values : List Value) → IsPrintable s k place values → does s Printed ≡ printed_state s k place values
print_state s k place values r = ap (machine.printed s) r.there ∙ ap (printed_at s k) r.life

-- ---- where an effect is legal

abbrev pub mark : Effect → ℕ → Mark
mark e p = record { effect = e; by = p }

pub live : (s : State) → IsReached s → (p : ℕ) → is_live s p ≡ true
live s a p = rw (a.alive p) refl

pub run_legal : (s : State) (t : TaskId) (by : ℕ) (k : Task) (place : Place) (o : Outcome) → IsReached s → s.ending ≡ None → IsRunnable s t by k place o
    → legal s (mark (Ran t) by) ≡ true
run_legal s t by k place o a e r = rw (e, r.there, r.life, a.alive k.home, r.home) (rw (test_self by) refl)

pub start_legal : (s : State) (t : TaskId) (by : ℕ) (k : Task) (code : Closure) (args : List Value) → IsReached s → s.ending ≡ None → IsStartable s t by k code args
    → legal s (mark (Started t) by) ≡ true
start_legal s t by k code args a e r = rw (e, r.there, r.life, a.alive k.home, a.calm k.home t.process, r.home) (rw (test_self by) refl)

pub take_legal : (s : State) (p c by : ℕ) (q : Request) (o : Outcome) → IsReached s → s.ending ≡ None → IsTakable s p c by q o
    → legal s (mark (Took (record { process = p; number = c })) by) ≡ true
take_legal s p c by q o a e r = rw (e, r.there, r.asked, r.away, r.outcome, r.owner, a.alive by, a.calm by p) (rw (test_self by) refl)

pub return_legal : (s : State) (t : TaskId) (by : ℕ) (k : Task) (place : Place) (c : ℕ) (q : Request) (o : Outcome) → IsReached s → s.ending ≡ None
    → IsWaiting s t by k place c q → q.answer ≡ Kept o → legal s (mark (Returned t) by) ≡ true
return_legal s t by k place c q o a e w i = rw (e, w.there, w.life, w.request, i, a.alive k.home, a.calm k.home q.cell.owner, w.home) (rw (test_self by) refl)

pub look_legal : (s : State) (t : TaskId) (by : ℕ) (k : Task) (place : Place) (c : ℕ) (q : Request) (o : Outcome) → IsReached s → s.ending ≡ None
    → IsWaiting s t by k place c q → q.answer ≡ Asked → outcome_of s q.cell ≡ Some o → legal s (mark (Local t) by) ≡ true
look_legal s t by k place c q o a e w i there = rw (e, w.there, w.life, w.request, i, there, a.alive k.home, w.home) (rw (test_self by) refl)

pub print_legal : (s : State) (k : Task) (place : Place) (values : List Value) → s.ending ≡ None → IsPrintable s k place values → legal s (mark Printed 1) ≡ true
print_legal s k place values e r = rw (e, r.there, r.life) refl

-- ---- where losses may have been noticed

-- The task can go on with this answer: the one that it was given, or that its request's process has exited.
pub record IsGoing (s : State) (t : TaskId) (by : ℕ) (k : Task) (place : Place) (st : Stage) (o : Outcome) : Type 0 where
  pub there : s.tasks t.process t.number ≡ Some k
  pub home : k.home ≡ by
  pub life : k.life ≡ Running place st
  pub answer : answer_at s k.home st ≡ Some o

pub going : (s : State) (t : TaskId) (by : ℕ) → legal_at s (Ran t) by ≡ true → (k : Task) × (place : Place) × (st : Stage) × (o : Outcome) × IsGoing s t by k place st o
going s t by h = find (s.tasks t.process t.number) refl h
  where
    Found : Type 0
    Found = (k : Task) × (place : Place) × (st : Stage) × (o : Outcome) × IsGoing s t by k place st o

    of_life : (k : Task) (l : Life) → s.tasks t.process t.number ≡ Some k → k.home ≡ by → k.life ≡ l → goes_on s k.home l ≡ true → Found
    of_life k (Called code args) e home life g = cc
    of_life k Over e home life g = cc
    of_life k (Running place st) e home life g =
        let o = some_is (answer_at s k.home st) g in
        (k, place, st, o.0, record { there = e; home = home; life = life; answer = o.1 })

    find : (x : Option Task) → s.tasks t.process t.number ≡ x → machine.may_run s by x ≡ true → Found
    find None e h = cc
    find (Some k) e h = of_life k k.life e (sym (same_test by k.home (and_left _ _ h))) refl (and_right _ _ (and_right (by == k.home) _ h))

pub going_state : (s : State) (t : TaskId) (by : ℕ) (k : Task) (place : Place) (st : Stage) (o : Outcome) → IsGoing s t by k place st o
    → does s (Ran t) ≡ refreshed (turned (machine.answered s k.home st) t k (advance place o).0 (advance place o).1) k.home
going_state s t by k place st o g = ap (machine.ran s t) g.there ∙ ap (machine.ran_at s t k) g.life ∙ ap (machine.ran_with s t k place st) g.answer

-- What Returned and Local do is what the task gets.
use Rattle.std.proofs.Common.{◌≡◌, ℕ, List, Option, None, Some, refl, ap, option_map, ◌∙◌, sym}
use Rattle.jd_value.specs.declared.reference.RefId.{RefId}
use Rattle.jd_task.specs.declared.job.TaskId.{TaskId}
use Rattle.jd_task.specs.declared.place.Place.{Place}
use Rattle.jd_model.specs.Outcome.{Outcome}
use Rattle.jd_model.specs.declared.life.Answer.TheVariants as answer
use Rattle.jd_model.specs.declared.life.Life.{Life}
use Rattle.jd_model.specs.declared.life.Life.TheVariants.{Called, Running, Over}
use Rattle.jd_model.specs.declared.life.Stage.TheVariants as stage
use Rattle.jd_model.specs.Machine.{State, kept_answer, outcome_of, Task, Request, gives, refreshed, add_once, returned, returned_at, returned_to, looked, looked_at, looked_to}
use Rattle.jd_model.specs.Table.{put, put2}
use Rattle.jd_plain.specs.declared.gift.Gift.{Gift}
use Rattle.jd_plain.specs.declared.gift.Source.TheVariants as source
use Rattle.jd_plain.specs.Held.{life_at, task_at, answered_with}
use Rattle.jd_plain.specs.Steps.{gift_with, gift_for, gift_in, gift_of, given_by}

pub three_tables : (s : State) (ts ts' : ℕ → ℕ → Option Task) (qs qs' : ℕ → ℕ → Option Request) (fs fs' : ℕ → List RefId) → ts ≡ ts' → qs ≡ qs' → fs ≡ fs'
    → ◌≡◌ {A = State} (record s { tasks = ts; requests = qs; fetched = fs }) (record s { tasks = ts'; requests = qs'; fetched = fs' })
three_tables s ts ts' qs qs' fs fs' t q f = λ i. record s { tasks = t i; requests = q i; fetched = f i }

module _ (s : State) (t : TaskId) (k : Task) (place : Place) (a : ℕ) (task : s.tasks t.process t.number ≡ Some k) (life : k.life ≡ Running place (stage.Waits a)) where
  gives_as : (q : Request) → s.requests k.home a ≡ Some q → (o : Option Outcome) → gives s t k place a q o ≡ given_by s t (gift_with k.home a q o)
  gives_as q request None = refl
  gives_as q request (Some o) =
      let P : Life → Option Task = λ l. Some (record k { life = life_at (stage.Ready o) l }) in
      let there : Some (record k { life = Running place (stage.Ready o) }) ≡ option_map (task_at (stage.Ready o)) (s.tasks t.process t.number) =
      ap P (sym life) ∙ ap (option_map (task_at (stage.Ready o))) (sym task) in
      let asked : Some (record q { answer = answer.Given }) ≡ option_map (answered_with answer.Given) (s.requests k.home a) =
      ap (option_map (answered_with answer.Given)) (sym request) in
      λ i. refreshed (record s {
        tasks = put2 s.tasks t.process t.number (there i);
        requests = put2 s.requests k.home a (asked i);
        fetched = put s.fetched k.home (add_once (s.fetched k.home) q.cell);
      }) k.home

  returned_to-as : (o : Option Request) → s.requests k.home a ≡ o → returned_to s t k place a o ≡ given_by s t (gift_for source.Kept s k.home a o)
  returned_to-as None request = refl
  returned_to-as (Some q) request = gives_as q request (kept_answer q.answer)

  looked_to-as : (o : Option Request) → s.requests k.home a ≡ o → looked_to s t k place a o ≡ given_by s t (gift_for source.Cell s k.home a o)
  looked_to-as None request = refl
  looked_to-as (Some q) request = gives_as q request (outcome_of s q.cell)

module _ (s : State) (t : TaskId) (k : Task) (task : s.tasks t.process t.number ≡ Some k) where
  returned_at-as : (l : Life) → k.life ≡ l → returned_at s t k l ≡ given_by s t (gift_in source.Kept s k.home l)
  returned_at-as (Called code args) life = refl
  returned_at-as Over life = refl
  returned_at-as (Running place (stage.Ready o)) life = refl
  returned_at-as (Running place (stage.Prints vs)) life = refl
  returned_at-as (Running place (stage.Waits a)) life = returned_to-as s t k place a task life (s.requests k.home a) refl

  looked_at-as : (l : Life) → k.life ≡ l → looked_at s t k l ≡ given_by s t (gift_in source.Cell s k.home l)
  looked_at-as (Called code args) life = refl
  looked_at-as Over life = refl
  looked_at-as (Running place (stage.Ready o)) life = refl
  looked_at-as (Running place (stage.Prints vs)) life = refl
  looked_at-as (Running place (stage.Waits a)) life = looked_to-as s t k place a task life (s.requests k.home a) refl

module _ (s : State) (t : TaskId) where
  returned_of : (o : Option Task) → s.tasks t.process t.number ≡ o → returned s t o ≡ given_by s t (gift_of source.Kept s o)
  returned_of None task = refl
  returned_of (Some k) task = returned_at-as s t k task k.life refl

  looked_of : (o : Option Task) → s.tasks t.process t.number ≡ o → looked s t o ≡ given_by s t (gift_of source.Cell s o)
  looked_of None task = refl
  looked_of (Some k) task = looked_at-as s t k task k.life refl

  pub returned_as : given_by s t (gift_of source.Kept s (s.tasks t.process t.number)) ≡ returned s t (s.tasks t.process t.number)
  returned_as = sym (returned_of (s.tasks t.process t.number) refl)

  pub looked_as : given_by s t (gift_of source.Cell s (s.tasks t.process t.number)) ≡ looked s t (s.tasks t.process t.number)
  looked_as = sym (looked_of (s.tasks t.process t.number) refl)

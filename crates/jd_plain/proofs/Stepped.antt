-- Steps of tasks that were taken out of the table are the machine's.
use Rattle.std.proofs.Common.{◌≡◌, ℕ, ◌+◌, List, Option, None, Some, refl, ap, ◌∙◌, sym, filter, not, [], ◌∷◌, ◌++◌, Ok}
use Rattle.jd_value.specs.declared.reference.RefId.{RefId}
use Rattle.jd_value.specs.declared.value.Value.TheVariants.{Nothing, Future}
use Rattle.jd_task.specs.declared.job.TaskId.{TaskId}
use Rattle.jd_task.specs.declared.job.Turn.{Turn}
use Rattle.jd_task.specs.declared.job.Turn.TheVariants.{Asks, Ended}
use Rattle.jd_task.specs.declared.place.Place.{Place}
use Rattle.jd_task.specs.Places.{called_place}
use Rattle.jd_task.specs.Running.{advance}
use Rattle.jd_model.specs.declared.asking.Asking.{Asking}
use Rattle.jd_model.specs.declared.asking.Asking.TheVariants as asking
use Rattle.jd_model.specs.declared.life.Answer.TheVariants as answer
use Rattle.jd_model.specs.declared.life.Life.{Life}
use Rattle.jd_model.specs.declared.life.Life.TheVariants.{Called, Running, Over}
use Rattle.jd_model.specs.declared.life.Stage.{Stage}
use Rattle.jd_model.specs.declared.life.Stage.TheVariants as stage
use Rattle.jd_model.specs.Outcome.{Outcome}
use Rattle.jd_model.specs.Machine.{State, Task, Request, turned, over, wants, with_life, refreshed, ran, ran_at, ran_with, started, started_at, is_task, is_main, ending_of, passed_on, settled, has}
use Rattle.jd_model.specs.Asking as wish
use Rattle.jd_model.specs.Table.{put, put2, put3}
use Rattle.jd_plain.specs.declared.going.Ready.{Ready}
use Rattle.jd_plain.specs.declared.going.Calling.{Calling}
use Rattle.jd_plain.specs.declared.plain.Plain.{Plain}
use Rattle.jd_plain.specs.State.{state_of}
use Rattle.jd_plain.specs.Steps.{ready_task, calling_task, IsNotReady, IsNotCalled, without, advanced, begun}
use Rattle.jd_plain.proofs.Puts.{put2-put2, put2-same}
use Rattle.jd_plain.proofs.Unlost.{exited-none}

-- ---- the task stands in the state or not

module _ (s : State) (t : TaskId) (home : ℕ) (life : Life) where
  over-without : (cell : Option RefId) (o : Outcome)
      → over (without s t) t (record { home = home; cell = cell; life = Over }) o ≡ over s t (record { home = home; cell = cell; life = life }) o
  over-without None o =
      λ i. record s {
        tasks = put2-put2 s.tasks t.process t.number None (Some (record { home = home; cell = None; life = Over })) i;
        running = filter (λ u. not (is_task t u)) s.running;
        ending = Some (ending_of o);
      }
  over-without (Some r) o =
      λ i. record s {
        tasks = put2-put2 s.tasks t.process t.number None (Some (record { home = home; cell = Some r; life = Over })) i;
        running = filter (λ u. not (is_task t u)) s.running;
        cells = put3 s.cells r.maker r.number r.owner (settled (s.cells r.maker r.number r.owner) (passed_on home o));
      }

  wants-without : (cell : Option RefId) (place : Place) (a : Asking)
      → wants (without s t) t (record { home = home; cell = cell; life = Over }) place a ≡ wants s t (record { home = home; cell = cell; life = life }) place a
  wants-without cell place (asking.Answers o) =
      λ i. record s { tasks = put2-put2 s.tasks t.process t.number None (Some (record { home = home; cell = cell; life = Running place (stage.Ready o) })) i }
  wants-without cell place (asking.Prints vs) =
      λ i. record s { tasks = put2-put2 s.tasks t.process t.number None (Some (record { home = home; cell = cell; life = Running place (stage.Prints vs) })) i }
  wants-without cell place (asking.Fetches r) =
      λ i. record s {
        tasks = put2-put2 s.tasks t.process t.number None (Some (record { home = home; cell = cell; life = Running place (stage.Waits (s.asked home + 1)) })) i;
        requests = put2 s.requests home (s.asked home + 1) (Some (record { task = t; cell = r; is_here = has (s.fetched home) r; answer = answer.Asked }));
        asked = put s.asked home (s.asked home + 1);
      }
  wants-without cell place (asking.Calls p code args) =
      let r : RefId = record { maker = home; number = s.made home + 1; owner = p } in
      λ i. record s {
        tasks = put2 (put2-put2 s.tasks t.process t.number None (Some (record { home = home; cell = cell; life = Running place (stage.Ready (Ok (Future r))) })) i) home (s.called home + 1)
            (Some (record { home = p; cell = Some r; life = Called code args }));
        cells = put3 s.cells home (s.made home + 1) p (Some None);
        made = put s.made home (s.made home + 1);
        called = put s.called home (s.called home + 1);
      }

  turned-without : (cell : Option RefId) (place : Place) (turn : Turn)
      → turned (without s t) t (record { home = home; cell = cell; life = Over }) place turn ≡ turned s t (record { home = home; cell = cell; life = life }) place turn
  turned-without cell place (Ended o) = over-without cell o
  turned-without cell place (Asks op) = wants-without cell place (wish.asking s.workers (s.noticed home) (is_main t) op)

module _ (s : State) (t : TaskId) where
  pub advanced-without : (r : Ready) → Some (ready_task r) ≡ s.tasks t.process t.number → advanced (without s t) t r ≡ ran s t (s.tasks t.process t.number)
  advanced-without r there =
      let turn = advance r.place r.answer in
      ap (λ x. refreshed x r.home) (turned-without s t r.home (Running r.place (stage.Ready r.answer)) r.cell turn.0 turn.1) ∙ ap (ran s t) there

  pub begun-without : (k : Calling) → Some (calling_task k) ≡ s.tasks t.process t.number → begun (without s t) t k ≡ started s t (s.tasks t.process t.number)
  begun-without k there =
      let life : Life = Running (called_place k.code k.args) (stage.Ready (Ok Nothing)) in
      let same : begun (without s t) t k ≡ started s t (Some (calling_task k)) =
      λ i. record s {
        tasks = put2-put2 s.tasks t.process t.number None (Some (record { home = k.home; cell = k.cell; life = life })) i;
        running = s.running ++ t ∷ [];
      } in
      same ∙ ap (started s t) there

-- ---- a task that is put back

pub put_back : (f g h : ℕ → ℕ → Option Task) (t : TaskId) (k : Task) → g ≡ put2 f t.process t.number None → h ≡ put2 g t.process t.number (Some k)
    → Some k ≡ f t.process t.number → h ≡ f
put_back f g h t k out back there =
    back ∙ ap (λ x. put2 x t.process t.number (Some k)) out ∙ put2-put2 f t.process t.number None (Some k) ∙ put2-same f t.process t.number (Some k) (sym there)

pub none_out : (f g : ℕ → ℕ → Option Task) (t : TaskId) → g ≡ put2 f t.process t.number None → None ≡ f t.process t.number → g ≡ f
none_out f g t out there = out ∙ put2-same f t.process t.number None (sym there)

module _ (x : Plain) (t : TaskId) (k : Task) where
  pub ran_at-not : (l : Life) → IsNotReady l → state_of x ≡ ran_at (state_of x) t k l
  ran_at-not (Called code args) h = refl
  ran_at-not Over h = refl
  ran_at-not (Running place (stage.Ready o)) h = absurd h
  ran_at-not (Running place (stage.Waits a)) h = sym (ap (ran_with (state_of x) t k place (stage.Waits a)) (exited-none x k.home ((state_of x).requests k.home a)))
  ran_at-not (Running place (stage.Prints vs)) h = refl

  pub started_at-not : (l : Life) → IsNotCalled l → state_of x ≡ started_at (state_of x) t k l
  started_at-not (Called code args) h = absurd h
  started_at-not Over h = refl
  started_at-not (Running place st) h = refl

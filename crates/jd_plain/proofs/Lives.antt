-- The stages of tasks.
use Rattle.std.proofs.Common.{◌≡◌, refl, ap}
use Rattle.jd_task.specs.declared.place.Place.{Place}
use Rattle.jd_model.specs.declared.life.Stage.{Stage}
use Rattle.jd_model.specs.declared.life.Life.{Life}
use Rattle.jd_model.specs.declared.life.Life.TheVariants.{Called, Running, Over}
use Rattle.jd_model.specs.Machine.{Task}
use Rattle.jd_plain.specs.Held.{life_at, task_at}

pub life_at-other : (st : Stage) (l : Life) → ((p : Place) (x : Stage) → l ≡ Running p x → ⊥) → l ≡ life_at st l
life_at-other st (Called code args) h = refl
life_at-other st (Running p x) h = absurd (h p x refl)
life_at-other st Over h = refl

-- a task that doesn't run has no stage
pub task_at-other : (st : Stage) (k : Task) → ((p : Place) (x : Stage) → k.life ≡ Running p x → ⊥) → k ≡ task_at st k
task_at-other st k h = ap (λ l. let t : Task = record { home = k.home; cell = k.cell; life = l } in t) (life_at-other st k.life h)

-- Rows that are put into tables.
use Rattle.std.specs.Prelude.{◌≡◌, Option, Some, IsSome}
use Rattle.std.specs.HashMap.{Updates, get}
use Rattle.std.proofs.Common.{arith, refl, sym, ap, subst, ◌∙◌}
use Rattle.std.proofs.lemmas.Bool.Decides.{nat_tests}
use Rattle.std.proofs.Math.Path.{fun_ext}
use Rattle.jd_value.specs.declared.reference.RefId.{RefId}
use Rattle.jd_task.specs.declared.job.TaskId.{TaskId}
use Rattle.jd_model.specs.declared.life.Stage.{Stage}
use Rattle.jd_model.specs.Node.{Running}
use Rattle.jd_model.specs.Table.{put2, put3}
use Rattle.jd_node.specs.declared.tasks.Tasks.{Tasks}
use Rattle.jd_node.specs.declared.cells.Cells.{Cells}
use Rattle.jd_node.specs.Tables.{tasks_of, cells_of, is_same_task, is_same_cell, staged}

-- the table with a new row, where the map has it
pub cells_put : {V : Type 0} (a b : Cells V) (r : RefId) (v : V) → Updates is_same_cell a.rows b.rows r (Some v)
    → cells_of b ≡ put3 (cells_of a) r.maker r.number r.owner (Some v)
unfolding cells_of
cells_put a b r v u = fun_ext (λ m. fun_ext (λ n. fun_ext (λ o. let here = u.0 (record { maker = m; number = n; owner = o }) in grind (arith, nat_tests, here))))

-- the tasks with a task, or without it, where the map has it so
pub tasks_put : (a b : Tasks) (t : TaskId) (w : Option Running) → Updates is_same_task a.rows b.rows t w → tasks_of b ≡ put2 (tasks_of a) t.process t.number w
unfolding tasks_of
tasks_put a b t w u = fun_ext (λ p. fun_ext (λ n. let here = u.0 (record { process = p; number = n }) in grind (arith, nat_tests, here)))

-- the task that the map has
pub tasks_at : (a : Tasks) (t : TaskId) → tasks_of a t.process t.number ≡ get is_same_task a.rows t
unfolding tasks_of
tasks_at a t = refl

-- the tasks with a task that is there at another stage
pub tasks_staged : (a b : Tasks) (t : TaskId) (st : Stage) (x k : Running) → x ≡ k → Some k ≡ get is_same_task a.rows t
    → (IsSome (get is_same_task a.rows t) → Updates is_same_task a.rows b.rows t (Some (record x { stage = st })))
    → tasks_of b ≡ staged (tasks_of a) t st (tasks_of a t.process t.number)
tasks_staged a b t st x k v e u =
    let at : tasks_of a t.process t.number ≡ Some x = tasks_at a t ∙ (sym e ∙ ap (λ (r : Running). Some r) (sym v)) in
    let there : IsSome (get is_same_task a.rows t) = subst IsSome e refl in
    tasks_put a b t (Some (record x { stage = st })) (u there) ∙ ap (staged (tasks_of a) t st) (sym at)

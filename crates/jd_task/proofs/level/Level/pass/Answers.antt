use Rattle.std.proofs.Common.{[], ◌∷◌}
use Rattle.jd_task.specs.Running.{begun, resume, steps}
use Rattle.jd_task.proofs.Passing.{passes_all}
use Rattle.jd_task.proofs.level.Level.pass.Goals as goal

pub returns : goal.returns
returns g c =
    let s = steps c.args.self.now.fuel in
    let first = begun c.args.ran c.args.doing.now in
    passes_all s c.args.frame.now c.args.outer.now first c.further.new.doing c.passed.result
    (c.passed.ensures s (resume s (c.args.frame.now ∷ []) first) c.further.new.doing c.further.ensures)

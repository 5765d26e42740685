use Rattle.std.proofs.Common.{◌≡◌, drop, length}
use Rattle.jd_task.specs.Elements.{elements}
use Rattle.jd_task.specs.Running.{over, steps}
use Rattle.jd_task.proofs.level.Level.over.Given as goal

abbrev pub invariant-loop-x : goal.invariant-loop-x
invariant-loop-x g l =
    over (steps l.self.fuel) l.name l.block l.collection l.from (drop l.from (elements l.collection)) l.fn.doing
    ≡ over (steps l.self.fuel) l.name l.block l.collection l.at (drop l.at (elements l.collection)) l.doing

abbrev pub decreases-loop-x : goal.decreases-loop-x
decreases-loop-x g l = length (drop l.at (elements l.collection))

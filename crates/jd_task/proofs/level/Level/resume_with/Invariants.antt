use Rattle.std.proofs.Common.{◌≡◌, length}
use Rattle.jd_task.specs.Running.{begun, resume, steps}
use Rattle.jd_task.proofs.level.Level.resume_with.Given as goal

abbrev pub invariant-loop-all : goal.invariant-loop-all
invariant-loop-all g l =
    resume (steps l.self.fuel) l.frames (begun l.fn.first l.fn.doing) ≡ resume (steps l.self.fuel) l.all (begun l.ran l.doing)

abbrev pub decreases-loop-all : goal.decreases-loop-all
decreases-loop-all g l = length l.all

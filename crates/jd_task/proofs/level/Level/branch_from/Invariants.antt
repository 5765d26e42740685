use Rattle.std.proofs.Common.{◌≡◌, ◌+◌, ◌<◌, ◌^◌, drop, length}
use Rattle.jd_task.specs.Running.{branch_from, steps}
use Rattle.jd_task.proofs.level.Level.branch_from.Given as goal

abbrev pub invariant-loop-all : goal.invariant-loop-all
invariant-loop-all g l = record {
  fits : l.at + length l.all < 2 ^ 64;
  so_far : branch_from (steps l.self.fuel) l.arms l.from l.other (drop l.from l.arms) l.fn.doing ≡ branch_from (steps l.self.fuel) l.arms l.at l.other l.all l.doing;
}

abbrev pub decreases-loop-all : goal.decreases-loop-all
decreases-loop-all g l = length l.all

use Rattle.std.proofs.Common.{◌≡◌, ◌+◌, ◌<◌, ◌^◌, drop, length}
use Rattle.jd_value.specs.declared.tree.Block.{out-Block}
use Rattle.jd_task.specs.Running.{run_from, steps}
use Rattle.jd_task.proofs.level.Level.run_from.Given as goal

abbrev pub invariant-loop-all : goal.invariant-loop-all
invariant-loop-all g l = record {
  fits : l.at + length l.all < 2 ^ 64;
  so_far : run_from (steps l.self.fuel) l.block l.from l.fn.last (drop l.from (out-Block l.block).stmts) l.fn.doing ≡ run_from (steps l.self.fuel) l.block l.at l.value l.all l.doing;
}

abbrev pub decreases-loop-all : goal.decreases-loop-all
decreases-loop-all g l = length l.all

use Rattle.std.proofs.Common.{◌≡◌, ◌≤◌, ◌+◌, ◌*◌}
use Rattle.jd_task.specs.Running.{steps}
use Rattle.jd_task.proofs.running.+execution.Given as goal

abbrev pub decreases-exec_to : goal.decreases-exec_to
decreases-exec_to l = l.fuel

abbrev pub decreases-again_to : goal.decreases-again_to
decreases-again_to l = l.fuel

abbrev pub invariant-again_to-loop-turns : goal.invariant-again_to-loop-turns
invariant-again_to-loop-turns l = record {
  fits : l.turns ≤ l.fn.fuel;
  so_far : (steps l.fn.fuel).again l.arm l.fn.doing ≡ (steps l.turns).again l.arm l.doing;
}

abbrev pub decreases-again_to-loop-turns : goal.decreases-again_to-loop-turns
decreases-again_to-loop-turns l = l.turns

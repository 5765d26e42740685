use Rattle.std.proofs.Common.{rules, arith}
use Rattle.std.proofs.lemmas.Grind.{common_steps}
use Rattle.jd_expr.proofs.Depth.{deeper}
use Rattle.jd_task.specs.Running.{steps, turns}
use Rattle.jd_task.proofs.running.+execution.Goals as goal

pub exec_to-returns : goal.exec_to-returns
unfolding steps
exec_to-returns t c =
    rw (deeper (λ k. (steps k).exec c.args.stmt.now c.args.doing.now) c.args.fuel (omega arith))
    (first_of (search rules, grind (arith, common_steps)))

pub again_to-loop-turns-preserved : goal.again_to-loop-turns-preserved
unfolding steps turns
again_to-loop-turns-preserved t c =
    let e = rw (deeper (λ k. (steps k).again c.args.arm.now c.loop-turns.doing) c.loop-turns.turns (omega arith)) at c.loop-turns.invariant.so_far in
    record { fits = omega arith; so_far = (first_of (search rules, grind (arith, common_steps))) }

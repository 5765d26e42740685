use Rattle.std.proofs.Common.{rules, arith}
use Rattle.std.proofs.lemmas.Grind.{common_steps}
use Rattle.jd_expr.specs.Meaning.{meaning}
use Rattle.jd_expr.proofs.Depth.{deeper}
use Rattle.jd_expr.proofs.evaluate.+evaluation.Goals as goal

pub returns : goal.returns
returns t c =
    rw (deeper (λ k. (meaning k).eval c.args.calls c.args.vars.now c.args.x.now c.args.budget.now) c.args.fuel (omega arith))
    (first_of (search rules, grind (arith, common_steps)))

use Rattle.std.proofs.Common.{arith, sym}
use Rattle.jd_expr.specs.Comparing.{number_tests}
use Rattle.jd_expr.proofs.Passing.{other_length, length_tests}
use Rattle.jd_expr.proofs.comparing.numbers_are.Goals as goal

pub returns-then-len-items : goal.returns-then-len-items
returns-then-len-items c =
    sym (other_length (number_tests c.args.span.now) c.args.items.now (λ e. absurd (omega (arith, e, length_tests c.args.span.now))))

use Rattle.std.proofs.Common.{◌≡◌, length}
use Rattle.jd_expr.specs.Collections.{are_numbers}
use Rattle.jd_expr.proofs.numbers.are_numbers.Given as goal

abbrev pub invariant-loop-values : goal.invariant-loop-values
invariant-loop-values l = are_numbers l.fn.values ≡ are_numbers l.values

abbrev pub decreases-loop-values : goal.decreases-loop-values
decreases-loop-values l = length l.values

use Rattle.std.proofs.Common.{◌≡◌, length}
use Rattle.jd_expr.specs.Indexing.{are_indexes}
use Rattle.jd_expr.proofs.indexing.are_indexes.Given as goal

abbrev pub invariant-loop-values : goal.invariant-loop-values
invariant-loop-values l = are_indexes l.fn.values ≡ are_indexes l.values

abbrev pub decreases-loop-values : goal.decreases-loop-values
decreases-loop-values l = length l.values

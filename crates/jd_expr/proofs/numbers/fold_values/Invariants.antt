use Rattle.std.proofs.Common.{◌≡◌, length, map, fold}
use Rattle.jd_array.specs.Fold.{combined}
use Rattle.jd_expr.specs.Collections.{number_of}
use Rattle.jd_expr.proofs.numbers.fold_values.Given as goal

abbrev pub invariant-loop-values : goal.invariant-loop-values
invariant-loop-values l = fold (combined l.op) l.fn.start (map number_of l.fn.values) ≡ fold (combined l.op) l.total (map number_of l.values)

abbrev pub decreases-loop-values : goal.decreases-loop-values
decreases-loop-values l = length l.values

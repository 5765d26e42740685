use Rattle.std.proofs.Common.{◌≡◌, fold}
use Rattle.jd_array.specs.Fold.{combined}
use Rattle.jd_expr.proofs.Folded.{numbers_after}
use Rattle.jd_expr.proofs.numbers.folded_span.Given as goal

abbrev pub invariant-loop-place : goal.invariant-loop-place
invariant-loop-place l = l.total ≡ fold (combined l.op) l.span.first (numbers_after l.span.first l.place)

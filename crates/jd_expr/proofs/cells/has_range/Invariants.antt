use Rattle.std.proofs.Common.{◌≡◌, length}
use Rattle.jd_expr.specs.Cells.{has_range}
use Rattle.jd_expr.proofs.cells.has_range.Given as goal

abbrev pub invariant-loop-picks : goal.invariant-loop-picks
invariant-loop-picks l = has_range l.fn.picks ≡ has_range l.picks

abbrev pub decreases-loop-picks : goal.decreases-loop-picks
decreases-loop-picks l = length l.picks

use Rattle.std.proofs.Common.{◌≡◌, length}
use Rattle.jd_expr.specs.Grids.{are_rows}
use Rattle.jd_expr.proofs.grids.are_rows.Given as goal

abbrev pub invariant-loop-rows : goal.invariant-loop-rows
invariant-loop-rows l = are_rows l.width l.fn.rows ≡ are_rows l.width l.rows

abbrev pub decreases-loop-rows : goal.decreases-loop-rows
decreases-loop-rows l = length l.rows

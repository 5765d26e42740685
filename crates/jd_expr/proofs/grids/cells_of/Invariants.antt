use Rattle.std.proofs.Common.{◌≡◌}
use Rattle.jd_expr.specs.Grids.{cells_of}
use Rattle.jd_expr.proofs.grids.cells_of.Given as goal

abbrev pub invariant-loop-place : goal.invariant-loop-place
invariant-loop-place l = l.all.items ≡ cells_of l.rows l.place

use Rattle.std.proofs.Common.{◌≡◌, ◌++◌, map, take}
use Rattle.jd_expr.specs.Grids.{cell_in}
use Rattle.jd_expr.proofs.grids.push_column.Given as goal

abbrev pub invariant-loop-row : goal.invariant-loop-row
invariant-loop-row l = l.all.items ≡ l.initial.all.items ++ map (cell_in l.place) (take l.row-index l.rows)

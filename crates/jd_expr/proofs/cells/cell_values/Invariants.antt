use Rattle.std.proofs.Common.{◌≡◌, map, take}
use Rattle.jd_value.specs.declared.value.Value.TheVariants.{Int}
use Rattle.jd_expr.proofs.cells.cell_values.Given as goal

abbrev pub invariant-loop-cell : goal.invariant-loop-cell
invariant-loop-cell l = l.items ≡ map Int (take l.cell-index l.cells)

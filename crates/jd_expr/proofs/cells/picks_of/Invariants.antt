use Rattle.std.proofs.Common.{◌≡◌, map, take}
use Rattle.jd_expr.specs.Cells.{pick_of}
use Rattle.jd_expr.proofs.cells.picks_of.Given as goal

abbrev pub invariant-loop-index : goal.invariant-loop-index
invariant-loop-index l = l.all.items ≡ map pick_of (take l.index-index l.indexes)

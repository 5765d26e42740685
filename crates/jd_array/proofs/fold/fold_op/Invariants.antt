use Rattle.std.proofs.Common.{◌≡◌, fold, take}
use Rattle.jd_array.specs.Fold.{combined}
use Rattle.jd_array.proofs.fold.fold_op.Given as goal

abbrev pub invariant-loop-cell : goal.invariant-loop-cell
invariant-loop-cell l = l.total ≡ fold (combined l.op) l.initial.total (take l.cell-index l.rest)

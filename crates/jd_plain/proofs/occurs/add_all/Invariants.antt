use Rattle.std.proofs.Common.{◌≡◌, ◌||◌, take}
use Rattle.jd_value.specs.declared.reference.RefId.{RefId}
use Rattle.jd_model.specs.Machine.{has}
use Rattle.jd_plain.specs.Occurs.{is_in}
use Rattle.jd_plain.proofs.occurs.add_all.Given as goal

abbrev pub invariant-loop-cell : goal.invariant-loop-cell
invariant-loop-cell l = (r : RefId) → is_in l.found r ≡ (is_in l.initial.found r || has (take l.cell-index l.cells) r)

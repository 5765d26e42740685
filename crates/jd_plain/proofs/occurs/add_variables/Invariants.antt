use Rattle.std.proofs.Common.{◌≡◌, ◌||◌, take}
use Rattle.jd_value.specs.declared.reference.RefId.{RefId}
use Rattle.jd_model.specs.Machine.{in_variables}
use Rattle.jd_plain.specs.Occurs.{is_in}
use Rattle.jd_plain.proofs.occurs.add_variables.Given as goal

abbrev pub invariant-loop-place : goal.invariant-loop-place
invariant-loop-place l = (r : RefId) → is_in l.found r ≡ (is_in l.initial.found r || in_variables (take l.place l.variables) r)

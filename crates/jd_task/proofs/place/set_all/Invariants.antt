use Rattle.std.proofs.Common.{◌≡◌, drop}
use Rattle.jd_task.specs.Places.{with_variables}
use Rattle.jd_task.proofs.place.set_all.Given as goal

abbrev pub invariant-loop-variable : goal.invariant-loop-variable
invariant-loop-variable l = with_variables l.kept l.fn.variables ≡ with_variables (drop l.variable-index l.kept) l.variables

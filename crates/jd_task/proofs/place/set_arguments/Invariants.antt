use Rattle.std.proofs.Common.{◌≡◌, length}
use Rattle.jd_task.specs.Places.{with_arguments}
use Rattle.jd_task.proofs.place.set_arguments.Given as goal

abbrev pub invariant-loop-parameters : goal.invariant-loop-parameters
invariant-loop-parameters l = with_arguments l.fn.parameters l.fn.args l.fn.variables ≡ with_arguments l.parameters l.args l.variables

abbrev pub decreases-loop-parameters : goal.decreases-loop-parameters
decreases-loop-parameters l = length l.parameters

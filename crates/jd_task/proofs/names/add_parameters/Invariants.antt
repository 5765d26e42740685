use Rattle.std.proofs.Common.{◌≡◌, drop}
use Rattle.jd_task.specs.Bound.{with_names}
use Rattle.jd_task.proofs.names.add_parameters.Given as goal

abbrev pub invariant-loop-parameter : goal.invariant-loop-parameter
invariant-loop-parameter l = with_names l.fn.names.keys l.parameters ≡ with_names l.names.keys (drop l.parameter-index l.parameters)

use Rattle.std.proofs.Common.{◌≡◌, take}
use Rattle.jd_task.specs.Names.{variables_named}
use Rattle.jd_task.proofs.closure.kept_of.Given as goal

abbrev pub invariant-loop-name : goal.invariant-loop-name
invariant-loop-name l = l.all ≡ variables_named (take l.name-index l.names) l.variables

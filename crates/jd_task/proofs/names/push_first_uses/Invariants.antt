use Rattle.std.proofs.Common.{◌≡◌, ◌++◌, drop}
use Rattle.jd_task.specs.Names.{first_uses}
use Rattle.jd_task.proofs.names.push_first_uses.Given as goal

abbrev pub invariant-loop-name : goal.invariant-loop-name
invariant-loop-name l = l.fn.out ++ first_uses l.fn.bound.keys l.names ≡ l.out ++ first_uses l.bound.keys (drop l.name-index l.names)

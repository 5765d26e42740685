use Rattle.std.proofs.Common.{◌≡◌, ◌++◌, take, flat_map}
use Rattle.jd_task.specs.Names.{names_of}
use Rattle.jd_task.proofs.names.+names.Given as goal

abbrev pub invariant-push_all_names-loop-x : goal.invariant-push_all_names-loop-x
invariant-push_all_names-loop-x l = l.out ≡ l.fn.out ++ flat_map names_of (take l.x-index l.all)

use Rattle.std.proofs.Common.{◌≡◌, ◌++◌, take, flat_map}
use Rattle.jd_value.specs.References.{references}
use Rattle.jd_value.proofs.reference.+references.Given as goal

abbrev pub invariant-push_all-loop-value : goal.invariant-push_all-loop-value
invariant-push_all-loop-value l = l.out ≡ l.initial.out ++ flat_map references (take l.value-index l.values)

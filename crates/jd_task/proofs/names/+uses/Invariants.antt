use Rattle.std.proofs.Common.{◌≡◌, ◌++◌, take, flat_map}
use Rattle.jd_task.specs.Names.{used_of, uses_of, arm_uses_of}
use Rattle.jd_task.proofs.names.+uses.Given as goal

abbrev pub invariant-push_all_uses-loop-stmt : goal.invariant-push_all_uses-loop-stmt
invariant-push_all_uses-loop-stmt l = l.out ≡ l.fn.out ++ flat_map (λ stmt. used_of (uses_of stmt)) (take l.stmt-index l.all)

abbrev pub invariant-push_all_arm_uses-loop-arm : goal.invariant-push_all_arm_uses-loop-arm
invariant-push_all_arm_uses-loop-arm l = l.out ≡ l.fn.out ++ flat_map (λ arm. used_of (arm_uses_of arm)) (take l.arm-index l.all)

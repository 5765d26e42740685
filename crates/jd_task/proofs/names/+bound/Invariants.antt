use Rattle.std.proofs.Common.{◌≡◌, drop, flat_map}
use Rattle.jd_task.specs.Bound.{with_names}
use Rattle.jd_task.specs.Names.{bound_of, uses_of, arm_uses_of}
use Rattle.jd_task.proofs.names.+bound.Given as goal

abbrev pub invariant-add_all_bound-loop-stmt : goal.invariant-add_all_bound-loop-stmt
invariant-add_all_bound-loop-stmt l =
    with_names l.fn.names.keys (flat_map (λ stmt. bound_of (uses_of stmt)) l.stmts)
    ≡ with_names l.names.keys (flat_map (λ stmt. bound_of (uses_of stmt)) (drop l.stmt-index l.stmts))

abbrev pub invariant-add_all_arms_bound-loop-arm : goal.invariant-add_all_arms_bound-loop-arm
invariant-add_all_arms_bound-loop-arm l =
    with_names l.fn.names.keys (flat_map (λ arm. bound_of (arm_uses_of arm)) l.arms)
    ≡ with_names l.names.keys (flat_map (λ arm. bound_of (arm_uses_of arm)) (drop l.arm-index l.arms))

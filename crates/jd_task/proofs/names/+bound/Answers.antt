use Rattle.std.proofs.Common.{ap, sym, ◌∙◌, ◌++◌}
use Rattle.jd_task.specs.Names.{name_in, bound_of, uses_of, arm_uses_of, block_uses_of}
use Rattle.jd_task.proofs.Bound.{one_more, three_parts}
use Rattle.jd_task.proofs.Uses.{bound_in_try}
use Rattle.jd_task.proofs.names.+bound.Goals as goal

pub add_all_bound-loop-stmt-preserved : goal.add_all_bound-loop-stmt-preserved
add_all_bound-loop-stmt-preserved t c =
    one_more (λ stmt. bound_of (uses_of stmt)) c.args.names.now.keys c.loop-stmt.names.keys c.add_bound.new.names.keys c.args.stmts.now c.loop-stmt.stmt-index c.stmt-item.result
    c.loop-stmt-test.true c.stmt-item.is c.loop-stmt.invariant c.in_ok-add_bound.ensures

pub add_all_arms_bound-loop-arm-preserved : goal.add_all_arms_bound-loop-arm-preserved
add_all_arms_bound-loop-arm-preserved t c =
    one_more (λ arm. bound_of (arm_uses_of arm)) c.args.names.now.keys c.loop-arm.names.keys c.add_arm_bound.new.names.keys c.args.arms.now c.loop-arm.arm-index c.arm-item.result
    c.loop-arm-test.true c.arm-item.is c.loop-arm.invariant c.in_ok-add_arm_bound.ensures

pub add_bound-returns-in_ok-add_block_bound-in-Try : goal.add_bound-returns-in_ok-add_block_bound-in-Try
add_bound-returns-in_ok-add_block_bound-in-Try t c =
    three_parts c.args.names.now.keys c.add_name_in.new.names.keys c.add_block_bound-in-Try.new.names.keys c.add_block_bound-in-Try-2.new.names.keys
    (name_in c.in-Try.name) (bound_of (block_uses_of c.get-in-Try.result.now)) (bound_of (block_uses_of c.get-in-Try-2.result.now)) (bound_of (uses_of c.args.stmt.now))
    c.add_block_bound-in-Try-2.result
    (ap (λ stmt. bound_of (uses_of stmt)) c.in-Try.is ∙ bound_in_try c.in-Try.block c.in-Try.name c.in-Try.handler
    ∙ ap (λ block. name_in c.in-Try.name ++ (bound_of (block_uses_of block) ++ bound_of (block_uses_of c.in-Try.handler))) (sym c.get-in-Try.ensures)
    ∙ ap (λ block. name_in c.in-Try.name ++ (bound_of (block_uses_of c.get-in-Try.result.now) ++ bound_of (block_uses_of block))) (sym c.get-in-Try-2.ensures))
    c.in_ok-add_name_in-in-Try.ensures c.in_ok-add_block_bound-in-Try.ensures c.add_block_bound-in-Try-2.ensures

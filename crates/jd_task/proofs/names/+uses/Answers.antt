use Rattle.std.proofs.Common.{arith, rules, ap, sym, ◌∙◌, ◌++◌, flat_map}
use Rattle.std.proofs.lemmas.Grind.{common_steps}
use Rattle.jd_task.specs.Names.{names_of, used_of, uses_of, arm_uses_of, block_uses_of}
use Rattle.jd_task.proofs.Free.{free_from}
use Rattle.jd_task.proofs.Uses.{two_parts, used_in_if, used_in_for, used_in_try}
use Rattle.jd_task.proofs.names.+uses.Goals as goal

pub push_free_names-returns : goal.push_free_names-returns
push_free_names-returns t c =
    let e = free_from c.args.body.now c.in_ok-bound_names.field-0.keys c.as_slice.result.now c.in_ok-bound_names.ensures (c.as_slice.ensures ∙ first_of (search rules, grind (arith, common_steps))) in
    rw (← e) c.push_first_uses.ensures

pub push_uses-returns-in_ok-push_all_arm_uses-in-If : goal.push_uses-returns-in_ok-push_all_arm_uses-in-If
push_uses-returns-in_ok-push_all_arm_uses-in-If t c =
    two_parts c.args.out.now c.push_all_arm_uses.new.out c.push_block_uses.new.out (flat_map (λ arm. used_of (arm_uses_of arm)) c.as_slice-in-If.result.now)
    (used_of (block_uses_of c.get-in-If.result.now)) (used_of (uses_of c.args.stmt.now)) c.push_block_uses.result
    (ap (λ stmt. used_of (uses_of stmt)) c.in-If.is ∙ used_in_if c.in-If.arms c.in-If.other
    ∙ ap (λ arms. flat_map (λ arm. used_of (arm_uses_of arm)) arms ++ used_of (block_uses_of c.in-If.other)) (sym (c.as_slice-in-If.ensures ∙ c.get.ensures))
    ∙ ap (λ block. flat_map (λ arm. used_of (arm_uses_of arm)) c.as_slice-in-If.result.now ++ used_of (block_uses_of block)) (sym c.get-in-If.ensures))
    c.in_ok-push_all_arm_uses-in-If.ensures c.push_block_uses.ensures

pub push_uses-returns-in_ok-push_names-in-For : goal.push_uses-returns-in_ok-push_names-in-For
push_uses-returns-in_ok-push_names-in-For t c =
    two_parts c.args.out.now c.push_names-in-For.new.out c.push_block_uses-in-For.new.out (names_of c.in-For.x)
    (used_of (block_uses_of c.get-in-For.result.now)) (used_of (uses_of c.args.stmt.now)) c.push_block_uses-in-For.result
    (ap (λ stmt. used_of (uses_of stmt)) c.in-For.is ∙ used_in_for c.in-For.field-0 c.in-For.x c.in-For.block
    ∙ ap (λ block. names_of c.in-For.x ++ used_of (block_uses_of block)) (sym c.get-in-For.ensures))
    c.in_ok-push_names-in-For.ensures c.push_block_uses-in-For.ensures

pub push_uses-returns-in_ok-push_block_uses-in-Try : goal.push_uses-returns-in_ok-push_block_uses-in-Try
push_uses-returns-in_ok-push_block_uses-in-Try t c =
    two_parts c.args.out.now c.push_block_uses-in-Try.new.out c.push_block_uses-in-Try-2.new.out (used_of (block_uses_of c.get-in-Try.result.now))
    (used_of (block_uses_of c.get-in-Try-2.result.now)) (used_of (uses_of c.args.stmt.now)) c.push_block_uses-in-Try-2.result
    (ap (λ stmt. used_of (uses_of stmt)) c.in-Try.is ∙ used_in_try c.in-Try.block c.in-Try.field-1 c.in-Try.handler
    ∙ ap (λ block. used_of (block_uses_of block) ++ used_of (block_uses_of c.in-Try.handler)) (sym c.get-in-Try.ensures)
    ∙ ap (λ block. used_of (block_uses_of c.get-in-Try.result.now) ++ used_of (block_uses_of block)) (sym c.get-in-Try-2.ensures))
    c.in_ok-push_block_uses-in-Try.ensures c.push_block_uses-in-Try-2.ensures

use Rattle.std.proofs.Common.{Some, Err, ◌≡◌, map, subst}
use Rattle.jd_script.specs.PlainScript.{plain_line}
use Rattle.jd_lower.specs.Steps.{Gives}
use Rattle.jd_lower.specs.Lowering.{lines_on}
use Rattle.jd_lower.proofs.Lowered.{block_lowers, block_fails}
use Rattle.jd_lower.proofs.script.lower_block.Goals as goal

pub returns-in-Ok : goal.returns-in-Ok
returns-in-Ok c =
    block_lowers c.args.scope.now c.args.block.now c.args.draft.now c.lower_lines.new.draft c.lower_place.new.draft c.lower_place.result
    (subst (λ ls. lines_on c.args.scope.now (Some (tt, c.args.draft.now)) (map plain_line ls) ≡ Some (tt, c.lower_lines.new.draft)) c.as_slice.ensures c.in-Ok.ensures) c.lower_place.ensures

pub returns-in-Err : goal.returns-in-Err
returns-in-Err c =
    block_fails c.args.scope.now c.args.block.now c.args.draft.now c.lower_lines.new.draft c.in-Err.fault
    (subst (λ ls. Gives (lines_on c.args.scope.now (Some (tt, c.args.draft.now)) (map plain_line ls)) (Err c.in-Err.fault) c.lower_lines.new.draft) c.as_slice.ensures c.in-Err.ensures)

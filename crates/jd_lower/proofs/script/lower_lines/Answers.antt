use Rattle.std.proofs.Common.{◌≡◌, ◌+◌, ◌∙◌, Some, Err, map, drop, ap, sym, subst}
use Rattle.jd_script.specs.PlainScript.{plain_line}
use Rattle.jd_lower.specs.Steps.{Gives}
use Rattle.jd_lower.specs.Lowering.{lines_on}
use Rattle.jd_lower.proofs.Lowered.{line_step, line_fails}
use Rattle.jd_lower.proofs.script.lower_lines.Goals as goal

pub returns-in-Err : goal.returns-in-Err
returns-in-Err c =
    let kept : lines_on c.args.scope.now (Some (tt, c.args.draft.now)) (map plain_line c.args.lines.now)
    ≡ lines_on c.args.scope.now (Some (tt, c.loop-line.draft)) (map plain_line (drop c.loop-line.line-index c.args.lines.now)) = c.loop-line.invariant in
    let failed = line_fails c.args.scope.now (Some (tt, c.loop-line.draft)) c.args.lines.now c.loop-line.line-index c.line-item.result c.in-Err.fault c.lower_place.new.draft c.loop-line-test.true c.line-item.is c.in-Err.ensures in
    subst (λ x. Gives x (Err c.in-Err.fault) c.lower_place.new.draft) (sym kept) failed

pub loop-line-preserved : goal.loop-line-preserved
loop-line-preserved c =
    c.loop-line.invariant ∙ line_step c.args.scope.now (Some (tt, c.loop-line.draft)) c.args.lines.now c.loop-line.line-index c.line-item.result c.loop-line-test.true c.line-item.is
    ∙ ap (λ x. lines_on c.args.scope.now x (map plain_line (drop (c.loop-line.line-index + 1) c.args.lines.now))) c.in-Ok.ensures

use Rattle.std.proofs.Common.{◌≡◌, Some, map, drop}
use Rattle.jd_script.specs.PlainScript.{plain_line}
use Rattle.jd_lower.specs.Lowering.{lines_on}
use Rattle.jd_lower.proofs.script.lower_lines.Given as goal

abbrev pub invariant-loop-line : goal.invariant-loop-line
invariant-loop-line l =
    lines_on l.scope (Some (tt, l.fn.draft)) (map plain_line l.lines) ≡ lines_on l.scope (Some (tt, l.draft)) (map plain_line (drop l.line-index l.lines))

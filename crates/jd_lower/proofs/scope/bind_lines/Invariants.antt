use Rattle.std.proofs.Common.{◌≡◌, map, drop}
use Rattle.jd_script.specs.PlainScript.{plain_line}
use Rattle.jd_lower.specs.Scopes.{bind_after}
use Rattle.jd_lower.proofs.scope.bind_lines.Given as goal

abbrev pub invariant-loop-line : goal.invariant-loop-line
invariant-loop-line l = bind_after l.fn.bound (map plain_line l.lines) ≡ bind_after l.bound (map plain_line (drop l.line-index l.lines))

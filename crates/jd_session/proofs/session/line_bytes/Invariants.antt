use Rattle.std.proofs.Common.{◌≡◌, ◌++◌, drop}
use Rattle.jd_model.specs.Machine.{line}
use Rattle.jd_session.proofs.session.line_bytes.Given as goal

abbrev pub invariant-loop-value : goal.invariant-loop-value
invariant-loop-value l = line l.values ≡ l.text ++ line (drop l.value-index l.values)

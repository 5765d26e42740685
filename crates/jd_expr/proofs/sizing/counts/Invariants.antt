use Rattle.std.proofs.Common.{◌≡◌, map, take}
use Rattle.jd_expr.specs.Collections.{count_value}
use Rattle.jd_expr.proofs.sizing.counts.Given as goal

abbrev pub invariant-loop-size : goal.invariant-loop-size
invariant-loop-size l = l.items ≡ map count_value (take l.size-index l.sizes)

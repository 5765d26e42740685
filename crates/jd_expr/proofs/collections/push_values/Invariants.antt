use Rattle.std.proofs.Common.{◌≡◌, ◌++◌, take}
use Rattle.jd_expr.proofs.collections.push_values.Given as goal

abbrev pub invariant-loop-value : goal.invariant-loop-value
invariant-loop-value l = l.items ≡ l.initial.items ++ take l.value-index l.more

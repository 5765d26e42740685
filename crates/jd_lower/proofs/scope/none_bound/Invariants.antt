use Rattle.std.proofs.Common.{◌≡◌, false, replicate}
use Rattle.jd_lower.proofs.scope.none_bound.Given as goal

abbrev pub invariant-loop : goal.invariant-loop
invariant-loop l = l.bound ≡ replicate l.counter false

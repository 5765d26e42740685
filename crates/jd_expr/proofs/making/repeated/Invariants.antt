use Rattle.std.proofs.Common.{◌≡◌}
use Rattle.std.specs.Prelude.{replicate}
use Rattle.jd_expr.proofs.making.repeated.Given as goal

abbrev pub invariant-loop : goal.invariant-loop
invariant-loop l = l.items ≡ replicate l.counter l.value

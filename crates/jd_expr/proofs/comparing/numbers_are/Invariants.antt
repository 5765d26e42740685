use Rattle.std.proofs.Common.{◌≡◌, ◌+◌, length}
use Rattle.jd_expr.specs.Comparing.{each_passes, number_tests}
use Rattle.jd_expr.proofs.Passing.{tests}
use Rattle.jd_expr.proofs.comparing.numbers_are.Given as goal

abbrev pub invariant-loop-items : goal.invariant-loop-items
invariant-loop-items l = record {
  counted : l.place + length l.items ≡ length l.fn.items;
  begins : l.first ≡ l.span.first;
  so_far : each_passes (number_tests l.span) l.fn.items ≡ each_passes (tests l.span.first l.place (length l.items)) l.items;
}

abbrev pub decreases-loop-items : goal.decreases-loop-items
decreases-loop-items l = length l.items

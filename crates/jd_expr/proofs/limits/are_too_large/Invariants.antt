use Rattle.std.proofs.Common.{◌≡◌, ◌+◌, ◌≤◌, length, map, sum}
use Rattle.jd_value.specs.Sizes.{words}
use Rattle.jd_expr.proofs.limits.are_too_large.Given as goal

abbrev pub invariant-loop-items : goal.invariant-loop-items
invariant-loop-items l = record {
  few : l.total ≤ 1048576;
  so_far : l.total + sum (map words l.items) ≡ 1 + sum (map words l.fn.items);
}

abbrev pub decreases-loop-items : goal.decreases-loop-items
decreases-loop-items l = length l.items

use Rattle.std.proofs.Common.{◌≡◌, pos, ◌+ℤ◌, map}
use Rattle.std.specs.List.{range_with_len}
use Rattle.jd_value.specs.declared.value.Value.TheVariants.{Int}
use Rattle.jd_expr.proofs.ranges.range_items.Given as goal

abbrev pub invariant-loop-place : goal.invariant-loop-place
invariant-loop-place l = l.items ≡ map Int (map (λ n. l.span.first +ℤ pos n) (range_with_len 0 l.place))

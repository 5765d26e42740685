use Rattle.std.proofs.Common.{◌≡◌, ◌-◌, ◌<◌, ◌^◌, min, max, map, drop}
use Rattle.jd_value.specs.Sizes.{depth, greatest}
use Rattle.jd_value.proofs.sizes.+depth.Given as goal

abbrev pub invariant-greatest_depth-loop-value : goal.invariant-greatest_depth-loop-value
invariant-greatest_depth-loop-value l = record {
  fits : l.greatest < 2 ^ 32;
  so_far : min (max l.greatest (greatest (map depth (drop l.value-index l.values)))) (2 ^ 32 - 1) ≡ min (greatest (map depth l.values)) (2 ^ 32 - 1);
}

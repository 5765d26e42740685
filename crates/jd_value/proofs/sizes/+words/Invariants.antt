use Rattle.std.proofs.Common.{◌≡◌, ◌+◌, ◌-◌, ◌<◌, ◌^◌, min, map, drop, sum}
use Rattle.jd_value.specs.Sizes.{words}
use Rattle.jd_value.proofs.sizes.+words.Given as goal

abbrev pub invariant-words_of_all-loop-value : goal.invariant-words_of_all-loop-value
invariant-words_of_all-loop-value l = record {
  fits : l.total < 2 ^ 64;
  so_far : min (l.total + sum (map words (drop l.value-index l.values))) (2 ^ 64 - 1) ≡ min (sum (map words l.values)) (2 ^ 64 - 1);
}

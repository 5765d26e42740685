use Rattle.std.proofs.Common.{◌≡◌, ◌+◌, ◌-◌, ◌<◌, ◌^◌, min}
use Rattle.jd_value.specs.Sizes.{fault_words}
use Rattle.jd_value.proofs.sizes.fault_words.Given as goal

abbrev pub invariant-loop-at : goal.invariant-loop-at
invariant-loop-at l = record {
  fits : l.outside < 2 ^ 64;
  so_far : min (l.outside + fault_words l.at) (2 ^ 64 - 1) ≡ min (fault_words l.fault) (2 ^ 64 - 1);
}

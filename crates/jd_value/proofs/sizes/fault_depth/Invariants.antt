use Rattle.std.proofs.Common.{◌≡◌, ◌+◌, ◌-◌, ◌<◌, ◌^◌, min}
use Rattle.jd_value.specs.Sizes.{fault_depth}
use Rattle.jd_value.proofs.sizes.fault_depth.Given as goal

abbrev pub invariant-loop-at : goal.invariant-loop-at
invariant-loop-at l = record {
  fits : l.outside < 2 ^ 32;
  so_far : min (l.outside + fault_depth l.at) (2 ^ 32 - 1) ≡ min (fault_depth l.fault) (2 ^ 32 - 1);
}

use Rattle.std.proofs.Common.{◌≡◌, ◌≤◌, ◌++◌, length, take, drop}
use Rattle.jd_array.specs.Slice.{picked_dims}
use Rattle.jd_array.proofs.slices.dims_of.Given as goal

abbrev pub invariant-loop-pick : goal.invariant-loop-pick
invariant-loop-pick l = record {
  left : take l.count l.sizes ++ picked_dims (drop l.pick-index l.picks) ≡ picked_dims l.picks;
  room : length l.sizes ≡ 3;
  few : l.count ≤ l.pick-index;
}

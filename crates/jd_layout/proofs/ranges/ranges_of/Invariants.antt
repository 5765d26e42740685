use Rattle.std.proofs.Common.{◌≡◌, ◌-◌, ◌++◌, take, drop, replicate}
use Rattle.jd_layout.specs.Blocks.{part_ranges}
use Rattle.jd_layout.specs.Places.{empty_range}
use Rattle.jd_layout.proofs.ranges.ranges_of.Given as goal

abbrev pub invariant-loop-axis : goal.invariant-loop-axis
invariant-loop-axis l = record {
  done : l.spans ≡ take l.axis (part_ranges l.dims l.dist l.part) ++ replicate (3 - l.axis) empty_range;
  left : drop l.axis (part_ranges l.dims l.dist l.part) ≡ part_ranges (drop l.axis l.dims) (drop l.axis l.dist) l.rest;
}

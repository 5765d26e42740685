use Rattle.std.proofs.Common.{drop}
use Rattle.jd_array.specs.Slice.{AreInside}
use Rattle.jd_array.proofs.slices.are_inside.Given as goal

abbrev pub invariant-loop-axis : goal.invariant-loop-axis
invariant-loop-axis l = record {
  left : AreInside l.dims l.picks → AreInside (drop l.axis l.dims) (drop l.axis l.picks);
  whole : AreInside (drop l.axis l.dims) (drop l.axis l.picks) → AreInside l.dims l.picks;
}

use Rattle.std.proofs.Common.{drop}
use Rattle.jd_value.specs.Array.{IsInside}
use Rattle.jd_array.proofs.index.is_inside.Given as goal

abbrev pub invariant-loop-axis : goal.invariant-loop-axis
invariant-loop-axis l = record {
  left : IsInside l.dims l.index → IsInside (drop l.axis l.dims) (drop l.axis l.index);
  whole : IsInside (drop l.axis l.dims) (drop l.axis l.index) → IsInside l.dims l.index;
}

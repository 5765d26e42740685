use Rattle.std.proofs.Common.{drop}
use Rattle.jd_layout.specs.Blocks.{IsIndex}
use Rattle.jd_layout.proofs.parts.is_index.Given as goal

abbrev pub invariant-loop-axis : goal.invariant-loop-axis
invariant-loop-axis l = record {
  left : IsIndex l.dims l.index → IsIndex (drop l.axis l.dims) (drop l.axis l.index);
  whole : IsIndex (drop l.axis l.dims) (drop l.axis l.index) → IsIndex l.dims l.index;
}

use Rattle.std.proofs.Common.{◌<◌, drop}
use Rattle.jd_value.specs.Array.{product}
use Rattle.jd_layout.specs.Blocks.{IsLocated}
use Rattle.jd_layout.proofs.parts.located.Given as goal

abbrev pub invariant-loop-axis : goal.invariant-loop-axis
invariant-loop-axis l = record {
  behind : IsLocated (drop l.axis l.dims) (drop l.axis l.dist) (drop l.axis l.index) l.part l.place;
  fits : l.place < product (drop l.axis l.dims);
}

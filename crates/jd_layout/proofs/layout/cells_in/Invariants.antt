use Rattle.std.proofs.Common.{◌≡◌, ◌*◌, ◌≤◌, ◌^◌, drop}
use Rattle.jd_value.specs.Array.{product}
use Rattle.jd_layout.proofs.layout.cells_in.Given as goal

abbrev pub invariant-loop-size : goal.invariant-loop-size
invariant-loop-size l = record {
  left : l.cells * product (drop l.size-index l.dims) ≡ product l.dims;
  fits : l.cells ≤ 2 ^ (18 * l.size-index);
}

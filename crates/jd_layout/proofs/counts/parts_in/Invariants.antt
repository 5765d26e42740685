use Rattle.std.proofs.Common.{◌≡◌, ◌*◌, ◌≤◌, ◌^◌, drop}
use Rattle.jd_value.specs.Array.{product}
use Rattle.jd_layout.proofs.counts.parts_in.Given as goal

abbrev pub invariant-loop-pieces : goal.invariant-loop-pieces
invariant-loop-pieces l = record {
  left : l.parts * product (drop l.pieces-index l.dist) ≡ product l.dist;
  fits : l.parts ≤ 2 ^ (32 * l.pieces-index);
}

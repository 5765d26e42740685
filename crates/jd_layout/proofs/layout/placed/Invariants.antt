use Rattle.std.proofs.Common.{◌≡◌, length, take}
use Rattle.jd_layout.proofs.layout.placed.Given as goal

abbrev pub invariant-loop-axis : goal.invariant-loop-axis
invariant-loop-axis l = record {
  front : take l.axis l.places ≡ take l.axis l.dist;
  room : length l.places ≡ 3;
}

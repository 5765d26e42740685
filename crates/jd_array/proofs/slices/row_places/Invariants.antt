use Rattle.std.proofs.Common.{◌≡◌, ◌≤◌, [], ◌∷◌, drop}
use Rattle.jd_array.specs.Places.{places}
use Rattle.jd_array.proofs.slices.row_places.Given as goal

abbrev pub invariant-loop-axis : goal.invariant-loop-axis
invariant-loop-axis l = record {
  is : l.all.items ≡ places (drop l.axis l.dims) (drop l.axis l.picks) (0 ∷ []);
  from : 1 ≤ l.axis;
}

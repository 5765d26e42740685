use Rattle.std.proofs.Common.{◌≡◌, drop}
use Rattle.jd_value.specs.Array.{place_of}
use Rattle.jd_array.proofs.index.place_in.Given as goal

abbrev pub invariant-loop-axis : goal.invariant-loop-axis
invariant-loop-axis l = l.place ≡ place_of (drop l.axis l.dims) (drop l.axis l.index)

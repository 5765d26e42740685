use Rattle.std.proofs.Common.{◌≡◌, ◌++◌, take, flat_map}
use Rattle.jd_value.specs.Quoted.{escaped}
use Rattle.jd_value.proofs.escape.push_quoted.Given as goal

abbrev pub invariant-loop-byte : goal.invariant-loop-byte
invariant-loop-byte l = l.out ≡ l.initial.out ++ flat_map escaped (take l.byte-index l.byte-items)

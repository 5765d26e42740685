use Rattle.std.proofs.Common.{◌≡◌, take}
use Rattle.std.specs.List.{flat_map}
use Rattle.jd_array.specs.Places.{places_along}
use Rattle.jd_array.proofs.slices.spread.Given as goal

abbrev pub invariant-loop-place : goal.invariant-loop-place
invariant-loop-place l = l.all.items ≡ flat_map (places_along l.size l.pick) (take l.place-index l.behind)

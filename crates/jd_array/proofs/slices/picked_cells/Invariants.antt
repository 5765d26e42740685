use Rattle.std.proofs.Common.{◌≡◌, pos, map, take, get_or}
use Rattle.std.specs.List.{flat_map}
use Rattle.jd_array.specs.Places.{places_along}
use Rattle.jd_array.proofs.slices.picked_cells.Given as goal

abbrev pub invariant-loop-row : goal.invariant-loop-row
invariant-loop-row l = l.out.items ≡ map (λ place. get_or l.cells place (pos 0)) (flat_map (places_along l.size l.pick) (take l.row-index l.rows))

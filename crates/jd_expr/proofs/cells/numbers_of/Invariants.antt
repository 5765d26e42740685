use Rattle.std.proofs.Common.{◌≡◌, map, take}
use Rattle.jd_array.specs.Places.{pick_first}
use Rattle.jd_expr.proofs.cells.numbers_of.Given as goal

abbrev pub invariant-loop-pick : goal.invariant-loop-pick
invariant-loop-pick l = l.all.items ≡ map pick_first (take l.pick-index l.picks)

use Rattle.std.proofs.Common.{◌≡◌, map, drop}
use Rattle.jd_expr.specs.Comparing.{each_passes, equal}
use Rattle.jd_expr.proofs.comparing.+equality.Given as goal

abbrev pub invariant-all_equal-loop-item : goal.invariant-all_equal-loop-item
invariant-all_equal-loop-item l =
    each_passes (map equal l.items) l.fn.others ≡ each_passes (map equal (drop l.item-index l.items)) l.others

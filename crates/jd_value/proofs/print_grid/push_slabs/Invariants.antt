use Rattle.std.proofs.Common.{◌≡◌, ◌++◌, map}
use Rattle.std.specs.List.{range_with_len}
use Rattle.jd_value.specs.Joined.{joined}
use Rattle.jd_value.specs.ShownGrid.{slab_text}
use Rattle.jd_value.specs.Words.{mark_text}
use Rattle.jd_value.specs.declared.mark.Mark.TheVariants as m
use Rattle.jd_value.proofs.print_grid.push_slabs.Given as goal

abbrev pub invariant-loop-slab : goal.invariant-loop-slab
invariant-loop-slab l = l.out ≡ l.initial.out ++ joined (mark_text m.NextSlab) (map (slab_text l.array) (range_with_len 0 l.slab))

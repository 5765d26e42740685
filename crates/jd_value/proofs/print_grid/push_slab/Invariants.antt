use Rattle.std.proofs.Common.{◌≡◌, ◌++◌, map}
use Rattle.std.specs.List.{range_with_len}
use Rattle.jd_value.specs.Joined.{joined}
use Rattle.jd_value.specs.ShownGrid.{row_text}
use Rattle.jd_value.specs.Words.{mark_text}
use Rattle.jd_value.specs.declared.mark.Mark.TheVariants as m
use Rattle.jd_value.proofs.print_grid.push_slab.Given as goal

abbrev pub invariant-loop-row : goal.invariant-loop-row
invariant-loop-row l = l.out ≡ l.initial.out ++ joined (mark_text m.NextRow) (map (row_text l.array l.slab) (range_with_len 0 l.row))

use Rattle.std.proofs.Common.{◌≡◌, ◌++◌, map}
use Rattle.std.specs.List.{range_with_len}
use Rattle.jd_value.specs.Joined.{joined}
use Rattle.jd_value.specs.ShownGrid.{cell_text}
use Rattle.jd_value.specs.Words.{mark_text}
use Rattle.jd_value.specs.declared.mark.Mark.TheVariants as m
use Rattle.jd_value.proofs.print_grid.push_row.Given as goal

abbrev pub invariant-loop-column : goal.invariant-loop-column
invariant-loop-column l = l.out ≡ l.initial.out ++ joined (mark_text m.Blank) (map (cell_text l.array l.slab l.row) (range_with_len 0 l.column))

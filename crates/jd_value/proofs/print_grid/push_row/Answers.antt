use Rattle.jd_value.proofs.Joining.{add_one}
use Rattle.jd_value.specs.ShownGrid.{cell_text}
use Rattle.jd_value.specs.Words.{mark_text}
use Rattle.jd_value.specs.declared.mark.Mark.TheVariants as m
use Rattle.jd_value.proofs.print_grid.push_row.Goals as goal

pub loop-column-preserved : goal.loop-column-preserved
loop-column-preserved c =
    add_one c.args.out.now (mark_text m.Blank) (cell_text c.args.array.now c.args.slab c.args.row) c.loop-column.column c.loop-column.invariant c.in_ok-push_separator.ensures
    c.in_ok-push_cell.ensures

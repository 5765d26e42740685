use Rattle.jd_value.proofs.Joining.{add_one}
use Rattle.jd_value.specs.ShownGrid.{row_text}
use Rattle.jd_value.specs.Words.{mark_text}
use Rattle.jd_value.specs.declared.mark.Mark.TheVariants as m
use Rattle.jd_value.proofs.print_grid.push_slab.Goals as goal

pub loop-row-preserved : goal.loop-row-preserved
loop-row-preserved c =
    add_one c.args.out.now (mark_text m.NextRow) (row_text c.args.array.now c.args.slab) c.loop-row.row c.loop-row.invariant c.in_ok-push_separator.ensures
    c.in_ok-push_row.ensures

use Rattle.std.proofs.Common.{arith}
use Rattle.jd_array.proofs.Placed.{row_more}
use Rattle.jd_array.proofs.slices.picked_cells.Goals as goal

pub loop-row-preserved : goal.loop-row-preserved
loop-row-preserved c =
    row_more c.args.cells.now c.args.rows.now c.args.size c.start-start.result c.len-len.result c.args.pick.now c.loop-row.row-index c.loop-row.out.items _
    c.loop-row-test.true c.start-start.ensures c.len-len.ensures
    (omega (arith, c.requires.inside c.loop-row.row-index 0 c.loop-row-test.true, c.requires.window.within, c.start-start.ensures, c.len-len.ensures)) c.in_ok-extend_from_slice.ensures.items c.loop-row.invariant

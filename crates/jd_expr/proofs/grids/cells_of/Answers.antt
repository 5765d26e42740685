use Rattle.std.proofs.Common.{arith}
use Rattle.std.proofs.lemmas.Grind.{common_steps}
use Rattle.jd_expr.proofs.Gridded.{column_more}
use Rattle.jd_expr.proofs.grids.cells_of.Goals as goal

pub loop-place-preserved : goal.loop-place-preserved
loop-place-preserved c = rw (column_more c.args.rows.now c.loop-place.place) (grind (arith, common_steps))

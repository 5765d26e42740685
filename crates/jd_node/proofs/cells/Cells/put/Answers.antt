use Rattle.jd_node.proofs.Tables.{cells_put}
use Rattle.jd_node.proofs.cells.Cells.put.Goals as goal

pub returns : goal.returns
returns g c = cells_put _ _ _ _ c.in_ok-insert.ensures.updates

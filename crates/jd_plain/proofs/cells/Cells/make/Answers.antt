use Rattle.std.proofs.Common.{Some, None}
use Rattle.jd_plain.proofs.Maps.{by_cell-put}
use Rattle.jd_plain.proofs.cells.Cells.make.Goals as goal

pub returns : goal.returns
returns c = by_cell-put c.args.self.now.held c.insert.new.self c.args.cell (Some None) c.in_ok-insert.ensures.updates.0

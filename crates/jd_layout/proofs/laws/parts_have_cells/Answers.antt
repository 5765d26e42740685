use Rattle.jd_layout.proofs.Gathering.{has_cell}
use Rattle.jd_layout.proofs.laws.parts_have_cells.Goals as goal

pub returns : goal.returns
returns c = λ index part place located. has_cell c.args._whole.now c.args._layout.now.dist index part place located

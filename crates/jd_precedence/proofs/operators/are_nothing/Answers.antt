use Rattle.jd_precedence.proofs.Shapes.{nothing_items}
use Rattle.jd_precedence.proofs.operators.are_nothing.Goals as goal

pub returns-in-None : goal.returns-in-None
returns-in-None c = rw c.in-None.is (nothing_items c.args.items.now c.is_empty.result c.is_empty.ensures)

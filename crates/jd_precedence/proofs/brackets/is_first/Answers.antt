use Rattle.jd_precedence.proofs.Shapes.{first_items}
use Rattle.jd_precedence.proofs.brackets.is_first.Goals as goal

pub returns-in-Itemed : goal.returns-in-Itemed
returns-in-Itemed c = rw c.in-Itemed.is (first_items c.args.listing.now.most.items c.is_empty.result c.is_empty.ensures)

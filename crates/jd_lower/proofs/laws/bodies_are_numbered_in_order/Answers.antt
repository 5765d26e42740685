use Rattle.jd_lower.proofs.Numbering.{numbered}
use Rattle.jd_lower.proofs.laws.bodies_are_numbered_in_order.Goals as goal

pub returns : goal.returns
returns c = numbered

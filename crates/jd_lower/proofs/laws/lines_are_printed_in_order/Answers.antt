use Rattle.jd_lower.proofs.Printing.{in_order}
use Rattle.jd_lower.proofs.laws.lines_are_printed_in_order.Goals as goal

pub returns : goal.returns
returns c = in_order

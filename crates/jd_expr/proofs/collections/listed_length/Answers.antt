use Rattle.jd_expr.proofs.Limited.{listed_range}
use Rattle.jd_expr.proofs.collections.listed_length.Goals as goal

pub returns-in-Range-clause-count : goal.returns-in-Range-clause-count
returns-in-Range-clause-count c = cc (listed_range c.in-Range.span)

use Rattle.std.proofs.Common.{arith}
use Rattle.jd_task.proofs.Collected.{in_span, behind_span}
use Rattle.jd_task.proofs.collection.number.Goals as goal

pub returns-then-at-count : goal.returns-then-at-count
returns-then-at-count c = (omega arith, grind (arith, in_span))

pub returns-else-at-count : goal.returns-else-at-count
returns-else-at-count c = behind_span c.args.span.now c.args.at (omega arith)

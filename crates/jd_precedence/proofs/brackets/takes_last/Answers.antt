use Rattle.jd_tree.specs.Code.{plain_measured}
use Rattle.jd_precedence.proofs.Shapes.{several_last}
use Rattle.jd_precedence.proofs.brackets.takes_last.Goals as goal

pub returns-else-is_empty : goal.returns-else-is_empty
returns-else-is_empty c = rw c.in-Itemed.is (several_last c.args.most.now.items c.is_empty.result (plain_measured c.args.last.now) c.is_empty.ensures c.if-is_empty.false)

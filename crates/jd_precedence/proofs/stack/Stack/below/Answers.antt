use Rattle.jd_precedence.proofs.Drops.{below_top}
use Rattle.jd_precedence.proofs.stack.Stack.below.Goals as goal

pub returns-then-depth-len-clause-rest : goal.returns-then-depth-len-clause-rest
returns-then-depth-len-clause-rest g c = rw (← c.self.view_is) (below_top c.self.inside.items.items c.args.depth c.index-items-len.result
    (rw c.as_slice-items.ensures.value at c.if-depth-len.true) (rw c.as_slice-items.ensures.value at c.index-items-len.is))

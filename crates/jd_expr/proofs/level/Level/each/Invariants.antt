use Rattle.std.proofs.Common.{◌≡◌, length}
use Rattle.jd_expr.specs.Meaning.{meaning, each, each_from}
use Rattle.jd_expr.proofs.level.Level.each.Given as goal

abbrev pub invariant-loop-all : goal.invariant-loop-all
invariant-loop-all g l =
    each (meaning l.self.fuel) l.calls l.vars l.fn.all l.fn.budget ≡ each_from (meaning l.self.fuel) l.done l.calls l.vars l.all l.budget

abbrev pub decreases-loop-all : goal.decreases-loop-all
decreases-loop-all g l = length l.all

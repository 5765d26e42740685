use Rattle.std.proofs.Common.{◌≡◌, true, map, length}
use Rattle.jd_grammar.specs.Trees.{Syntax}
use Rattle.jd_grammar.specs.Rows.{is_chain}
use Rattle.jd_tree.specs.Plain.{applied, plain_application}
use Rattle.jd_tree.proofs.Peeling.{IsTaken}
use Rattle.jd_tree.proofs.peel.take_groups.Given as goal

abbrev pub invariant-loop-application : goal.invariant-loop-application
invariant-loop-application l = (f : Syntax) → is_chain (applied f (map plain_application l.fn.applications)) ≡ true → IsTaken f l.fn.applications l.applications l.fn.taken_off l.taken_off

abbrev pub decreases-loop-application : goal.decreases-loop-application
decreases-loop-application l = length l.applications

use Rattle.std.proofs.Common.{◌≡◌, map, length}
use Rattle.jd_grammar.specs.Rows.{joined}
use Rattle.jd_tree.specs.Plain.{plain_cell, cells_at}
use Rattle.jd_tree.specs.Peeling.{taken}
use Rattle.jd_tree.proofs.rows.in_order.Given as goal

abbrev pub invariant-loop-atom : goal.invariant-loop-atom
invariant-loop-atom l = joined (cells_at (map plain_cell l.cells)) (taken l.taken_off) ≡ taken l.fn.taken_off

abbrev pub decreases-loop-atom : goal.decreases-loop-atom
decreases-loop-atom l = length l.taken_off

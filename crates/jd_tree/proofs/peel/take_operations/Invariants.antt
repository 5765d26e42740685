use Rattle.std.proofs.Common.{◌≡◌, true, map, length}
use Rattle.jd_grammar.specs.Trees.{Syntax}
use Rattle.jd_grammar.specs.Rows.{joined, cells_of}
use Rattle.jd_tree.specs.Plain.{operated, plain_operation}
use Rattle.jd_tree.specs.Peeling.{taken, are_tight_chains}
use Rattle.jd_tree.proofs.peel.take_operations.Given as goal

abbrev pub invariant-loop-operation : goal.invariant-loop-operation
invariant-loop-operation l = record {
  tight : are_tight_chains (map plain_operation l.operations) ≡ true;
  cells : (x : Syntax) → joined (cells_of (operated x (map plain_operation l.fn.operations))) (taken l.fn.taken_off) ≡ joined (cells_of (operated x (map plain_operation l.operations))) (taken l.taken_off);
}

abbrev pub decreases-loop-operation : goal.decreases-loop-operation
decreases-loop-operation l = length l.operations

use Rattle.std.proofs.Common.{map, ◌∙◌}
use Rattle.jd_tree.specs.Plain.{operated, plain_operation}
use Rattle.jd_tree.proofs.Peeling.{tight_last, operations_off}
use Rattle.jd_tree.proofs.peel.take_operations.Goals as goal

pub take_operation-requires : goal.take_operation-requires
take_operation-requires c = (tight_last c.loop-operation.operations c.pop.new.self c.in-Some.operation c.in-Some.ensures c.loop-operation.invariant.tight).1

pub loop-operation-preserved : goal.loop-operation-preserved
loop-operation-preserved c = record {
  tight = (tight_last c.loop-operation.operations c.pop.new.self c.in-Some.operation c.in-Some.ensures c.loop-operation.invariant.tight).0;
  cells = λ x. c.loop-operation.invariant.cells x ∙ operations_off x c.loop-operation.operations c.pop.new.self c.in-Some.operation c.loop-operation.taken_off c.take_operation.new.taken_off
      c.in-Some.ensures (c.in_ok-take_operation.ensures (operated x (map plain_operation c.pop.new.self)));
}

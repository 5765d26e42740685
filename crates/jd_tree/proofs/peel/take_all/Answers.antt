use Rattle.std.proofs.Common.{sym, ◌∙◌}
use Rattle.jd_tree.specs.Plain.{plain}
use Rattle.jd_tree.proofs.Peeling.{call_step, binary_step, operations_tight, negative_tight}
use Rattle.jd_tree.proofs.peel.take_all.Goals as goal

pub inner-preserved : goal.inner-preserved
inner-preserved c =
    let s = binary_step c.inner.current c.in-Binary.first c.into_inner-current-in-Binary.result c.in-Binary.before c.in-Binary.last c.inner.taken_off c.take_difference.new.taken_off
    c.in-Binary.is c.into_inner-current-in-Binary.ensures (c.in_ok-take_difference-in-Binary.ensures (plain c.in-Binary.first)) c.inner.invariant.chain in
    record {
      chain = s.chain;
      first = sym s.first ∙ c.inner.invariant.first;
      cells = sym s.cells ∙ c.inner.invariant.cells;
    }

pub inner-preserved-in-Call : goal.inner-preserved-in-Call
inner-preserved-in-Call c =
    let s = call_step c.inner.current c.in-Call.first c.into_inner-current.result c.in-Call.before c.in-Call.last c.inner.taken_off c.take_call.new.taken_off
    c.in-Call.is c.into_inner-current.ensures c.in_ok-take_call-in-Call.ensures c.inner.invariant.chain in
    record {
      chain = s.0.chain;
      first = sym s.0.first ∙ c.inner.invariant.first;
      cells = sym s.0.cells ∙ c.inner.invariant.cells;
    }

pub take_difference-requires-clause-last : goal.take_difference-requires-clause-last
take_difference-requires-clause-last c = (operations_tight c.inner.current c.in-Binary.first c.in-Binary.before c.in-Binary.last c.in-Binary.is c.inner.invariant.chain).0

pub take_difference-requires-clause-others : goal.take_difference-requires-clause-others
take_difference-requires-clause-others c = (operations_tight c.inner.current c.in-Binary.first c.in-Binary.before c.in-Binary.last c.in-Binary.is c.inner.invariant.chain).1

pub take_negative-requires : goal.take_negative-requires
take_negative-requires c = negative_tight c.inner.current c.in-Unary.sign c.in-Unary.operand c.in-Unary.is c.inner.invariant.chain

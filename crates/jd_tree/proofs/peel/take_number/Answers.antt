use Rattle.std.proofs.Common.{sym, ◌∙◌}
use Rattle.jd_tree.specs.Plain.{plain}
use Rattle.jd_tree.proofs.Peeling.{call_step, both_tight, chain_of_tight}
use Rattle.jd_tree.proofs.peel.take_number.Goals as goal

pub inner-preserved : goal.inner-preserved
inner-preserved c =
    let s = call_step c.inner.current c.in-Call.first c.into_inner-current.result c.in-Call.before c.in-Call.last c.inner.taken_off c.take_call.new.taken_off
    c.in-Call.is c.into_inner-current.ensures c.in_ok-take_call-in-Call.ensures (chain_of_tight (plain c.inner.current) c.inner.invariant.tight) in
    record {
      tight = both_tight (plain c.inner.current) (plain c.into_inner-current.result) c.inner.invariant.tight s.1 s.0.chain;
      first = sym s.0.first ∙ c.inner.invariant.first;
      cells = sym s.0.cells ∙ c.inner.invariant.cells;
    }

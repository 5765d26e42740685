use Rattle.std.proofs.Common.{ℕ, refl, sym, ap, ◌∙◌}
use Rattle.jd_node.specs.View.{id_of, stepped_of}
use Rattle.jd_node.specs.Steps.{all_woken}
use Rattle.jd_node.proofs.Woken.{set_once_made, set_alone_made, none_from, on_ok}
use Rattle.jd_node.proofs.node.Node.set_once.Goals as goal

pub returns-clause-step : goal.returns-clause-step
returns-clause-step c =
    let unset = none_from _ (sym c.is_set.ensures ∙ c.if-is_set.false) in
    let mid = set_alone_made c.args.self.now _ _ c.args.cell _ _ refl c.forget.ensures c.in_ok-put_copy.ensures.node in
    on_ok c.wake_all.result c.wake_all.ensures.step (λ s.
    set_once_made (id_of c.args.self.now) c.args.self.now c.wake_all.new.self (stepped_of c.put_copy.new.self) c.args.cell c.args.outcome.now
    c.as_slice.result.now unset (c.as_slice.ensures.value ∙ c.in_ok-asks.ensures)
    (λ i. record { node = mid i; effects = c.in_ok-put_copy.ensures.effects i })
    (s ∙ ap (λ (p : ℕ). all_woken p c.args.outcome.now c.as_slice.result.now (stepped_of c.put_copy.new.self)) c.in_ok-put_copy.ensures.id))

use Rattle.std.proofs.Common.{ℕ, List, nat_eq, sym, ap, ◌∙◌}
use Rattle.std.specs.List.{list_any}
use Rattle.jd_world.proofs.Views.{still_absent, still_more}
use Rattle.jd_world.proofs.outside.Outside.possible.Goals as goal

pub loop-number-init : goal.loop-number-init
loop-number-init c = λ q h. let e = c.keys-number-items.ensures.rest in let f = c.into_iter-number-iterator.ensures.into_iter_gives in
    still_absent c.args.self.now.workers c.args.self.now.to_main c.args.self.now.events c.args.self.now.marks.items q
    (ap (λ (ks : List ℕ). list_any (nat_eq q) ks) (sym (f ∙ e)) ∙ h)

pub loop-number-preserved : goal.loop-number-preserved
loop-number-preserved c = still_more _ c.in-Some.number.now _ _ c.in-Some.ensures.steps c.loop-number.invariant c.in-None-possible_at.ensures

pub returns : goal.returns
returns c = λ p. c.loop-number.invariant p (ap (λ (ks : List ℕ). list_any (nat_eq p) ks) c.in-None.ensures.steps.0)

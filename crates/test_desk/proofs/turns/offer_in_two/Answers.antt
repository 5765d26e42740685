use Rattle.std.proofs.Common.{◌≤◌, List, ℕ, length, sym, ap, subst}
use Rattle.std.specs.Prelude.{Any}
use Rattle.jd_desk.specs.Holding.{IsPrefix}
use Rattle.jd_desk.proofs.Seen.{Any-append_left, Any-append_right, beginning-from_seen}
use Rattle.test_desk.proofs.turns.offer_in_two.Goals as goal

pub returns : goal.returns
returns g c = λ refused.
    let full : List ℕ → Type 0 = (λ xs. 4 ≤ length xs) in
    let one = subst (Any full) (sym (ap (λ s. s.seen) c.join.ensures)) (Any-append_right full _ _ (c.join-refused.ensures.first.1 refused)) in
    let both = subst (Any full) (sym (ap (λ s. s.seen) c.join-2.ensures)) (Any-append_left full _ _ one) in
    let beginning = beginning-from_seen full _ _ c.close.ensures.seen both in
    subst (λ list. (xs : List ℕ) × IsPrefix xs list × full xs) (sym c.into_items.ensures) beginning

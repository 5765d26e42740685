use Rattle.std.proofs.Common.{subst, rules}
use Rattle.std.specs.Prelude.{All}
use Rattle.jd_desk.specs.Holding.{IsPrefix}
use Rattle.jd_desk.proofs.Moves.{joins_all, looks}
use Rattle.jd_desk.proofs.Turning.{book_holds, book_fits}
use Rattle.jd_desk.proofs.desk.Desk.close.Goals as goal

pub join_seat-requires : goal.join_seat-requires
join_seat-requires g c = (search rules, search rules, search rules, search rules, joins_all _ _ _ _)

pub load-requires : goal.load-requires
load-requires g c = (search rules, search rules, looks _ _ _)

pub returns-clause-seen : goal.returns-clause-seen
returns-clause-seen g c =
    let list = g.T.Logged.log c.value.inside.value in
    let held = book_holds c.value.inside.book.me c.seat.inside.pass.me c.join_seat.new.seat.me list c.seat.inside.pass.me.0 c.value.invariant.1 c.seat.invariant.1 c.join_seat.ensures.2 in
    let fits = book_fits _ _ _ list held c.load.ensures.2 in
    subst (λ h. All (λ xs. IsPrefix xs list) h.seen) c.seat.view_is fits.seen

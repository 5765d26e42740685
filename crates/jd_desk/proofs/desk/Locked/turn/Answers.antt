use Rattle.std.proofs.Common.{◌<◌, sym, ap, ◌∙◌, subst, rules}
use Rattle.std.specs.Fn.{FnOnceReturnsAtMut}
use Rattle.jd_desk.specs.Holding.{TakesTurn}
use Rattle.jd_desk.proofs.Moves.{splits_all, joins_all, looks, adds}
use Rattle.jd_desk.proofs.Turning.{book_holds, book_fits, leaves_more, takes_turn}
use Rattle.jd_desk.proofs.desk.Locked.turn.Goals as goal

pub split_seat-held-requires : goal.split_seat-held-requires
split_seat-held-requires g c = (search rules, search rules, splits_all _ _)

pub join_seat-requires : goal.join_seat-requires
join_seat-requires g c = (search rules, search rules, search rules, search rules, joins_all _ _ _ _)

pub load-requires : goal.load-requires
load-requires g c = (search rules, search rules, looks _ _ _)

pub compare_exchange_with-requires : goal.compare_exchange_with-requires
compare_exchange_with-requires g c =
    let log = g.T.Logged.log in
    let list = log c.self.inside.value in
    let left = c.call-answer.new.arg2 in
    let held = c.seat.inside.pass.me.0.held in
    let book = book_holds _ _ c.join_seat.new.seat.me list c.seat.inside.pass.me.0 c.self.invariant.1 c.split_seat-held.ensures.4 c.join_seat.ensures.2 in
    let fits = book_fits _ _ held list book c.load.ensures.2 in
    let looked = c.load.ensures.2.same ∙ book in
    let returned : FnOnceReturnsAtMut g.F.FnOnce c.args.call c.args.self.now c.call-answer.result left = search rules in
    let more = leaves_more log _ _ left held _ c.self.view_is c.seat.view_is fits (λ now. c.requires.grows _ _ now returned) in (
      search rules,
      search rules,
      adds _ _ c.entries-found.result c.entries-left.result c.load.new.seat.me log left list
          (ap (λ m. m.0.list) looked)
          (subst (λ m. 0 < m.0.held.shares) (sym looked) c.seat.invariant.2)
          c.entries-found.ensures
          c.entries-left.ensures
          more,
    )

pub split_seat-requires : goal.split_seat-requires
split_seat-requires g c = (search rules, search rules, splits_all _ _)

pub returns-clause-turn : goal.returns-clause-turn
returns-clause-turn g c =
    let log = g.T.Logged.log in
    let list = log c.self.inside.value in
    let left = c.call-answer.new.arg2 in
    let held = c.seat.inside.pass.me.0.held in
    let gets = c.split_seat.result.me.0.held in
    let book = book_holds _ _ c.join_seat.new.seat.me list c.seat.inside.pass.me.0 c.self.invariant.1 c.split_seat-held.ensures.4 c.join_seat.ensures.2 in
    let fits = book_fits _ _ held list book c.load.ensures.2 in
    let looked = c.load.ensures.2.same ∙ book in
    let returned : FnOnceReturnsAtMut g.F.FnOnce c.args.call c.args.self.now c.call-answer.result left = search rules in
    let more = leaves_more log _ _ left held _ c.self.view_is c.seat.view_is fits (λ now. c.requires.grows _ _ now returned) in
    let turn = takes_turn _ _ c.split_seat.result.me held list (log left) looked c.compare_exchange_with.ensures.2 c.split_seat.ensures.4 fits more in
    subst (λ h. TakesTurn (log c.args.self.now) (log left) h gets) c.seat.view_is (subst (λ x. TakesTurn (log x) (log left) held gets) c.self.view_is turn)

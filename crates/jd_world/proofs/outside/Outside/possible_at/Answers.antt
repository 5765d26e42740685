use Rattle.std.proofs.Common.{◌≡◌, ◌==◌, true, false, sym, arith}
use Rattle.std.proofs.lemmas.Bool.Decides.{nat_tests}
use Rattle.jd_world.proofs.Views.{still_main, still_none, possible_row}
use Rattle.jd_world.proofs.outside.Outside.possible_at.Goals as goal

pub returns-then-number-eq1 : goal.returns-then-number-eq1
returns-then-number-eq1 c = let one : (c.args.number == 1) ≡ true = grind (arith, nat_tests, c.if-number-eq1.true) in still_main _ _ one

pub returns-in-None : goal.returns-in-None
returns-in-None c = let other : (c.args.number == 1) ≡ false = grind (arith, nat_tests, c.if-number-eq1.false) in
    still_none c.args.self.now.workers c.args.self.now.to_main c.args.self.now.events c.args.self.now.marks.items c.args.number other (sym c.in-None.ensures.value)

pub returns-in-Some : goal.returns-in-Some
returns-in-Some c = let other : (c.args.number == 1) ≡ false = grind (arith, nat_tests, c.if-number-eq1.false) in
    possible_row c.args.self.now.workers c.args.self.now.to_main c.args.self.now.events c.args.self.now.marks.items c.args.number c.in-Some.worker.now c.event_of.result other
    c.in-Some.ensures.value c.event_of.ensures

use Rattle.std.proofs.Common.{◌≡◌, ◌==◌, true, false, not, refl, ap, arith}
use Rattle.std.proofs.lemmas.Bool.Decides.{nat_tests}
use Rattle.jd_model.specs.declared.event.Event.TheVariants.{Deliver}
use Rattle.jd_world.proofs.Events.{inside_not}
use Rattle.jd_world.proofs.Views.{arrive_happens, arrive_nothing, arrive_can, tries_broken}
use Rattle.jd_world.proofs.outside.Outside.arrive.Goals as goal

pub returns-then-to-eq1-clause-tries : goal.returns-then-to-eq1-clause-tries
returns-then-to-eq1-clause-tries c = let one : (c.args.to == 1) ≡ true = grind (arith, nat_tests, c.if-to-eq1.true) in (inside_not _ (Deliver c.args.from c.args.to) (ap not one), refl)

pub returns-in-Ok-true-clause-tries : goal.returns-in-Ok-true-clause-tries
returns-in-Ok-true-clause-tries c = let other : (c.args.to == 1) ≡ false = grind (arith, nat_tests, c.if-to-eq1.false) in
    arrive_happens c.args.self.now.workers c.arrive.new.self c.args.self.now.to_main _ _ _ _ _ other (c.in-Ok-true.ensures.went c.in-Ok-true.field-0-test)

pub returns-in-Ok-false-clause-tries : goal.returns-in-Ok-false-clause-tries
returns-in-Ok-false-clause-tries c = let other : (c.args.to == 1) ≡ false = grind (arith, nat_tests, c.if-to-eq1.false) in
    let n = c.in-Ok-false.ensures.none c.in-Ok-false.field-0-test in
    arrive_nothing c.args.self.now.workers c.arrive.new.self c.args.self.now.to_main _ _ _ _ _ other n.0 n.1 n.2 n.3

pub returns-in-Err-clause-tries : goal.returns-in-Err-clause-tries
returns-in-Err-clause-tries c = let other : (c.args.to == 1) ≡ false = grind (arith, nat_tests, c.if-to-eq1.false) in
    let o = c.args.self.now in tries_broken (Unit {0}) (Deliver c.args.from c.args.to) _ _ c.in-Err.fault c.broken_by.result c.broken_by.ensures (arrive_can o.workers o.to_main o.events o.marks.items c.args.from c.args.to other c.in-Err.ensures.can) c.in-Err.ensures.err

use Rattle.std.proofs.Common.{◌≡◌, ◌==◌, true, false, not, refl, ap, arith}
use Rattle.std.proofs.lemmas.Bool.Decides.{nat_tests}
use Rattle.jd_model.specs.declared.event.Event.TheVariants.{Run}
use Rattle.jd_world.specs.Outside.{told_of}
use Rattle.jd_world.proofs.Events.{inside_not, run_can}
use Rattle.jd_world.proofs.Views.{run_made, run_nothing, tries_broken}
use Rattle.jd_world.proofs.outside.Outside.go_on.Goals as goal

pub returns-then-number-eq1-clause-tries : goal.returns-then-number-eq1-clause-tries
returns-then-number-eq1-clause-tries c = let one : (c.args.number == 1) ≡ true = grind (arith, nat_tests, c.if-number-eq1.true) in (inside_not _ (Run c.args.number) (ap not one), refl)

pub returns-in-Ok-true-clause-tries : goal.returns-in-Ok-true-clause-tries
returns-in-Ok-true-clause-tries c = let other : (c.args.number == 1) ≡ false = grind (arith, nat_tests, c.if-number-eq1.false) in
    run_made c.args.self.now.workers c.go_on.new.self c.args.self.now.to_main _ _ _ _ other (c.in-Ok-true.ensures.went c.in-Ok-true.field-0-test) c.go_on.ensures.links

pub returns-in-Ok-false-clause-tries : goal.returns-in-Ok-false-clause-tries
returns-in-Ok-false-clause-tries c =
    let n = c.in-Ok-false.ensures.none c.in-Ok-false.field-0-test in
    run_nothing c.args.self.now.workers c.go_on.new.self c.args.self.now.to_main _ _ _ _ n.0 n.1 c.go_on.ensures.links n.2

pub returns-in-Err-clause-tries : goal.returns-in-Err-clause-tries
returns-in-Err-clause-tries c = let other : (c.args.number == 1) ≡ false = grind (arith, nat_tests, c.if-number-eq1.false) in
    let o = c.args.self.now in tries_broken (Unit {0}) (Run c.args.number) _ _ c.in-Err.fault c.broken_by.result c.broken_by.ensures (run_can (told_of o) c.args.number other c.in-Err.ensures.can) c.in-Err.ensures.err

use Rattle.std.proofs.Common.{◌≡◌, ◌==◌, true, false, not, refl, ap, arith}
use Rattle.std.proofs.lemmas.Bool.Decides.{nat_tests}
use Rattle.jd_model.specs.declared.event.Event.TheVariants.{Emit}
use Rattle.jd_world.proofs.Events.{inside_not, emit_not, emit_can}
use Rattle.jd_world.proofs.outside.Outside.emit.Goals as goal

pub returns-then-from-eq1-clause-tries : goal.returns-then-from-eq1-clause-tries
returns-then-from-eq1-clause-tries c = let one : (c.args.from == 1) ≡ true = grind (arith, nat_tests, c.if-from-eq1.true) in (inside_not _ (Emit c.args.from c.args.to) (ap not one), refl)

pub returns-then-has_mail-clause-tries : goal.returns-then-has_mail-clause-tries
returns-then-has_mail-clause-tries c = let other : (c.args.from == 1) ≡ false = grind (arith, nat_tests, c.if-from-eq1.false) in (emit_can _ c.args.from c.args.to other c.if-has_mail.ensures, refl)

pub returns-clause-tries : goal.returns-clause-tries
returns-clause-tries c = (emit_not _ c.args.from c.args.to c.if-has_mail.ensures, refl)

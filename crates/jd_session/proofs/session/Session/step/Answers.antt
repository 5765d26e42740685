use Rattle.std.proofs.Common.{sym, ◌∙◌}
use Rattle.jd_session.proofs.Kept.{has_ended}
use Rattle.jd_session.proofs.session.Session.step.Goals as goal

pub returns-in-Ok-Some-clause-ended : goal.returns-in-Ok-Some-clause-ended
returns-in-Ok-Some-clause-ended g c = has_ended c.in-Ok-Some.ending _ (sym c.in-Ok-Some.field-0-is ∙ c.in-Ok-Some.ensures.some)

use Rattle.std.proofs.Common.{◌≡◌, subst, sym, ap}
use Rattle.jd_node.specs.View.{node_of}
use Rattle.jd_session.specs.Headline.{HasEnded}
use Rattle.jd_session.proofs.Kept.{main_ended}
use Rattle.jd_session.proofs.drive.turn.Goals as goal

pub returns-in-Ok-Ended-clause-end : goal.returns-in-Ok-Ended-clause-end
returns-in-Ok-Ended-clause-end g c = λ p st old same j.
    main_ended (node_of c.step.new.self.hub) _ _ (subst (λ s. HasEnded s (node_of c.step.new.self.hub)) c.in-Ok-Ended.field-0-is c.in-Ok-Ended.ensures.ended) p st old _
    (c.in-Ok-Ended.ensures.kept p st old j)

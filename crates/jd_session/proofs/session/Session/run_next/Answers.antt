use Rattle.std.proofs.Common.{◌≡◌, subst, sym, ap}
use Rattle.jd_node.specs.View.{node_of}
use Rattle.jd_session.proofs.Kept.{kept_by, part_by, falls_by}
use Rattle.jd_session.proofs.session.Session.run_next.Goals as goal

pub returns-in-Ok-clause-kept : goal.returns-in-Ok-clause-kept
returns-in-Ok-clause-kept g c =
    kept_by _ _ _ _ _ _ c.requires.process c.requires.running (c.in-Ok-true.ensures.went c.in-Ok-true.field-0-test) c.effects.ensures c.in-Ok.ensures.told

pub returns-in-Ok-clause-falls : goal.returns-in-Ok-clause-falls
returns-in-Ok-clause-falls g c =
    λ _ i. falls_by _ (node_of c.args.self.now.hub) _ _ _ _ _ c.requires.process (c.in-Ok-true.ensures.went c.in-Ok-true.field-0-test) c.effects.ensures c.in-Ok.ensures.told i

pub returns-in-Err-tell_all-clause-kept : goal.returns-in-Err-tell_all-clause-kept
returns-in-Err-tell_all-clause-kept g c = λ p st old new j.
    rw c.stop_of.ensures (part_by _ _ _ _ _ _ _ _ _ _ _ c.requires.process c.requires.running (c.in-Ok-true.ensures.went c.in-Ok-true.field-0-test) c.effects.ensures
    c.in-Err-tell_all.ensures.err c.in-Err-tell_all.ensures.cause p st old new j)

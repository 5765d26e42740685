use Rattle.std.proofs.Common.{◌≡◌, subst, sym, ap}
use Rattle.jd_node.specs.View.{node_of}
use Rattle.jd_session.proofs.Kept.{kept_arrived, kept_arriving, falls_arrived}
use Rattle.jd_session.proofs.session.Session.arrived.Goals as goal

pub returns-in-Ok-tell_all-clause-kept : goal.returns-in-Ok-tell_all-clause-kept
returns-in-Ok-tell_all-clause-kept g c =
    kept_arrived _ _ _ _ _ _ _ c.requires.running c.in-Ok.ensures.step c.effects.ensures c.in-Ok-tell_all.ensures.told

pub returns-in-Ok-tell_all-clause-falls : goal.returns-in-Ok-tell_all-clause-falls
returns-in-Ok-tell_all-clause-falls g c =
    falls_arrived (node_of c.args.self.now.hub) _ _ _ _ _ _ _ c.in-Ok.ensures.step c.effects.ensures c.in-Ok-tell_all.ensures.told

pub returns-in-Err-tell_all-clause-kept : goal.returns-in-Err-tell_all-clause-kept
returns-in-Err-tell_all-clause-kept g c = λ p st old new a.
    rw c.stop_of.ensures (kept_arriving (node_of c.args.self.now.hub) _ _ _ _ _ _ _ _ _ _ _ c.requires.running c.in-Ok.ensures.step c.effects.ensures
    c.in-Err-tell_all.ensures.err c.in-Err-tell_all.ensures.cause p st old new a)

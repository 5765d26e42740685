use Rattle.std.proofs.Common.{◌≡◌, subst, sym, ap}
use Rattle.jd_node.specs.View.{node_of}
use Rattle.jd_session.proofs.Kept.{kept_quiet, kept_message, falls_message, ends_message, ends_fault}
use Rattle.jd_session.proofs.drive.wait.Goals as goal

pub returns-in-Ok-Quiet-clause-end : goal.returns-in-Ok-Quiet-clause-end
returns-in-Ok-Quiet-clause-end g c = kept_quiet _ _ _ _ _ c.requires.idle c.in-Ok-Quiet.field-0-is c.in-Ok-Quiet.ensures.arrival

pub returns-in-Ok-clause-go : goal.returns-in-Ok-clause-go
returns-in-Ok-clause-go g c =
    kept_message _ _ _ _ _ _ _ _ c.requires.idle.running c.in-Ok-Message.field-0-is c.in-Ok-Message.ensures.arrival c.in-Ok.ensures.kept

pub returns-in-Ok-clause-falls : goal.returns-in-Ok-clause-falls
returns-in-Ok-clause-falls g c =
    falls_message (node_of c.args.session.now.hub) _ _ _ _ _ _ _ c.in-Ok-Message.field-0-is c.in-Ok-Message.ensures.arrival c.in-Ok.ensures.falls

pub returns-in-Err-arrived-clause-end : goal.returns-in-Err-arrived-clause-end
returns-in-Err-arrived-clause-end g c = λ p st old new same j.
    rw c.end_of.ensures (ends_message (node_of c.args.session.now.hub) c.in-Err-arrived.stop _ _ _ _ _ _ c.requires.idle.running c.in-Ok-Message.field-0-is c.in-Ok-Message.ensures.arrival
    c.in-Err-arrived.ensures.kept p st old new j)

pub returns-in-Err-clause-end : goal.returns-in-Err-clause-end
returns-in-Err-clause-end g c = λ p st old new same j.
    rw (c.end_of-in-Err.ensures, c.stop_of.ensures) (ends_fault (node_of c.args.session.now.hub) _ _ _ _ _ _ c.in-Err.fault c.requires.idle.running c.in-Err.ensures.err c.in-Err.ensures.cause p st old new j)

use Rattle.std.proofs.Common.{refl, ap}
use Rattle.jd_model.specs.Node.{Node}
use Rattle.jd_node.specs.View.{node_of}
use Rattle.jd_world.specs.Outside.{told_of}
use Rattle.jd_world.specs.World.{joined_with}
use Rattle.jd_world.proofs.Whole.{emit_none, emit_some, emit_sent, emit_leaves}
use Rattle.jd_world.proofs.world.World.emit.Goals as goal

pub returns-in-true-clause-tries : goal.returns-in-true-clause-tries
returns-in-true-clause-tries c = (emit_some _ _ _ c.in-true.ensures, refl)

pub returns-in-false-clause-tries : goal.returns-in-false-clause-tries
returns-in-false-clause-tries c = (emit_none _ _ _ c.in-false.ensures, refl)

pub returns-in-None-clause-tries : goal.returns-in-None-clause-tries
returns-in-None-clause-tries c = (emit_none _ _ _ c.in-None.ensures.sent.0, ap (λ (n : Node). joined_with (told_of c.args.self.now.outside) n) c.in-None.ensures.sent.1)

pub returns-in-Ok-clause-tries : goal.returns-in-Ok-clause-tries
returns-in-Ok-clause-tries c = emit_leaves (told_of c.args.self.now.outside) (told_of c.send.new.self) (node_of c.args.self.now.hub) (node_of c.emit.new.self) c.args.to c.in-Some.msg
    c.in-Some.ensures.sent c.in-Ok.ensures.sent

pub returns-in-Err-clause-tries : goal.returns-in-Err-clause-tries
returns-in-Err-clause-tries c =
    (emit_sent (told_of c.args.self.now.outside).outside.net (node_of c.args.self.now.hub) (node_of c.emit.new.self) c.args.to c.in-Some.msg c.in-Some.ensures.sent, c.send.ensures.marks)

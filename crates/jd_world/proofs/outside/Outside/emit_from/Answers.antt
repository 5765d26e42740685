use Rattle.jd_world.proofs.Views.{emit_nothing, emit_made, emit_broken}
use Rattle.jd_world.proofs.outside.Outside.emit_from.Goals as goal

pub returns-in-None-clause-tries : goal.returns-in-None-clause-tries
returns-in-None-clause-tries c = emit_nothing _ _ _ _ _ _ _ c.in-None.ensures.nodes.0 c.in-None.ensures.nodes.1 c.emit.ensures.links

pub returns-in-Ok-clause-tries : goal.returns-in-Ok-clause-tries
returns-in-Ok-clause-tries c = let o = c.args.self.now in
    emit_made o.workers c.emit.new.self o.to_main o.events o.marks.items _ _ _ _ c.requires c.in-Some.ensures.nodes c.emit.ensures.links c.in-Ok.ensures.sent

pub returns-in-Err-clause-tries : goal.returns-in-Err-clause-tries
returns-in-Err-clause-tries c = let o = c.args.self.now in
    (emit_broken o.workers c.emit.new.self o.to_main o.events o.marks.items _ _ _ c.requires c.in-Some.ensures.nodes, c.send.ensures.marks)

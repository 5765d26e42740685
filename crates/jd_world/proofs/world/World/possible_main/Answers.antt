use Rattle.std.proofs.Common.{sym, ◌∙◌}
use Rattle.jd_node.specs.View.{node_of}
use Rattle.jd_world.specs.Outside.{told_of}
use Rattle.jd_world.proofs.Whole.{emit_some, arrive_some, run_some, main_still, ready_some, ready_none}
use Rattle.jd_world.proofs.world.World.possible_main.Goals as goal

pub returns-in-Some : goal.returns-in-Some
returns-in-Some c = emit_some (told_of c.args.self.now.outside).outside.net (node_of c.args.self.now.hub) _ c.in-Some.ensures

pub returns-in-Some-first : goal.returns-in-Some-first
returns-in-Some-first c = let o = c.args.self.now.outside in
    arrive_some o.workers o.to_main o.events o.marks.items (node_of c.args.self.now.hub) c.in-Some-first.from c.in-Some-first.ensures

pub returns-then-ready : goal.returns-then-ready
returns-then-ready c = let n = node_of c.args.self.now.hub in
    run_some (told_of c.args.self.now.outside).outside.net n (ready_some n (sym (c.ready.ensures 1) ∙ c.if-ready.true))

pub returns : goal.returns
returns c = let o = c.args.self.now.outside in let n = node_of c.args.self.now.hub in
    main_still o.workers o.to_main o.events o.marks.items n c.in_default.ensures c.in_default-first.ensures (ready_none n (sym (c.ready.ensures 1) ∙ c.if-ready.false))

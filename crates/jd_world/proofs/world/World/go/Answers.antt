use Rattle.jd_node.specs.View.{node_of}
use Rattle.jd_world.specs.Outside.{told_of}
use Rattle.std.proofs.Common.{sym, ◌∙◌}
use Rattle.jd_world.proofs.Whole.{tries_outside}
use Rattle.jd_world.proofs.world.World.go.Goals as goal

pub returns-then-is_outside-clause-tries : goal.returns-then-is_outside-clause-tries
returns-then-is_outside-clause-tries c =
    tries_outside (Unit {0}) (told_of c.args.self.now.outside) (told_of c.go.new.self) (node_of c.args.self.now.hub) c.args.event.now c.go.result
    (sym c.is_outside.ensures ∙ c.if-is_outside.true) c.go.ensures.tries

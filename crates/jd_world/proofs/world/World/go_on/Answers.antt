use Rattle.std.proofs.Common.{refl}
use Rattle.jd_node.specs.View.{node_of}
use Rattle.jd_world.specs.Outside.{told_of}
use Rattle.jd_world.proofs.Whole.{run_none, run_some, run_leaves, whole_same, world_broken}
use Rattle.jd_world.proofs.world.World.go_on.Goals as goal

pub returns-in-Ok-true-clause-tries : goal.returns-in-Ok-true-clause-tries
returns-in-Ok-true-clause-tries c = let o = c.args.self.now.outside in
    run_leaves o.workers o.to_main o.events o.marks.items c.go_on.new.marks.items (node_of c.args.self.now.hub) (node_of c.go_on.new.node) (c.in-Ok-true.ensures.went c.in-Ok-true.field-0-test)

pub returns-in-Ok-false-clause-tries : goal.returns-in-Ok-false-clause-tries
returns-in-Ok-false-clause-tries c = let o = c.args.self.now.outside in let n = c.in-Ok-false.ensures.none c.in-Ok-false.field-0-test in (
  run_none (told_of o).outside.net (node_of c.args.self.now.hub) n.0,
  whole_same o.workers o.to_main o.to_main o.events o.marks.items c.go_on.new.marks.items (node_of c.args.self.now.hub) (node_of c.go_on.new.node) refl n.1 n.2,
)

pub returns-in-Err-clause-tries : goal.returns-in-Err-clause-tries
returns-in-Err-clause-tries c = let o = c.args.self.now.outside in
    world_broken (Unit {0}) _ _ _ c.in-Err.fault c.broken_by.result c.broken_by.ensures (run_some (told_of o).outside.net (node_of c.args.self.now.hub) c.in-Err.ensures.can) c.in-Err.ensures.err

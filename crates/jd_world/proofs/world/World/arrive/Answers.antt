use Rattle.jd_node.specs.View.{node_of}
use Rattle.jd_world.proofs.Whole.{arrive_none, arrive_some, arrive_leaves, whole_same, world_broken}
use Rattle.jd_world.proofs.world.World.arrive.Goals as goal

pub returns-in-Ok-true-clause-tries : goal.returns-in-Ok-true-clause-tries
returns-in-Ok-true-clause-tries c = let o = c.args.self.now.outside in
    arrive_leaves o.workers o.to_main c.arrive.new.links o.events o.marks.items c.arrive.new.marks.items (node_of c.args.self.now.hub) (node_of c.arrive.new.node) c.args.from
    (c.in-Ok-true.ensures.went c.in-Ok-true.field-0-test)

pub returns-in-Ok-false-clause-tries : goal.returns-in-Ok-false-clause-tries
returns-in-Ok-false-clause-tries c = let o = c.args.self.now.outside in let n = c.in-Ok-false.ensures.none c.in-Ok-false.field-0-test in (
  arrive_none o.workers o.to_main o.events o.marks.items (node_of c.args.self.now.hub) c.args.from n.0,
  whole_same o.workers o.to_main c.arrive.new.links o.events o.marks.items c.arrive.new.marks.items (node_of c.args.self.now.hub) (node_of c.arrive.new.node) n.1 n.2 n.3,
)

pub returns-in-Err-clause-tries : goal.returns-in-Err-clause-tries
returns-in-Err-clause-tries c = let o = c.args.self.now.outside in
    world_broken (Unit {0}) _ _ _ c.in-Err.fault c.broken_by.result c.broken_by.ensures
    (arrive_some o.workers o.to_main o.events o.marks.items (node_of c.args.self.now.hub) c.args.from c.in-Err.ensures.can) c.in-Err.ensures.err

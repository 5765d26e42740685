use Rattle.std.proofs.Common.{◌≡◌, ◌-◌}
use Rattle.jd_model.specs.World.{Moves}
use Rattle.jd_world.specs.Outside.{told_of}
use Rattle.jd_world.proofs.outside.Outside.receive.Given as goal

abbrev pub invariant-loop-self : goal.invariant-loop-self
invariant-loop-self l = record {
  moves : Moves (told_of l.fn.self) (told_of l.self);
  count : l.self.workers.count ≡ l.fn.self.workers.count;
}

abbrev pub decreases-loop-self : goal.decreases-loop-self
decreases-loop-self l = 10000000 - l.self.events

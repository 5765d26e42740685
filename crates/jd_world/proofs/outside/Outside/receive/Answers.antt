use Rattle.std.proofs.Common.{◌≡◌, ◌+◌, ◌<◌, ap, ◌∙◌, arith}
use Rattle.jd_model.specs.World.{Told}
use Rattle.jd_world.specs.Fabric.{max_events}
use Rattle.jd_world.proofs.Moving.{goes_quiet, goes_on, counted}
use Rattle.jd_world.proofs.outside.Outside.receive.Goals as goal

pub returns-in-None-possible-clause-found : goal.returns-in-None-possible-clause-found
returns-in-None-possible-clause-found c = goes_quiet _ _ _ c.loop-self.invariant.moves c.in-None.ensures.taken c.in-None-possible.ensures

pub loop-self-preserved : goal.loop-self-preserved
loop-self-preserved c = record {
  moves = goes_on _ _ _ _ c.in-Some-possible.event c.loop-self.invariant.moves c.in-None.ensures.taken.1 c.in-Ok.ensures.steps;
  count = c.outside_step.ensures.count ∙ c.take.ensures.count ∙ c.loop-self.invariant.count;
}

pub loop-self-smaller : goal.loop-self-smaller
loop-self-smaller c =
    let same : c.take.new.self.events ≡ c.loop-self.self.events = ap (λ (t : Told). t.outside.events) c.in-None.ensures.taken.1 in
    let more : c.outside_step.new.outside.events ≡ c.take.new.self.events + 1 = counted _ _ _ c.in-Ok.ensures.steps in
    let room : c.loop-self.self.events < max_events = c.is_full.ensures.room c.loop-self-test.true in
    omega (arith, same, more, room)

use Rattle.std.proofs.Common.{arith}
use Rattle.jd_array.proofs.Placed.{pushed}
use Rattle.jd_array.proofs.slices.push_range.Goals as goal

pub loop-place-preserved : goal.loop-place-preserved
loop-place-preserved c =
    pushed c.args.all.now.items c.loop-place.all.items c.push.new.self.items c.args.first c.loop-place.place (omega arith) c.in_ok-push.ensures.items c.loop-place.invariant

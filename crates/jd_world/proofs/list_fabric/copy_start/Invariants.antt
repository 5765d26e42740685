use Rattle.std.proofs.Common.{◌≡◌, take}
use Rattle.jd_world.proofs.list_fabric.copy_start.Given as goal

abbrev pub invariant-loop-loss : goal.invariant-loop-loss
invariant-loop-loss l = l.losses ≡ take l.loss-index l.start.losses

use Rattle.std.proofs.Common.{◌≡◌, ℕ, ◌≤◌, length}
use Rattle.jd_session.proofs.Telling.{ToldSoFar}
use Rattle.jd_session.proofs.record.tell_all.Given as goal

abbrev pub invariant-loop-effects : goal.invariant-loop-effects
invariant-loop-effects g l = record {
  so_far : ToldSoFar l.fn.effects l.effects (g.F.Fabric.told l.fn.fabric) (g.F.Fabric.told l.fabric);
  begun : g.F.Fabric.begun l.fabric ≡ g.F.Fabric.begun l.fn.fabric;
  faults_later : g.F.Fabric.faults l.fn.fabric ≤ g.F.Fabric.faults l.fabric;
  limits_later : g.F.Fabric.limits l.fn.fabric ≤ g.F.Fabric.limits l.fabric;
}

abbrev pub decreases-loop-effects : goal.decreases-loop-effects
decreases-loop-effects g l = length l.effects

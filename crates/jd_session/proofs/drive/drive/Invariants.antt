use Rattle.std.proofs.Common.{◌≡◌, ℕ, ◌≤◌, List, Option, is_some, true}
use Rattle.jd_value.specs.declared.tree.Program.{Program}
use Rattle.jd_model.specs.declared.start.Start.{Start}
use Rattle.jd_node.specs.View.{node_of, id_of}
use Rattle.jd_session.specs.Headline.{IsJoined, IsBegunWith, work_left}
use Rattle.jd_session.proofs.drive.drive.Given as goal

abbrev pub invariant-loop-end : goal.invariant-loop-end
invariant-loop-end g l = record {
  joined : (p : Program) (st : Start) (old : Option (List ℕ)) → IsJoined p st (node_of l.fn.session.hub) (g.F.Fabric.told l.fn.fabric) old (g.K.Sink.written l.fn.out)
      → IsJoined p st (node_of l.session.hub) (g.F.Fabric.told l.fabric) old (g.K.Sink.written l.out);
  workers : l.session.workers ≡ l.fn.session.workers;
  process : id_of l.session.hub ≡ 1;
  begun : g.F.Fabric.begun l.fabric ≡ g.F.Fabric.begun l.fn.fabric;
  tells : is_some (g.F.Fabric.told l.fabric) ≡ is_some (g.F.Fabric.told l.fn.fabric);
  sink_later : g.K.Sink.faults l.fn.out ≤ g.K.Sink.faults l.out;
  later : g.F.Fabric.faults l.fn.fabric ≤ g.F.Fabric.faults l.fabric;
}

abbrev pub decreases-loop-end : goal.decreases-loop-end
decreases-loop-end g l = work_left (node_of l.session.hub) l.session.workers (g.F.Fabric.told l.fabric)

use Rattle.std.proofs.Common.{◌≡◌}
use Rattle.jd_node.specs.View.{id_of}
use Rattle.jd_session.specs.Headline.{IsBegunWith}
use Rattle.test_engine.proofs.sessions.driven.Given as goal

abbrev pub invariant-turns : goal.invariant-turns
invariant-turns l = record {
  begun : IsBegunWith l.fabric.inner.begun l.session.workers;
  process : id_of l.session.hub ≡ 1;
}

use Rattle.std.proofs.Common.{◌≡◌, ◌<◌, ◌≤◌, ◌+◌, ℕ, []}
use Rattle.jd_node.specs.View.{node_of}
use Rattle.jd_session.proofs.session.Session.next_mail.Given as goal

abbrev pub invariant-loop-worker : goal.invariant-loop-worker
invariant-loop-worker l = (q : ℕ) → 2 ≤ q → q < l.worker + 2 → (node_of l.self.hub).outbox q ≡ []

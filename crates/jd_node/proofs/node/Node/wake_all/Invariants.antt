use Rattle.std.proofs.Common.{◌≡◌, drop}
use Rattle.jd_node.specs.View.{id_of, stepped_of}
use Rattle.jd_node.specs.Steps.{all_woken}
use Rattle.jd_node.proofs.node.Node.wake_all.Given as goal

abbrev pub invariant-loop-ask : goal.invariant-loop-ask
invariant-loop-ask l = record {
  step : all_woken (id_of l.fn.self) l.outcome (drop l.ask-index l.asks) (stepped_of l.self) ≡ all_woken (id_of l.fn.self) l.outcome l.asks (stepped_of l.fn.self);
  id : id_of l.self ≡ id_of l.fn.self;
}

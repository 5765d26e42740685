use Rattle.std.proofs.Common.{ap}
use Rattle.jd_world.specs.Outside.{told_of}
use Rattle.jd_world.specs.declared.list_fabric.ListFabric.{ListFabric}
use Rattle.test_fabrics.proofs.Still.{moved_nothing}
use Rattle.test_fabrics.proofs.failing.FailingFabricFabric.receive.Goals as goal

pub returns-then-call_fails-clause-err : goal.returns-then-call_fails-clause-err
returns-then-call_fails-clause-err c = moved_nothing _ _ (ap (λ (f : ListFabric). told_of f.outside) c.call_fails.ensures.inner)

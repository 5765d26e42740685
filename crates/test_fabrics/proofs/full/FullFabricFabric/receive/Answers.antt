use Rattle.std.proofs.Common.{refl}
use Rattle.test_fabrics.proofs.Still.{moved_nothing}
use Rattle.test_fabrics.proofs.full.FullFabricFabric.receive.Goals as goal

pub returns-clause-err : goal.returns-clause-err
returns-clause-err c = moved_nothing _ _ refl

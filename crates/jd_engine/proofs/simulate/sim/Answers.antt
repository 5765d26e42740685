use Rattle.std.proofs.Common.{subst}
use Rattle.jd_engine.specs.Loading.{IsBegun}
use Rattle.jd_engine.proofs.simulate.sim.Goals as goal

pub returns-clause-taken : goal.returns-clause-taken
returns-clause-taken g c = λ command content named tells begun.
    c.ran-ending.ensures.taken command content named tells (subst IsBegun c.status.ensures begun)

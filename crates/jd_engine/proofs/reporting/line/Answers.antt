use Rattle.jd_engine.proofs.reporting.line.Goals as goal

pub returns-in-Usage-clause-err : goal.returns-in-Usage-clause-err
returns-in-Usage-clause-err g c = rw c.in-Usage.is c.two.ensures.err

pub returns-in-FabricFault-clause-err : goal.returns-in-FabricFault-clause-err
returns-in-FabricFault-clause-err g c = rw c.in-FabricFault.is c.two-in-FabricFault.ensures.err

use Rattle.jd_engine.proofs.Pieces.{errs_then}
use Rattle.jd_engine.proofs.reporting.two.Goals as goal

pub returns-clause-err : goal.returns-clause-err
returns-clause-err g c = errs_then c.write_whole-2.result _ _ _ c.args.a.now c.args.b.now c.in_ok-write_whole.ensures.ok c.write_whole-2.ensures.err

use Rattle.std.proofs.Common.{◌++◌}
use Rattle.jd_engine.proofs.Pieces.{errs_then}
use Rattle.jd_engine.proofs.reporting.three.Goals as goal

pub returns-clause-err : goal.returns-clause-err
returns-clause-err g c =
    errs_then c.write_whole.result _ _ _ (c.args.a.now ++ c.args.b.now) c.args.c.now c.in_ok-two.ensures.ok c.write_whole.ensures.err

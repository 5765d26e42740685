use Rattle.std.proofs.Common.{◌++◌}
use Rattle.jd_engine.proofs.Pieces.{errs_front, oks_then}
use Rattle.jd_engine.proofs.reporting.five.Goals as goal

pub returns-clause-ok : goal.returns-clause-ok
returns-clause-ok g c =
    oks_then c.two.result _ _ _ (c.args.a.now ++ c.args.b.now ++ c.args.c.now) (c.args.d.now ++ c.args.e.now) c.in_ok-three.ensures.ok c.two.ensures.ok

pub returns-clause-err : goal.returns-clause-err
returns-clause-err g c =
    errs_front c.two.result _ _ _ (c.args.a.now ++ c.args.b.now ++ c.args.c.now) (c.args.d.now ++ c.args.e.now) c.in_ok-three.ensures.ok c.two.ensures.err

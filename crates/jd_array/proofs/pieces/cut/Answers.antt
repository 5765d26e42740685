use Rattle.std.proofs.Common.{arith}
use Rattle.jd_array.proofs.Cuts.{start_is}
use Rattle.jd_array.proofs.pieces.cut.Goals as goal

pub returns-clause-start : goal.returns-clause-start
returns-clause-start c = omega (arith, start_is c.args.size c.args.pieces c.args.piece)

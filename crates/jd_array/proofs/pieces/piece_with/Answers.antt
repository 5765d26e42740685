use Rattle.std.proofs.Common.{arith}
use Rattle.jd_array.proofs.Cuts.{holds_longer, holds_shorter, later_piece_below}
use Rattle.jd_array.proofs.pieces.piece_with.Goals as goal

pub returns-then-index-in_longer-clause-holds : goal.returns-then-index-in_longer-clause-holds
returns-then-index-in_longer-clause-holds c = holds_longer c.args.size c.args.pieces c.args.index c.if-index-in_longer.true

pub overflow_cast-result-2 : goal.overflow_cast-result-2
overflow_cast-result-2 c =
    omega (arith, later_piece_below c.args.size c.args.pieces c.args.index c.requires.inside c.requires.pieces c.if-index-in_longer.false)

pub returns-clause-piece : goal.returns-clause-piece
returns-clause-piece c = later_piece_below c.args.size c.args.pieces c.args.index c.requires.inside c.requires.pieces c.if-index-in_longer.false

pub returns-clause-holds : goal.returns-clause-holds
returns-clause-holds c = holds_shorter c.args.size c.args.pieces c.args.index c.requires.inside c.requires.pieces c.if-index-in_longer.false

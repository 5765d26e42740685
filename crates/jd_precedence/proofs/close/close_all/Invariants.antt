use Rattle.std.proofs.Common.{◌≡◌, length}
use Rattle.jd_grammar.specs.Machine.{close}
use Rattle.jd_tree.specs.Code.{plain_measured}
use Rattle.jd_precedence.specs.State.{plain_frames}
use Rattle.jd_precedence.proofs.close.close_all.Given as goal

-- what is left to close gives what all gives
abbrev pub invariant-loop-top : goal.invariant-loop-top
invariant-loop-top l = close l.bound (plain_frames l.frames) (plain_measured l.operand) ≡ close l.bound (plain_frames l.fn.frames) (plain_measured l.fn.operand)

abbrev pub decreases-loop-top : goal.decreases-loop-top
decreases-loop-top l = length l.frames

use Rattle.std.proofs.Common.{◌≡◌, drop, ◌-◌, length}
use Rattle.jd_grammar.specs.Frames.{ranges}
use Rattle.jd_precedence.specs.State.{plain_frames}
use Rattle.jd_precedence.proofs.operators.ranges.Given as goal

-- what is left of the frames says what all say
abbrev pub invariant-loop-frame : goal.invariant-loop-frame
invariant-loop-frame l = ranges (plain_frames (drop l.depth l.frames)) ≡ ranges (plain_frames l.frames)

abbrev pub decreases-loop-frame : goal.decreases-loop-frame
decreases-loop-frame l = length l.frames - l.depth

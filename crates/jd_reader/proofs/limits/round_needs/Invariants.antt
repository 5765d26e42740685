use Rattle.std.proofs.Common.{◌≡◌, drop, ◌-◌, length}
use Rattle.jd_tree.specs.Measures.{height_up_to}
use Rattle.jd_reader.specs.Rounds.{round_at}
use Rattle.jd_reader.specs.Reading.{plain_outers}
use Rattle.jd_reader.proofs.limits.round_needs.Given as goal

-- what is left of the statements makes what all make
abbrev pub invariant-loop-statement : goal.invariant-loop-statement
invariant-loop-statement l = height_up_to (round_at (plain_outers (drop l.depth l.outer)) l.deepest l.has_token l.height) ≡ height_up_to (round_at (plain_outers l.outer) l.lines l.fn.has_token l.fn.height)

abbrev pub decreases-loop-statement : goal.decreases-loop-statement
decreases-loop-statement l = length l.outer - l.depth

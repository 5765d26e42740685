use Rattle.std.proofs.Common.{◌≡◌, drop, ◌-◌, length}
use Rattle.jd_grammar.specs.Grammar.{Syntax}
use Rattle.jd_grammar.specs.Shortest.{wrap}
use Rattle.jd_tree.specs.Measures.{measure}
use Rattle.jd_precedence.specs.State.{plain_frames}
use Rattle.jd_precedence.proofs.depth.depth_from.Given as goal

-- what is left of the frames, round what is measured, makes what all make of the operand
abbrev pub invariant-loop-frame : goal.invariant-loop-frame
invariant-loop-frame l = (e : Syntax) → l.fn.operand ≡ measure e → (d : Syntax) × (l.operand ≡ measure d) × (wrap (plain_frames (drop l.at l.frames)) d ≡ wrap (plain_frames (drop l.from l.frames)) e)

abbrev pub decreases-loop-frame : goal.decreases-loop-frame
decreases-loop-frame l = length l.frames - l.at

use Rattle.std.proofs.Common.{◌≡◌, drop}
use Rattle.jd_grammar.specs.Reader.{scope}
use Rattle.jd_reader.specs.Reading.{plain_outers, plain_scope}
use Rattle.jd_reader.proofs.scopes.scope_of.Given as goal

-- the scope of the block at this depth
abbrev pub invariant-loop-depth : goal.invariant-loop-depth
invariant-loop-depth l = plain_scope l.scope ≡ scope (plain_outers (drop l.depth l.outer))

abbrev pub decreases-loop-depth : goal.decreases-loop-depth
decreases-loop-depth l = l.depth

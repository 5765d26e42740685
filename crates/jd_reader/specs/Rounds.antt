-- How deep the shallowest script nests, by numbers alone.
use Rattle.std.specs.Prelude.{ℕ, ◌+◌, max, Bool, true, List, [], ◌∷◌, if◌then◌else◌}
use Rattle.jd_grammar.specs.Reader.{Outer}
use Rattle.jd_grammar.specs.ScriptDepth.{depth_lines, outer_needs}

-- the least depth round lines that nest so deep and a statement of this depth, where one of them has a token or not
abbrev pub round_at : List Outer → ℕ → Bool → ℕ → ℕ
round_at [] d b h = max d h
round_at (o ∷ os) d b h = round_at os (depth_lines o.lines) true (outer_needs o (if b then 1 + max d h else 0))

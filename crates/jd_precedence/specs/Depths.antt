-- How deep the shallowest expression nests, by what was read last and what has been begun.
use Rattle.std.specs.Prelude.{ℕ, ◌+◌, max, min, nat_le, Bool, true, false, ◌&&◌, List, [], ◌∷◌, Option, Some, None, if◌then◌else◌}
use Rattle.jd_grammar.specs.declared.token.Token.{Token}
use Rattle.jd_grammar.specs.Kinds.{is_argument}
use Rattle.jd_grammar.specs.Grammar.{Syntax, sign, ending, unary, called}
use Rattle.jd_grammar.specs.Depth.{height, height_cells}
use Rattle.jd_grammar.specs.Rows.{most_atoms}
use Rattle.jd_grammar.specs.Profile.{Profile}
use Rattle.jd_grammar.specs.Frames.{Hold, spawning, rows, in_bracket, Frame, open_end, fixed}
use Rattle.jd_grammar.specs.Shortest.{shut, wrap}

-- what the construct is with this operand, ended as soon as it may be
abbrev pub wrapped : Frame → Syntax → Syntax
wrapped (open_end h) e = ending h e
wrapped (fixed f) e = shut f e

-- the deepest part of brackets round a first element of this profile
abbrev pub first_parts : Profile → ℕ
first_parts p = if (p.chain && p.long) && nat_le (p.count + 1) most_atoms then p.row else p.tall

-- the deepest part of what wants an atom of this height
abbrev pub held_parts : Hold → ℕ → ℕ
held_parts (spawning s) h = max h 0
held_parts (rows o x cells q) h = max (height x) (max (height_cells cells) h)

-- an operator that was read as a unary one and may still be an argument
abbrev pub sign_argument : List Frame → Option Token
sign_argument (open_end (unary s) ∷ (fixed (in_bracket (called f) o es) ∷ fs)) = if is_argument s.kind then Some s else None
sign_argument _ = None

-- whether the innermost construct is a call
abbrev pub in_call : List Frame → Bool
in_call (fixed (in_bracket (called f) o es) ∷ fs) = true
in_call _ = false

-- the shallower of two: one with such an argument in these constructs, and another
abbrev pub least_with : Option Token → List Frame → ℕ → ℕ
least_with None fs h = h
least_with (Some s) fs h = min (height (wrap fs (sign s))) h

-- What the depth of whatever stands round an expression depends on, so that the least depth of what was read is a fold
-- over the frames.
use Rattle.std.specs.Prelude.{ℕ, ◌+◌, max, Bool, true, false, ◌&&◌, List, [], ◌∷◌, nat_le, if◌then◌else◌}
use Rattle.jd_grammar.specs.Kinds.{is_minus}
use Rattle.jd_grammar.specs.Grammar.{Syntax, Head, unary, binary, keyword, Bracket, grouped, called, itemed, Items, none}
use Rattle.jd_grammar.specs.Rows.{begins_tight, is_plain, is_chain, is_long, first_of, cells_of, count_cells, most_atoms}
use Rattle.jd_grammar.specs.Depth.{height, height_head, height_bracket, height_cells, height_items, height_generators}
use Rattle.jd_grammar.specs.Frames.{Hold, spawning, rows, Fixed, in_bracket, in_middle, in_group, in_generator, in_size, in_place, Frame, open_end, fixed}

pub record Profile : Type 0 where
  pub tall : ℕ
  pub plain : Bool
  pub tight : Bool
  -- whether it is written as atoms, two or more of them, how deep those are, and how many stand behind the first
  pub chain : Bool
  pub long : Bool
  pub row : ℕ
  pub count : ℕ

-- the height of an expression's atoms
abbrev pub row_height : Syntax → ℕ
row_height e = max (height (first_of e)) (height_cells (cells_of e))

abbrev pub profile : Syntax → Profile
profile e = record {
  tall = height e;
  plain = is_plain e;
  tight = begins_tight e;
  chain = is_chain e;
  long = is_long e;
  row = if is_chain e then row_height e else 0;
  count = if is_chain e then count_cells (cells_of e) else 0;
}

-- what is written as no atoms
abbrev pub flat : ℕ → Bool → Bool → Bool → Profile
flat tall plain tight long = record { tall = tall; plain = plain; tight = tight; chain = false; long = long; row = 0; count = 0 }

abbrev pub row_profile : ℕ → Bool → Bool → Bool → ℕ → ℕ → Profile
row_profile tall tight chain long row count = record { tall = tall; plain = true; tight = tight; chain = chain; long = long; row = if chain then row else 0; count = if chain then count else 0 }

-- behind the beginning of what ends with an operand
abbrev pub behind_head : Head → Profile → Profile
behind_head (unary t) p = row_profile (1 + max 0 p.tall) false (is_minus t.kind && (p.tight && p.chain)) p.long (max 1 p.row) p.count
behind_head (binary l t) p =
    row_profile (1 + max (height l) p.tall) false ((is_minus t.kind && t.spaced) && ((p.tight && p.chain) && is_chain l)) true
    (max (row_height l) (max 1 p.row)) (count_cells (cells_of l) + 1 + p.count)
behind_head (keyword n t) p = flat (1 + max 0 p.tall) false false false
behind_head h p = flat (1 + max (height_head h) p.tall) true false false

-- the least height of brackets round a first element
abbrev pub first_element : Profile → ℕ
first_element p = if p.chain && p.long then (if nat_le (p.count + 1) most_atoms then 1 + p.row else 1 + p.tall) else 1 + p.tall

abbrev pub in_brackets : Bracket → Bool → Items → Profile → Profile
in_brackets (called f) spaced none p =
    row_profile (1 + max (height f) (max 0 p.tall)) (begins_tight f) ((spaced && p.plain) && is_chain f) true (max (row_height f) (1 + max 0 p.tall)) (count_cells (cells_of f) + 1)
in_brackets (called f) spaced es p = flat (1 + max (height f) (max (height_items es) p.tall)) true (begins_tight f) true
in_brackets grouped spaced none p = row_profile (1 + max 0 (max 0 p.tall)) false true false (1 + max 0 (max 0 p.tall)) 0
in_brackets itemed spaced none p = flat (first_element p) true false false
in_brackets b spaced es p = flat (1 + max (height_bracket b) (max (height_items es) p.tall)) true false false

abbrev pub in_hold : Hold → ℕ → ℕ
in_hold (spawning s) h = 1 + h
in_hold (rows o x cells q) h = 1 + max (height x) (max (height_cells cells) h)

abbrev pub in_fixed : Fixed → Profile → Profile
in_fixed (in_bracket b o es) p = in_brackets b o.spaced es p
in_fixed (in_middle c q) p = flat (1 + max (max (height c) p.tall) 0) true false false
in_fixed (in_group hold o) p = flat (in_hold hold (1 + p.tall)) true false false
in_fixed (in_generator o x gens t n i) p = flat (1 + max (height x) (max (height_generators gens) p.tall)) true false false
in_fixed (in_size c type z o) p = flat (1 + max (2 + p.tall) 0) true false false
in_fixed (in_place c type z o size s comma) p = flat (1 + max (2 + height size) p.tall) true false false

abbrev pub in_frame : Frame → Profile → Profile
in_frame (open_end h) p = behind_head h p
in_frame (fixed f) p = in_fixed f p

-- the depth of the expression that closes the frames round one of this profile
abbrev pub depth_in : List Frame → Profile → ℕ
depth_in [] p = p.tall
depth_in (f ∷ fs) p = depth_in fs (in_frame f p)

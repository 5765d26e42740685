-- What has been begun while an expression is read: the frames that are open, the innermost first, and what was read last.
use Rattle.std.specs.Prelude.{ℕ, Bool, true, false, Option, List, [], ◌∷◌}
use Rattle.jd_grammar.specs.declared.token.Token.{Token}
use Rattle.jd_grammar.specs.Grammar.{Channel, Syntax, Head, Bracket, Cells, Items, Generators, asks, is_negation, item_level}

-- what wants an atom
pub data Hold : Type 0 where
  spawning : (t : Token) → Hold
  -- a bracket that can only be a matrix: its first atom, the others, and a `;` that wants one
  rows : (opens : Token) (first : Syntax) (cells : Cells) (pending : Option Token) → Hold

-- a construct whose end is a token of its own, without the operand that is read now
pub data Fixed : Type 0 where
  in_bracket : (b : Bracket) (opens : Token) (most : Items) → Fixed
  -- between `?` and its `:`
  in_middle : (c : Syntax) (question : Token) → Fixed
  -- an atom in parentheses
  in_group : (hold : Hold) (opens : Token) → Fixed
  -- the collection of a comprehension's generator
  in_generator : (opens : Token) (e : Syntax) (gens : Generators) (t n i : Token) → Fixed
  -- the size and the place of a channel
  in_size : (c : Channel) (type shut opens : Token) → Fixed
  in_place : (c : Channel) (type shut opens : Token) (size : Syntax) (closes comma : Token) → Fixed

pub data Frame : Type 0 where
  open_end : (h : Head) → Frame
  fixed : (f : Fixed) → Frame

-- what only some tokens may follow
pub data Words : Type 0 where
  -- an operator as an argument
  operator : (t : Token) → Words
  atoms : (hold : Hold) → Words
  -- the `-` of an atom
  minus : (hold : Hold) (t : Token) → Words
  generator_name : (opens : Token) (e : Syntax) (gens : Generators) (t : Token) → Words
  generator_in : (opens : Token) (e : Syntax) (gens : Generators) (t n : Token) → Words
  element_type : (c : Channel) → Words
  type_end : (c : Channel) (type : Token) → Words
  size_begin : (c : Channel) (type shut : Token) → Words
  place_begin : (c : Channel) (type shut opens : Token) (size : Syntax) (closes : Token) → Words

-- what was read last: nothing that stands by itself, an operand, or what only some tokens may follow
pub data Now : Type 0 where
  wanted : Now
  got : (e : Syntax) → Now
  pending : (w : Words) → Now

pub record State : Type 0 where
  pub frames : List Frame
  pub now : Now

abbrev pub want : List Frame → State
want fs = record { frames = fs; now = wanted }

abbrev pub have : List Frame → Syntax → State
have fs e = record { frames = fs; now = got e }

abbrev pub await : List Frame → Words → State
await fs w = record { frames = fs; now = pending w }

-- ---- what the innermost frame says of its operand

abbrev pub demand_of : Fixed → ℕ
demand_of (in_bracket b o es) = item_level b
demand_of (in_middle c q) = 3
demand_of _ = 1

-- how tightly it has to bind
abbrev pub demand : List Frame → ℕ
demand [] = 1
demand (open_end h ∷ fs) = asks h
demand (fixed f ∷ fs) = demand_of f

abbrev pub ranges_in : Fixed → Bool
ranges_in (in_middle c q) = false
ranges_in _ = true

-- whether a range may stand there
abbrev pub ranges : List Frame → Bool
ranges [] = true
ranges (open_end h ∷ fs) = ranges fs
ranges (fixed f ∷ fs) = ranges_in f

-- whether a `-` stands directly before it
abbrev pub negated : List Frame → Bool
negated [] = false
negated (open_end h ∷ fs) = is_negation h
negated (fixed f ∷ fs) = false

-- What a step reads is there: behind it an expression has begun.
use Rattle.std.proofs.Common.{ℕ, ◌≡◌, ◌≤◌, ◌+◌, false, List, [], ◌∷◌, Some, None, refl, ap, arith}
use Rattle.jd_grammar.specs.declared.token.Token.{Token}
use Rattle.jd_grammar.specs.Grammar.{Syntax, leaf, sign, ending, bracket, matrix, comprehension, remote, Head, unary, binary, choice, lambda, spawn, keyword, Bracket, grouped, called, itemed, indexed, Cells, no_cells, cell, row, Items, none, more, Maybe, nothing, just, Generators, no_more, generator, put, put_head, put_bracket, put_cells, put_items, put_maybe, put_generators}
use Rattle.jd_grammar.specs.Frames.{Hold, spawning, rows, Fixed, in_bracket, in_middle, in_group, in_generator, in_size, in_place, Frame, open_end, fixed, Words, operator, atoms, minus, generator_name, generator_in, element_type, type_end, size_begin, place_begin, Now, wanted, got, pending, State}
use Rattle.jd_grammar.specs.ScriptDepth.{is_fresh}
use Rattle.jd_grammar.proofs.Invariant.{put_hold, put_fixed, put_frame, put_frames, put_words, put_now, put_state, IsStep}

abbrev size : List Token → ℕ
size [] = 0
size (t ∷ ts) = size ts + 1

mutual
  longer : (e : Syntax) (rest : List Token) → size rest ≤ size (put e rest)
  longer (leaf t) rest = omega arith
  longer (sign t) rest = omega arith
  longer (ending h e) rest = omega (arith, longer e rest, longer_head h (put e rest))
  longer (bracket b o most last c) rest =
      omega (arith, longer_maybe last (c ∷ rest), longer_items most (put_maybe last (c ∷ rest)), longer_bracket b (o ∷ put_items most (put_maybe last (c ∷ rest))))
  longer (matrix o a cells c) rest = omega (arith, longer_cells cells (c ∷ rest), longer a (put_cells cells (c ∷ rest)))
  longer (comprehension o e gens c) rest = omega (arith, longer_generators gens (c ∷ rest), longer e (put_generators gens (c ∷ rest)))
  longer (remote x type shut o width closes comma place last) rest =
      omega (arith, longer place (last ∷ rest), longer width (closes ∷ comma ∷ put place (last ∷ rest)))

  longer_head : (h : Head) (rest : List Token) → size rest ≤ size (put_head h rest)
  longer_head (unary t) rest = omega arith
  longer_head (binary l t) rest = omega (arith, longer l (t ∷ rest))
  longer_head (choice c q x t) rest = omega (arith, longer x (t ∷ rest), longer c (q ∷ put x (t ∷ rest)))
  longer_head (lambda ns t) rest = omega (arith, longer ns (t ∷ rest))
  longer_head (spawn t a) rest = omega (arith, longer a rest)
  longer_head (keyword n t) rest = omega arith

  longer_bracket : (b : Bracket) (rest : List Token) → size rest ≤ size (put_bracket b rest)
  longer_bracket grouped rest = omega arith
  longer_bracket (called f) rest = longer f rest
  longer_bracket itemed rest = omega arith
  longer_bracket (indexed f) rest = longer f rest

  longer_cells : (cells : Cells) (rest : List Token) → size rest ≤ size (put_cells cells rest)
  longer_cells no_cells rest = omega arith
  longer_cells (cell a cells) rest = omega (arith, longer_cells cells rest, longer a (put_cells cells rest))
  longer_cells (row t a cells) rest = omega (arith, longer_cells cells rest, longer a (put_cells cells rest))

  longer_items : (es : Items) (rest : List Token) → size rest ≤ size (put_items es rest)
  longer_items none rest = omega arith
  longer_items (more e t es) rest = omega (arith, longer_items es rest, longer e (t ∷ put_items es rest))

  longer_maybe : (m : Maybe) (rest : List Token) → size rest ≤ size (put_maybe m rest)
  longer_maybe nothing rest = omega arith
  longer_maybe (just e) rest = longer e rest

  longer_generators : (gens : Generators) (rest : List Token) → size rest ≤ size (put_generators gens rest)
  longer_generators no_more rest = omega arith
  longer_generators (generator t n i e gens) rest = omega (arith, longer_generators gens rest, longer e (put_generators gens rest))

longer_hold : (hold : Hold) (rest : List Token) → size rest ≤ size (put_hold hold rest)
longer_hold (spawning t) rest = omega arith
longer_hold (rows o a cells None) rest = omega (arith, longer_cells cells rest, longer a (put_cells cells rest))
longer_hold (rows o a cells (Some t)) rest = omega (arith, longer_cells cells (t ∷ rest), longer a (put_cells cells (t ∷ rest)))

longer_fixed : (f : Fixed) (rest : List Token) → size rest ≤ size (put_fixed f rest)
longer_fixed (in_bracket b o es) rest = omega (arith, longer_items es rest, longer_bracket b (o ∷ put_items es rest))
longer_fixed (in_middle c q) rest = omega (arith, longer c (q ∷ rest))
longer_fixed (in_group hold p) rest = omega (arith, longer_hold hold (p ∷ rest))
longer_fixed (in_generator o e gens t n i) rest = omega (arith, longer_generators gens (t ∷ n ∷ i ∷ rest), longer e (put_generators gens (t ∷ n ∷ i ∷ rest)))
longer_fixed (in_size c type z o) rest = omega arith
longer_fixed (in_place c type z o size p comma) rest = omega (arith, longer size (p ∷ comma ∷ rest))

longer_frame : (f : Frame) (rest : List Token) → size rest ≤ size (put_frame f rest)
longer_frame (open_end h) rest = longer_head h rest
longer_frame (fixed f) rest = longer_fixed f rest

longer_frames : (fs : List Frame) (rest : List Token) → size rest ≤ size (put_frames fs rest)
longer_frames [] rest = omega arith
longer_frames (f ∷ fs) rest = omega (arith, longer_frame f rest, longer_frames fs (put_frame f rest))

longer_words : (w : Words) (rest : List Token) → size rest ≤ size (put_words w rest)
longer_words (operator t) rest = omega arith
longer_words (atoms hold) rest = longer_hold hold rest
longer_words (minus hold m) rest = omega (arith, longer_hold hold (m ∷ rest))
longer_words (generator_name o e gens t) rest = omega (arith, longer_generators gens (t ∷ rest), longer e (put_generators gens (t ∷ rest)))
longer_words (generator_in o e gens t n) rest = omega (arith, longer_generators gens (t ∷ n ∷ rest), longer e (put_generators gens (t ∷ n ∷ rest)))
longer_words (element_type c) rest = omega arith
longer_words (type_end c type) rest = omega arith
longer_words (size_begin c type z) rest = omega arith
longer_words (place_begin c type z o size p) rest = omega (arith, longer size (p ∷ rest))

longer_now : (n : Now) (rest : List Token) → size rest ≤ size (put_now n rest)
longer_now wanted rest = omega arith
longer_now (got e) rest = longer e rest
longer_now (pending w) rest = longer_words w rest

longer_state : (s : State) (rest : List Token) → size rest ≤ size (put_state s rest)
longer_state s rest = omega (arith, longer_now s.now rest, longer_frames s.frames (put_now s.now rest))

begun_at : (t : Token) (s : State) (fs : List Frame) (n : Now) → ((rest : List Token) → put_frames fs (put_now n rest) ≡ put_state s (t ∷ rest)) → is_fresh fs n ≡ false
begun_at t s [] wanted h = let e : 0 ≡ size (put_state s (t ∷ [])) = ap size (h []) in absurd (omega (arith, e, longer_state s (t ∷ [])))
begun_at t s _ _ h = refl

pub begun : (t : Token) (s d : State) → IsStep t s d → is_fresh d.frames d.now ≡ false
begun t s d w = begun_at t s d.frames d.now w.tokens

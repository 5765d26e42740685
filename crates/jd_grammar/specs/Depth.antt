-- How deep an expression nests: the most constructs that stand round one of its tokens. A number, a text, a name and
-- an operator as an argument are none.
use Rattle.std.specs.Prelude.{ℕ, ◌+◌, max}
use Rattle.jd_grammar.specs.Grammar.{Syntax, leaf, sign, ending, bracket, matrix, comprehension, remote, Head, unary, binary, choice, lambda, spawn, keyword, Bracket, grouped, called, itemed, indexed, Cells, no_cells, cell, row, Items, none, more, Maybe, nothing, just, Generators, no_more, generator}

abbrev mutual
  pub height : Syntax → ℕ
  height (leaf t) = 0
  height (sign t) = 0
  height (ending h e) = 1 + max (height_head h) (height e)
  height (bracket b o es last c) = 1 + max (height_bracket b) (max (height_items es) (height_maybe last))
  height (matrix o a cells c) = 1 + max (height a) (height_cells cells)
  height (comprehension o e gens c) = 1 + max (height e) (height_generators gens)
  -- the call, in it the lambda, and in it the channel
  height (remote c type shut o size closes comma place last) = 1 + max (2 + height size) (height place)

  pub height_head : Head → ℕ
  height_head (unary t) = 0
  height_head (binary l t) = height l
  height_head (choice c q x t) = max (height c) (height x)
  height_head (lambda ns t) = height ns
  height_head (spawn t a) = height a
  height_head (keyword n t) = 0

  pub height_bracket : Bracket → ℕ
  height_bracket grouped = 0
  height_bracket (called f) = height f
  height_bracket itemed = 0
  height_bracket (indexed f) = height f

  pub height_cells : Cells → ℕ
  height_cells no_cells = 0
  height_cells (cell a cells) = max (height a) (height_cells cells)
  height_cells (row t a cells) = max (height a) (height_cells cells)

  pub height_items : Items → ℕ
  height_items none = 0
  height_items (more e t es) = max (height e) (height_items es)

  pub height_maybe : Maybe → ℕ
  height_maybe nothing = 0
  height_maybe (just e) = height e

  pub height_generators : Generators → ℕ
  height_generators no_more = 0
  height_generators (generator t n i e gens) = max (height e) (height_generators gens)

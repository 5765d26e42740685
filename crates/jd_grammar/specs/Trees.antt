-- Expressions as plain trees that keep every token, and the tokens that a tree is written with.
use Rattle.std.specs.Prelude.{List, ◌∷◌}
use Rattle.jd_grammar.specs.declared.token.Token.{Token}

-- `RemoteChannel(() -> Channel{`: the tokens before the type of a channel's elements
pub record Channel : Type 0 where
  pub callee : Token
  pub opens : Token
  pub none_opens : Token
  pub none_closes : Token
  pub arrow : Token
  pub word : Token
  pub brace : Token

mutual
  pub data Syntax : Type 0 where
    -- a number, a text, a name, `true`, `false` or `nothing`
    leaf : (t : Token) → Syntax
    -- an operator as an argument
    sign : (t : Token) → Syntax
    -- what ends with an operand: its beginning, and the operand
    ending : (h : Head) (e : Syntax) → Syntax
    -- what stands in parentheses or brackets
    bracket : (b : Bracket) (opens : Token) (most : Items) (last : Maybe) (closes : Token) → Syntax
    -- rows of atoms: the first atom, and the others
    matrix : (opens : Token) (first : Syntax) (cells : Cells) (closes : Token) → Syntax
    comprehension : (opens : Token) (e : Syntax) (gens : Generators) (closes : Token) → Syntax
    -- `RemoteChannel(() -> Channel{type}(size), place)`
    remote : (c : Channel) (type shut opens : Token) (size : Syntax) (closes comma : Token) (place : Syntax) (last : Token) → Syntax

  -- the beginning of what ends with an operand
  pub data Head : Type 0 where
    unary : (t : Token) → Head
    binary : (l : Syntax) (t : Token) → Head
    -- `c ? x :`
    choice : (c : Syntax) (question : Token) (x : Syntax) (colon : Token) → Head
    -- a name or names in parentheses, and `->`
    lambda : (names : Syntax) (t : Token) → Head
    -- `@spawnat` or `@fetchfrom`, and an atom
    spawn : (t : Token) (a : Syntax) → Head
    -- the name of a keyword argument, and `=`
    keyword : (n t : Token) → Head

  -- what parentheses or brackets stand behind
  pub data Bracket : Type 0 where
    -- nothing: an expression in parentheses, or a tuple
    grouped : Bracket
    -- a function
    called : (f : Syntax) → Bracket
    -- nothing: a list
    itemed : Bracket
    -- what is indexed
    indexed : (f : Syntax) → Bracket

  -- atoms, one behind another or behind a `;`
  pub data Cells : Type 0 where
    no_cells : Cells
    cell : (a : Syntax) (rest : Cells) → Cells
    row : (t : Token) (a : Syntax) (rest : Cells) → Cells

  -- expressions, each with the separator behind it
  pub data Items : Type 0 where
    none : Items
    more : (e : Syntax) (t : Token) (rest : Items) → Items

  -- an expression that may be left out
  pub data Maybe : Type 0 where
    nothing : Maybe
    just : (e : Syntax) → Maybe

  -- `for name in e`, and behind it `, name in e`
  pub data Generators : Type 0 where
    no_more : Generators
    generator : (t n i : Token) (e : Syntax) (rest : Generators) → Generators

-- ---- the tokens of a tree, in front of those of the rest

abbrev pub put_channel : Channel → List Token → List Token
put_channel c rest = c.callee ∷ c.opens ∷ c.none_opens ∷ c.none_closes ∷ c.arrow ∷ c.word ∷ c.brace ∷ rest

abbrev mutual
  pub put : Syntax → List Token → List Token
  put (leaf t) rest = t ∷ rest
  put (sign t) rest = t ∷ rest
  put (ending h e) rest = put_head h (put e rest)
  put (bracket b o most last c) rest = put_bracket b (o ∷ put_items most (put_maybe last (c ∷ rest)))
  put (matrix o a cells c) rest = o ∷ put a (put_cells cells (c ∷ rest))
  put (comprehension o e gens c) rest = o ∷ put e (put_generators gens (c ∷ rest))
  put (remote c type shut o size closes comma place last) rest =
      put_channel c (type ∷ shut ∷ o ∷ put size (closes ∷ comma ∷ put place (last ∷ rest)))

  pub put_head : Head → List Token → List Token
  put_head (unary t) rest = t ∷ rest
  put_head (binary l t) rest = put l (t ∷ rest)
  put_head (choice c q x t) rest = put c (q ∷ put x (t ∷ rest))
  put_head (lambda ns t) rest = put ns (t ∷ rest)
  put_head (spawn t a) rest = t ∷ put a rest
  put_head (keyword n t) rest = n ∷ t ∷ rest

  pub put_bracket : Bracket → List Token → List Token
  put_bracket grouped rest = rest
  put_bracket (called f) rest = put f rest
  put_bracket itemed rest = rest
  put_bracket (indexed f) rest = put f rest

  pub put_cells : Cells → List Token → List Token
  put_cells no_cells rest = rest
  put_cells (cell a cells) rest = put a (put_cells cells rest)
  put_cells (row t a cells) rest = t ∷ put a (put_cells cells rest)

  pub put_items : Items → List Token → List Token
  put_items none rest = rest
  put_items (more e t es) rest = put e (t ∷ put_items es rest)

  pub put_maybe : Maybe → List Token → List Token
  put_maybe nothing rest = rest
  put_maybe (just e) rest = put e rest

  pub put_generators : Generators → List Token → List Token
  put_generators no_more rest = rest
  put_generators (generator t n i e gens) rest = t ∷ n ∷ i ∷ put e (put_generators gens rest)

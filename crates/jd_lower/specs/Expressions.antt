-- Expressions: literals, variables, and what is computed from them without an effect.
use Rattle.std.specs.Prelude.{Bool, true, false, if◌then◌else◌, List, [], ◌∷◌, ◌++◌, Option, Some, None}
use Rattle.jd_value.specs.declared.expr.Expr.{Expr}
use Rattle.jd_value.specs.declared.expr.Expr.TheVariants as e
use Rattle.jd_value.specs.declared.builtin.Builtin.{Builtin}
use Rattle.jd_value.specs.declared.builtin.Builtin.TheVariants as b
use Rattle.jd_grammar.specs.declared.token.Token.{Token}
use Rattle.jd_grammar.specs.declared.token.Kind.{Kind}
use Rattle.jd_grammar.specs.declared.token.Kind.TheVariants as kind
use Rattle.jd_grammar.specs.Kinds.{is_comma}
use Rattle.jd_grammar.specs.Grammar.{Syntax, leaf, ending, bracket, matrix, unary, binary, choice, grouped, called, itemed, indexed, Items, none, more, Maybe, nothing, just, Cells, no_cells, cell, row, name_of}
use Rattle.jd_tree.specs.Plain.{Suffix, arguments, indexes}
use Rattle.jd_lower.specs.declared.scope.Scope.{Scope}
use Rattle.jd_lower.specs.Literals.{operand}
use Rattle.jd_lower.specs.Operators.{of_one, of_two, chosen}
use Rattle.jd_lower.specs.Builtins.{function, is_of_int, call}

-- ---- lists of expressions

abbrev pub cons : Option Expr → Option (List Expr) → Option (List Expr)
cons None xs = None
cons (Some x) None = None
cons (Some x) (Some xs) = Some (x ∷ xs)

-- expressions behind others
abbrev pub behind : List Expr → Option (List Expr) → Option (List Expr)
behind xs None = None
behind xs (Some ys) = Some (xs ++ ys)

abbrev pub followed_by : Option (List Expr) → Option (List Expr) → Option (List Expr)
followed_by None ys = None
followed_by (Some xs) ys = behind xs ys

abbrev pub made_of : Builtin → Option (List Expr) → Option Expr
made_of f None = None
made_of f (Some xs) = Some (e.Apply f xs)

-- `x[i, j]`
abbrev pub element : Option Expr → Option (List Expr) → Option Expr
element x places = made_of b.Index (cons x places)

-- whether one expression stands alone in parentheses, with no comma
abbrev pub is_alone : Items → Maybe → Bool
is_alone none (just x) = true
is_alone _ _ = false

abbrev pub first_of : Option (List Expr) → Option Expr
first_of None = None
first_of (Some []) = None
first_of (Some (x ∷ xs)) = Some x

-- `(x)` is x itself; `()`, `(x,)` and `(x, y)` are tuples.
abbrev pub group : Bool → Option (List Expr) → Option Expr
group alone all = if alone then first_of all else made_of b.Tuple all

-- ---- rows of atoms

-- whether each row has one atom, which the first two atoms tell
abbrev pub is_column : Cells → Bool
is_column (cell a rest) = false
is_column _ = true

-- an atom in front of the rest of its row; the rows behind are tuples
abbrev pub in_row : Option Expr → Option (List Expr × List Expr) → Option (List Expr × List Expr)
in_row None p = None
in_row (Some x) None = None
in_row (Some x) (Some p) = Some (x ∷ p.0, p.1)

-- the same with an atom that begins the next row
abbrev pub in_next_row : Option Expr → Option (List Expr × List Expr) → Option (List Expr × List Expr)
in_next_row None p = None
in_next_row (Some x) None = None
in_next_row (Some x) (Some p) = Some ([], e.Apply b.Tuple (x ∷ p.0) ∷ p.1)

-- rows, one more that begins with these atoms, and what follows
abbrev pub grid : List Expr → List Expr → Option (List Expr × List Expr) → Option Expr
grid rows begun None = None
grid rows begun (Some p) = Some (e.Apply b.Grid (rows ++ e.Apply b.Tuple (begun ++ p.0) ∷ p.1))

abbrev pub grid_from : Option Expr → Option (List Expr × List Expr) → Option Expr
grid_from None p = None
grid_from (Some x) p = grid [] (x ∷ []) p

-- ---- expressions

abbrev mutual
  -- A literal or a variable, or an operation, group, list, matrix, index or call of such; none for other trees.
  pub expression_of : Scope → Syntax → Option Expr
  expression_of scope (leaf t) = operand scope t.kind
  expression_of scope (ending (unary t) x) = of_one t.kind (expression_of scope x)
  expression_of scope (ending (binary x t) y) = of_two t.kind (expression_of scope x) (expression_of scope y)
  expression_of scope (ending (choice c question x colon) y) = chosen (expression_of scope c) (expression_of scope x) (expression_of scope y)
  expression_of scope (bracket grouped o most last c) = group (is_alone most last) (followed_by (expressions_of scope most) (last_of scope last))
  expression_of scope (bracket (called f) o most last c) = call (function scope (name_of f)) (is_of_int scope most last) (followed_by (expressions_of scope most) (last_of scope last))
  expression_of scope (bracket itemed o most last c) = made_of b.List (followed_by (expressions_of scope most) (last_of scope last))
  expression_of scope (bracket (indexed f) o most last c) = element (expression_of scope f) (followed_by (expressions_of scope most) (last_of scope last))
  expression_of scope (matrix o x cells c) =
      if is_column cells then made_of b.List (cons (expression_of scope x) (atoms_of scope cells)) else grid_from (expression_of scope x) (rows_of scope cells)
  expression_of scope _ = None

  -- expressions with a comma behind each
  pub expressions_of : Scope → Items → Option (List Expr)
  expressions_of scope none = Some []
  expressions_of scope (more x t rest) = if is_comma t.kind then cons (expression_of scope x) (expressions_of scope rest) else None

  pub last_of : Scope → Maybe → Option (List Expr)
  last_of scope nothing = Some []
  last_of scope (just x) = cons (expression_of scope x) (Some [])

  -- all atoms
  pub atoms_of : Scope → Cells → Option (List Expr)
  atoms_of scope no_cells = Some []
  atoms_of scope (cell x rest) = cons (expression_of scope x) (atoms_of scope rest)
  atoms_of scope (row t x rest) = cons (expression_of scope x) (atoms_of scope rest)

  -- the rest of a row, and the rows behind it
  pub rows_of : Scope → Cells → Option (List Expr × List Expr)
  rows_of scope no_cells = Some ([], [])
  rows_of scope (cell x rest) = in_row (expression_of scope x) (rows_of scope rest)
  rows_of scope (row t x rest) = in_next_row (expression_of scope x) (rows_of scope rest)

-- all that stands in parentheses or brackets
abbrev pub all_of : Scope → Items → Maybe → Option (List Expr)
all_of scope most last = followed_by (expressions_of scope most) (last_of scope last)

-- a call of what has this name
abbrev pub call_of : Scope → Kind → Items → Maybe → Option Expr
call_of scope f most last = call (function scope f) (is_of_int scope most last) (all_of scope most last)

-- ---- long rows of operators, calls and indexes

-- Operators behind an expression, each of which takes all before it.
abbrev pub with_operations : Scope → Option Expr → List (Token × Syntax) → Option Expr
with_operations scope x [] = x
with_operations scope x (o ∷ os) = with_operations scope (of_two o.0.kind x (expression_of scope o.1)) os

-- Arguments or indexes behind an expression whose name this is.
abbrev pub with_suffix : Scope → Kind → Option Expr → Suffix → Option Expr
with_suffix scope f x (arguments l) = call_of scope f l.most l.last
with_suffix scope f x (indexes l) = element x (all_of scope l.most l.last)

-- What these give has no name.
abbrev pub with_suffixes : Scope → Kind → Option Expr → List Suffix → Option Expr
with_suffixes scope f x [] = x
with_suffixes scope f x (s ∷ ss) = with_suffixes scope kind.Comma (with_suffix scope f x s) ss

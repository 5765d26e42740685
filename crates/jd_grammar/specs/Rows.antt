-- Rows of atoms in brackets: what an atom is, which expressions are written as atoms that blanks separate, and how many
-- atoms there are.
use Rattle.std.specs.Prelude.{ℕ, ◌+◌, Bool, true, false, ◌&&◌, Option, Some, None, nat_le, nat_eq, if◌then◌else◌}
use Rattle.jd_grammar.specs.declared.token.Token.{Token}
use Rattle.jd_grammar.specs.Kinds.{is_number, is_name, is_least, is_minus}
use Rattle.jd_grammar.specs.Trees.{Syntax, leaf, sign, ending, bracket, unary, binary, keyword, grouped, called, Cells, no_cells, cell, row, none, just}

-- ---- atoms

-- a number with or without a `-` directly before it, a name, or one expression in parentheses
abbrev pub is_tight : Token → Bool
is_tight t = if t.spaced then false else (if is_number t.kind then true else is_least t.kind t.spaced)

abbrev pub is_atom : Syntax → Bool
is_atom (leaf t) = if is_number t.kind then true else is_name t.kind
is_atom (ending (unary t) (leaf n)) = is_minus t.kind && is_tight n
is_atom (bracket grouped o none (just e) c) = true
is_atom _ = false

-- whether a blank stands before it
abbrev pub is_spaced : Syntax → Bool
is_spaced (leaf t) = t.spaced
is_spaced (ending (unary t) e) = t.spaced
is_spaced (bracket grouped o es last c) = o.spaced
is_spaced _ = false

-- ---- expressions that are written as atoms

-- whether its first token is a number with no blank before it
abbrev pub begins_tight : Syntax → Bool
begins_tight (leaf t) = is_tight t
begins_tight (bracket (called f) o es last c) = begins_tight f
begins_tight _ = false

-- an expression, and no argument of another form
abbrev pub is_plain : Syntax → Bool
is_plain (sign t) = false
is_plain (ending (keyword n t) e) = false
is_plain _ = true

-- written as atoms which blanks separate, as `f (x) -5` is
abbrev pub is_chain : Syntax → Bool
is_chain (leaf t) = if is_number t.kind then true else (if is_name t.kind then true else is_least t.kind t.spaced)
is_chain (ending (unary t) e) = is_minus t.kind && (begins_tight e && is_chain e)
is_chain (ending (binary l t) e) = (is_minus t.kind && t.spaced) && ((begins_tight e && is_chain e) && is_chain l)
is_chain (bracket grouped o none (just e) c) = true
is_chain (bracket (called f) o none (just e) c) = (o.spaced && is_plain e) && is_chain f
is_chain _ = false

-- of two atoms or more
abbrev pub is_long : Syntax → Bool
is_long (ending (unary t) e) = is_long e
is_long (ending (binary l t) e) = true
is_long (bracket (called f) o es last c) = true
is_long _ = false

-- the one row of a matrix
abbrev pub is_row : Syntax → Bool
is_row e = is_chain e && is_long e

-- a cell behind the others, or behind a `;`
abbrev pub with_cell : Cells → Option Token → Syntax → Cells
with_cell no_cells None e = cell e no_cells
with_cell no_cells (Some t) e = row t e no_cells
with_cell (cell a cells) q e = cell a (with_cell cells q e)
with_cell (row t a cells) q e = row t a (with_cell cells q e)

abbrev pub joined : Cells → Cells → Cells
joined no_cells more = more
joined (cell a cells) more = cell a (joined cells more)
joined (row t a cells) more = row t a (joined cells more)

-- the first atom that such an expression is written as, and the others
abbrev pub first_of : Syntax → Syntax
first_of (ending (unary t) e) = ending (unary t) (first_of e)
first_of (ending (binary l t) e) = first_of l
first_of (bracket (called f) o es last c) = first_of f
first_of e = e

abbrev pub cells_of : Syntax → Cells
cells_of (ending (unary t) e) = cells_of e
cells_of (ending (binary l t) e) = joined (with_cell (cells_of l) None (ending (unary t) (first_of e))) (cells_of e)
cells_of (bracket (called f) o es last c) = with_cell (cells_of f) None (bracket grouped o es last c)
cells_of e = no_cells

-- ---- how many there are

abbrev pub are_many : Cells → Bool
are_many no_cells = false
are_many _ = true

-- the most atoms of a matrix
abbrev pub most_atoms : ℕ
most_atoms = 262144

-- the atoms of the cells
abbrev pub count_cells : Cells → ℕ
count_cells no_cells = 0
count_cells (cell a cells) = count_cells cells + 1
count_cells (row t a cells) = count_cells cells + 1

-- the atoms of the first row, and of the last one, where n stand before
abbrev pub first_width : ℕ → Cells → ℕ
first_width n no_cells = n
first_width n (cell a cells) = first_width (n + 1) cells
first_width n (row t a cells) = n

abbrev pub last_width : ℕ → Cells → ℕ
last_width n no_cells = n
last_width n (cell a cells) = last_width (n + 1) cells
last_width n (row t a cells) = last_width 1 cells

-- whether each row but the last has w atoms
abbrev pub are_even : ℕ → ℕ → Cells → Bool
are_even w n no_cells = true
are_even w n (cell a cells) = are_even w (n + 1) cells
are_even w n (row t a cells) = nat_eq n w && are_even w 1 cells

-- whether the rows behind a first atom are of one width, and not too many
abbrev pub is_full : Cells → Bool
is_full cells = are_even (first_width 1 cells) 1 cells && (nat_eq (last_width 1 cells) (first_width 1 cells) && nat_le (count_cells cells + 1) most_atoms)

-- whether rows may be so far: the last one is no longer than the first, and there is room to fill it
abbrev pub are_begun : Cells → Bool
are_begun cells = nat_le (last_width 1 cells) (first_width 1 cells) && nat_le (count_cells cells + 1 + first_width 1 cells) (most_atoms + last_width 1 cells)

-- whether a further row may begin: the last one is as long as the first, and there is room for one more
abbrev pub may_go_on : Cells → Bool
may_go_on cells = nat_eq (last_width 1 cells) (first_width 1 cells) && nat_le (count_cells cells + 1 + first_width 1 cells) most_atoms

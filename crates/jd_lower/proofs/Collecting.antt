-- What loops collect, one expression after the other.
use Rattle.std.proofs.Common.{◌≡◌, ℕ, ◌+◌, ◌<◌, Bool, true, false, List, [], ◌∷◌, ◌++◌, map, drop, get_or, length, Option, Some, None, Err, option_map, unwrap_or, if◌then◌else◌, refl, sym, ap, ◌∙◌, append_assoc, append-nil, add-one}
use Rattle.std.proofs.Math.Seq.{drop-cons}
use Rattle.std.proofs.lemmas.Option.{none-some}
use Rattle.jd_value.specs.declared.expr.Expr.{Expr}
use Rattle.jd_value.specs.declared.expr.Expr.TheVariants as e
use Rattle.jd_value.specs.declared.builtin.Builtin.TheVariants as b
use Rattle.jd_grammar.specs.declared.token.Token.{Token}
use Rattle.jd_grammar.specs.Kinds.{is_comma}
use Rattle.jd_grammar.specs.Trees.{Syntax, Cells}
use Rattle.jd_tree.specs.declared.tree.Cell.{Cell, out-Cell}
use Rattle.jd_tree.specs.declared.tree.Item.{Item, out-Item}
use Rattle.jd_tree.specs.Plain.{plain, plain_cell, plain_item, items_of, one_cell, cells_at}
use Rattle.jd_lower.specs.declared.fault.LowerFault.{LowerFault}
use Rattle.jd_lower.specs.declared.fault.LowerFault.TheVariants.{NotBuilt, OutOfMemory}
use Rattle.jd_lower.specs.declared.scope.Scope.{Scope}
use Rattle.jd_lower.specs.declared.rows.Rows.{Rows}
use Rattle.jd_lower.specs.Steps.{Lowers}
use Rattle.jd_lower.specs.Expressions.{cons, behind, in_row, in_next_row, grid, expression_of, expressions_of, atoms_of, rows_of}
use Rattle.jd_lower.specs.Rows.{with_atom}
use Rattle.jd_lower.proofs.Trees.{item_plain, cell_plain}

behind_one : (xs : List Expr) (x : Expr) (ys : Option (List Expr)) → behind xs (cons (Some x) ys) ≡ behind (xs ++ x ∷ []) ys
behind_one xs x None = refl
behind_one xs x (Some ys) = ap (λ zs. Some zs) (sym (append_assoc xs (x ∷ []) ys))

pub behind_first : (x : Expr) (ys : Option (List Expr)) → cons (Some x) ys ≡ behind (x ∷ []) ys
behind_first x None = refl
behind_first x (Some ys) = refl

-- one more, and what follows
one_more : (xs next : List Expr) (o : Option Expr) (ys : Option (List Expr)) → behind xs (cons o (Some [])) ≡ Some next → behind xs (cons o ys) ≡ behind next ys
one_more xs next None ys h = absurd (none-some next h)
one_more xs next (Some x) ys h = behind_one xs x ys ∙ ap (λ zs. behind zs ys) (ap (λ o. unwrap_or o next) h)

none_more : (xs : List Expr) (o : Option Expr) (ys : Option (List Expr)) → behind xs (cons o (Some [])) ≡ None → behind xs (cons o ys) ≡ None
none_more xs None ys h = refl
none_more xs (Some x) ys h = absurd (none-some (xs ++ x ∷ []) (sym h))

-- ---- items

comma_first : (b : Bool) (o : Option (List Expr)) → b ≡ true → (if b then o else None) ≡ o
comma_first true o h = refl
comma_first false o h = ap (λ (c : Bool). if c then o else None) h

item_step : (scope : Scope) (all : List Item) (i : ℕ) (it : Item) → i < length all → it ≡ get_or all i it → is_comma (out-Item it).separator.kind ≡ true
    → expressions_of scope (items_of (map plain_item (drop i all))) ≡ cons (expression_of scope (plain (out-Item it).expr)) (expressions_of scope (items_of (map plain_item (drop (i + 1) all))))
item_step scope all i it le e comma =
    let front : drop i all ≡ it ∷ drop (i + 1) all = rw (add-one, drop-cons all i it) (rw (← e) refl) in
    let rest : Option (List Expr) = expressions_of scope (items_of (map plain_item (drop (i + 1) all))) in
    ap (λ es. expressions_of scope (items_of (map plain_item es))) front
    ∙ ap (λ (p : Syntax × Token). if is_comma p.1.kind then cons (expression_of scope p.0) rest else None) (item_plain it)
    ∙ comma_first (is_comma (out-Item it).separator.kind) (cons (expression_of scope (plain (out-Item it).expr)) rest) comma

-- an item that is lowered, or not
module _ (scope : Scope) (xs : List Expr) (all : List Item) (i : ℕ) (it : Item) (le : i < length all) (e : it ≡ get_or all i it) (comma : is_comma (out-Item it).separator.kind ≡ true) where
  pub item_lowers : (next : List Expr) → behind xs (cons (expression_of scope (plain (out-Item it).expr)) (Some [])) ≡ Some next
      → behind xs (expressions_of scope (items_of (map plain_item (drop i all)))) ≡ behind next (expressions_of scope (items_of (map plain_item (drop (i + 1) all))))
  item_lowers next h = ap (behind xs) (item_step scope all i it le e comma) ∙ one_more xs next (expression_of scope (plain (out-Item it).expr)) (expressions_of scope (items_of (map plain_item (drop (i + 1) all)))) h

  pub item_fails : (f : LowerFault) → Lowers (behind xs (cons (expression_of scope (plain (out-Item it).expr)) (Some []))) (Err f)
      → Lowers (behind xs (expressions_of scope (items_of (map plain_item (drop i all))))) (Err f)
  item_fails OutOfMemory h = tt
  item_fails NotBuilt h = ap (behind xs) (item_step scope all i it le e comma) ∙ none_more xs (expression_of scope (plain (out-Item it).expr)) (expressions_of scope (items_of (map plain_item (drop (i + 1) all)))) h

comma_none : (b : Bool) (o : Option (List Expr)) → b ≡ false → (if b then o else None) ≡ None
comma_none b o h = ap (λ (c : Bool). if c then o else None) h

pub behind_nothing : (ys : Option (List Expr)) → ys ≡ behind [] ys
behind_nothing None = refl
behind_nothing (Some ys) = refl

-- an item with another separator behind it
pub item_refused : (scope : Scope) (xs : List Expr) (all : List Item) (i : ℕ) (it : Item) → i < length all → it ≡ get_or all i it → is_comma (out-Item it).separator.kind ≡ false
    → behind xs (expressions_of scope (items_of (map plain_item (drop i all)))) ≡ None
item_refused scope xs all i it le e comma =
    let front : drop i all ≡ it ∷ drop (i + 1) all = rw (add-one, drop-cons all i it) (rw (← e) refl) in
    let rest : Option (List Expr) = expressions_of scope (items_of (map plain_item (drop (i + 1) all))) in
    ap (λ es. behind xs (expressions_of scope (items_of (map plain_item es)))) front
    ∙ ap (λ (p : Syntax × Token). behind xs (if is_comma p.1.kind then cons (expression_of scope p.0) rest else None)) (item_plain it)
    ∙ ap (behind xs) (comma_none (is_comma (out-Item it).separator.kind) (cons (expression_of scope (plain (out-Item it).expr)) rest) comma)

-- ---- atoms

-- an atom, whether it begins a row or not
atoms_one : (scope : Scope) (t : Option Token) (a : Syntax) (rest : Cells) → atoms_of scope (one_cell t a rest) ≡ cons (expression_of scope a) (atoms_of scope rest)
atoms_one scope None a rest = refl
atoms_one scope (Some t) a rest = refl

atoms_step : (scope : Scope) (all : List Cell) (i : ℕ) (k : Cell) → i < length all → k ≡ get_or all i k
    → atoms_of scope (cells_at (map plain_cell (drop i all))) ≡ cons (expression_of scope (plain (out-Cell k).atom)) (atoms_of scope (cells_at (map plain_cell (drop (i + 1) all))))
atoms_step scope all i k le e =
    let front : drop i all ≡ k ∷ drop (i + 1) all = rw (add-one, drop-cons all i k) (rw (← e) refl) in
    let rest : Cells = cells_at (map plain_cell (drop (i + 1) all)) in
    ap (λ cs. atoms_of scope (cells_at (map plain_cell cs))) front
    ∙ ap (λ (p : Option Token × Syntax). atoms_of scope (one_cell p.0 p.1 rest)) (cell_plain k)
    ∙ atoms_one scope (out-Cell k).semicolon (plain (out-Cell k).atom) rest

-- an atom that is lowered, or not
module _ (scope : Scope) (xs : List Expr) (all : List Cell) (i : ℕ) (k : Cell) (le : i < length all) (e : k ≡ get_or all i k) where
  pub atom_lowers : (next : List Expr) → behind xs (cons (expression_of scope (plain (out-Cell k).atom)) (Some [])) ≡ Some next
      → behind xs (atoms_of scope (cells_at (map plain_cell (drop i all)))) ≡ behind next (atoms_of scope (cells_at (map plain_cell (drop (i + 1) all))))
  atom_lowers next h = ap (behind xs) (atoms_step scope all i k le e) ∙ one_more xs next (expression_of scope (plain (out-Cell k).atom)) (atoms_of scope (cells_at (map plain_cell (drop (i + 1) all)))) h

  pub atom_fails : (f : LowerFault) → Lowers (behind xs (cons (expression_of scope (plain (out-Cell k).atom)) (Some []))) (Err f)
      → Lowers (behind xs (atoms_of scope (cells_at (map plain_cell (drop i all))))) (Err f)
  atom_fails OutOfMemory h = tt
  atom_fails NotBuilt h = ap (behind xs) (atoms_step scope all i k le e) ∙ none_more xs (expression_of scope (plain (out-Cell k).atom)) (atoms_of scope (cells_at (map plain_cell (drop (i + 1) all)))) h

-- ---- rows

grid_atom : (rows begun : List Expr) (x : Expr) (p : Option (List Expr × List Expr)) → grid rows begun (in_row (Some x) p) ≡ grid rows (begun ++ x ∷ []) p
grid_atom rows begun x None = refl
grid_atom rows begun x (Some p) = ap (λ xs. Some (e.Apply b.Grid (rows ++ e.Apply b.Tuple xs ∷ p.1))) (sym (append_assoc begun (x ∷ []) p.0))

grid_row : (rows begun : List Expr) (x : Expr) (p : Option (List Expr × List Expr)) →
    grid rows begun (in_next_row (Some x) p) ≡ grid (rows ++ e.Apply b.Tuple begun ∷ []) (x ∷ []) p
grid_row rows begun x None = refl
grid_row rows begun x (Some p) =
    ap (λ xs. Some (e.Apply b.Grid (rows ++ e.Apply b.Tuple xs ∷ e.Apply b.Tuple (x ∷ p.0) ∷ p.1))) (append-nil begun)
    ∙ ap (λ xs. Some (e.Apply b.Grid xs)) (sym (append_assoc rows (e.Apply b.Tuple begun ∷ []) (e.Apply b.Tuple (x ∷ p.0) ∷ p.1)))

-- rows with one more atom
abbrev grid_of : Rows → Option (List Expr × List Expr) → Option Expr
grid_of r p = grid r.rows r.begun p

grid_one : (scope : Scope) (r next : Rows) (t : Option Token) (a : Syntax) (o : Option Expr) (rest : Cells) → expression_of scope a ≡ o → option_map (λ x. with_atom r t x) o ≡ Some next →
    grid_of r (rows_of scope (one_cell t a rest)) ≡ grid_of next (rows_of scope rest)
grid_one scope r next t a None rest h l = absurd (none-some next l)
grid_one scope r next None a (Some x) rest h l =
    ap (λ o. grid_of r (in_row o (rows_of scope rest))) h ∙ grid_atom r.rows r.begun x (rows_of scope rest)
    ∙ ap (λ m. grid_of m (rows_of scope rest)) (ap (λ o. unwrap_or o next) l)
grid_one scope r next (Some t) a (Some x) rest h l =
    ap (λ o. grid_of r (in_next_row o (rows_of scope rest))) h ∙ grid_row r.rows r.begun x (rows_of scope rest)
    ∙ ap (λ m. grid_of m (rows_of scope rest)) (ap (λ o. unwrap_or o next) l)

grid_none : (scope : Scope) (r : Rows) (t : Option Token) (a : Syntax) (o : Option Expr) (rest : Cells) → expression_of scope a ≡ o → option_map (λ x. with_atom r t x) o ≡ None →
    grid_of r (rows_of scope (one_cell t a rest)) ≡ None
grid_none scope r None a None rest h l = ap (λ o. grid_of r (in_row o (rows_of scope rest))) h
grid_none scope r (Some t) a None rest h l = ap (λ o. grid_of r (in_next_row o (rows_of scope rest))) h
grid_none scope r t a (Some x) rest h l = absurd (none-some (with_atom r t x) (sym l))

-- a cell that is lowered, or not
module _ (scope : Scope) (r : Rows) (all : List Cell) (i : ℕ) (k : Cell) (le : i < length all) (e : k ≡ get_or all i k) where
  abbrev lowered_cell : Option Rows
  lowered_cell = option_map (λ x. with_atom r (plain_cell k).0 x) (expression_of scope (plain_cell k).1)

  abbrev rest : Cells
  rest = cells_at (map plain_cell (drop (i + 1) all))

  front : cells_at (map plain_cell (drop i all)) ≡ one_cell (plain_cell k).0 (plain_cell k).1 rest
  front =
      let first : drop i all ≡ k ∷ drop (i + 1) all = rw (add-one, drop-cons all i k) (rw (← e) refl) in
      ap (λ cs. cells_at (map plain_cell cs)) first

  pub cell_lowers : (next : Rows) → lowered_cell ≡ Some next → grid_of r (rows_of scope (cells_at (map plain_cell (drop i all)))) ≡ grid_of next (rows_of scope rest)
  cell_lowers next h = ap (λ cs. grid_of r (rows_of scope cs)) front ∙ grid_one scope r next (plain_cell k).0 (plain_cell k).1 (expression_of scope (plain_cell k).1) rest refl h

  pub cell_fails : (f : LowerFault) → Lowers lowered_cell (Err f) → Lowers (grid_of r (rows_of scope (cells_at (map plain_cell (drop i all))))) (Err f)
  cell_fails OutOfMemory h = tt
  cell_fails NotBuilt h = ap (λ cs. grid_of r (rows_of scope cs)) front ∙ grid_none scope r (plain_cell k).0 (plain_cell k).1 (expression_of scope (plain_cell k).1) rest refl h

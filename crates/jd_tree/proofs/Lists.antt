-- The lists of a tree, and one part more at their end.
use Rattle.std.proofs.Common.{ℕ, suc, ◌≡◌, ◌≤◌, ◌<◌, ◌+◌, min, max, length, true, false, not, nat_eq, nat_le, List, [], ◌∷◌, ◌++◌, map, Option, Some, None, refl, ap, ◌∙◌, arith}
use Rattle.std.proofs.lemmas.Bool.Decides.{nat_tests}
use Rattle.jd_grammar.specs.declared.token.Token.{Token}
use Rattle.jd_grammar.specs.Trees.{Syntax, Items, none, more, grouped, called, itemed, nothing, just, cell, row, generator}
use Rattle.jd_grammar.specs.Rows.{with_cell}
use Rattle.jd_grammar.specs.Grammar.{is_row, is_shape, count}
use Rattle.jd_grammar.specs.Machine.{with_item, with_generator}
use Rattle.jd_grammar.specs.Depth.{height, height_items, height_cells, height_generators}
use Rattle.jd_grammar.proofs.Under.{height_with_cell, height_with_generator}
use Rattle.jd_tree.specs.declared.tree.Expr.{Expr}
use Rattle.jd_tree.specs.declared.tree.Item.{Item, roll-Item}
use Rattle.jd_tree.specs.declared.tree.Cell.{Cell, roll-Cell}
use Rattle.jd_tree.specs.declared.tree.Generator.{Generator, roll-Generator}
use Rattle.jd_tree.specs.Measures.{is_one}
use Rattle.jd_tree.specs.Plain.{Clause, plain, plain_item, plain_cell, plain_generator, items_of, cells_at, one_cell, generators_of}
use Rattle.std.proofs.lemmas.List.{length-append}
use Rattle.jd_grammar.specs.Rows.{count_cells}
use Rattle.jd_tree.proofs.Widths.{count_length}
use Rattle.jd_tree.proofs.Levels.{plain_one_item, plain_one_cell, plain_one_generator}

-- ---- items

items_more : (es : List (Syntax × Token)) (x : Syntax × Token) → items_of (es ++ (x ∷ [])) ≡ with_item (items_of es) x.0 x.1
items_more [] x = refl
items_more (e ∷ es) x = ap (more e.0 e.1) (items_more es x)

map_more : {A B : Type 0} (f : A → B) (xs : List A) (x : A) → map f (xs ++ (x ∷ [])) ≡ map f xs ++ (f x ∷ [])
map_more f [] x = refl
map_more f (y ∷ ys) x = ap (λ rest. f y ∷ rest) (map_more f ys x)

pub item_end : (es : List Item) (e : Expr) (t : Token) → items_of (map plain_item (es ++ (roll-Item (record { expr = e; separator = t }) ∷ []))) ≡ with_item (items_of (map plain_item es)) (plain e) t
item_end es e t = ap items_of (map_more plain_item es (roll-Item (record { expr = e; separator = t })))
    ∙ items_more (map plain_item es) (plain_item (roll-Item (record { expr = e; separator = t })))
    ∙ ap (λ (x : Syntax × Token). with_item (items_of (map plain_item es)) x.0 x.1) (plain_one_item e t)

pub height_with_item : (es : Items) (e : Syntax) (t : Token) → height_items (with_item es e t) ≡ max (height_items es) (height e)
height_with_item none e t = omega arith
height_with_item (more x c es) e t = omega (arith, height_with_item es e t)

pub item_height : (es : List Item) (e : Expr) (t : Token) (m n k : ℕ) → m ≡ min (height_items (items_of (map plain_item es))) 255 → n ≡ min (height (plain e)) 255 → k ≡ max m n
    → k ≡ min (height_items (items_of (map plain_item (es ++ (roll-Item (record { expr = e; separator = t }) ∷ []))))) 255
item_height es e t m n k hm hn hk = let a = ap height_items (item_end es e t) ∙ height_with_item (items_of (map plain_item es)) (plain e) t in omega (arith, a)

-- ---- which places may be left out

pub shape_grouped : (es : List (Syntax × Token)) (n : ℕ) → n ≡ length es → nat_le n 1 ≡ is_shape grouped (items_of es) nothing
shape_grouped [] n h = ap (λ x. nat_le x 1) h
shape_grouped (e ∷ []) n h = ap (λ x. nat_le x 1) h
shape_grouped (e ∷ (d ∷ es)) n h = let k : n ≡ suc (suc (length es)) = h in grind (arith, nat_tests)

pub shape_called : (f : Syntax) (es : List (Syntax × Token)) (n : ℕ) → n ≡ length es → nat_eq n 0 ≡ is_shape (called f) (items_of es) nothing
shape_called f [] n h = ap (λ x. nat_eq x 0) h
shape_called f (e ∷ es) n h = let k : n ≡ suc (length es) = h in grind (arith, nat_tests)

pub shape_itemed : (es : List (Syntax × Token)) (n : ℕ) → n ≡ length es → nat_eq n 0 ≡ is_shape itemed (items_of es) nothing
shape_itemed [] n h = ap (λ x. nat_eq x 0) h
shape_itemed (e ∷ es) n h = let k : n ≡ suc (length es) = h in grind (arith, nat_tests)

pub shape_many : (es : List (Syntax × Token)) (e : Syntax) → 0 < length es → true ≡ is_shape itemed (items_of es) (just e)
shape_many [] e h = absurd (omega arith)
shape_many (x ∷ es) e h = refl

pub shape_one : (es : List (Syntax × Token)) (e : Syntax) → length es ≤ 0 → not (is_row e) ≡ is_shape itemed (items_of es) (just e)
shape_one [] e h = refl
shape_one (x ∷ es) e h = absurd (omega arith)

pub length_items : (es : List Item) → length (map plain_item es) ≡ length es
length_items [] = refl
length_items (e ∷ es) = ap suc (length_items es)

pub not_one : (es : List Item) (e : Syntax) → (es ≡ [] → ⊥) → is_one (items_of (map plain_item es)) (just e) ≡ false
not_one [] e h = absurd (h refl)
not_one (x ∷ es) e h = refl

-- ---- generators

generators_more : (gs : List Clause) (g : Clause) → generators_of (gs ++ (g ∷ [])) ≡ with_generator (generators_of gs) g.begins g.name g.within g.collection
generators_more [] g = refl
generators_more (x ∷ gs) g = ap (generator x.begins x.name x.within x.collection) (generators_more gs g)

pub generator_end : (gs : List Generator) (t n i : Token) (e : Expr) →
    generators_of (map plain_generator (gs ++ (roll-Generator (record { begins = t; name = n; within = i; collection = e }) ∷ []))) ≡ with_generator (generators_of (map plain_generator gs)) t n i (plain e)
generator_end gs t n i e = ap generators_of (map_more plain_generator gs (roll-Generator (record { begins = t; name = n; within = i; collection = e })))
    ∙ generators_more (map plain_generator gs) (plain_generator (roll-Generator (record { begins = t; name = n; within = i; collection = e })))
    ∙ ap (λ (x : Clause). with_generator (generators_of (map plain_generator gs)) x.begins x.name x.within x.collection) (plain_one_generator t n i e)

pub generator_height : (gs : List Generator) (t n i : Token) (e : Expr) (a b k : ℕ) → a ≡ min (height_generators (generators_of (map plain_generator gs))) 255 → b ≡ min (height (plain e)) 255 → k ≡ max a b
    → k ≡ min (height_generators (generators_of (map plain_generator (gs ++ (roll-Generator (record { begins = t; name = n; within = i; collection = e }) ∷ []))))) 255
generator_height gs t n i e a b k ha hb hk =
    let x = ap height_generators (generator_end gs t n i e) ∙ height_with_generator (generators_of (map plain_generator gs)) t n i (plain e) in omega (arith, x)

pub count_generators : (gs : List Generator) → length gs ≡ count (generators_of (map plain_generator gs))
count_generators [] = refl
count_generators (g ∷ gs) = omega (arith, count_generators gs)

-- ---- cells

cells_more : (cs : List (Option Token × Syntax)) (q : Option Token) (a : Syntax) → cells_at (cs ++ ((q, a) ∷ [])) ≡ with_cell (cells_at cs) q a
cells_more [] None a = refl
cells_more [] (Some t) a = refl
cells_more (c ∷ cs) q a = more_at c.0 c.1 (cells_more cs q a)
  where
    more_at : (r : Option Token) (b : Syntax) → cells_at (cs ++ ((q, a) ∷ [])) ≡ with_cell (cells_at cs) q a → one_cell r b (cells_at (cs ++ ((q, a) ∷ []))) ≡ with_cell (one_cell r b (cells_at cs)) q a
    more_at None b h = ap (cell b) h
    more_at (Some t) b h = ap (row t b) h

pub cell_end : (cs : List Cell) (q : Option Token) (e : Expr) → cells_at (map plain_cell (cs ++ (roll-Cell (record { semicolon = q; atom = e }) ∷ []))) ≡ with_cell (cells_at (map plain_cell cs)) q (plain e)
cell_end cs q e = ap cells_at (map_more plain_cell cs (roll-Cell (record { semicolon = q; atom = e })))
    ∙ ap (λ (x : Option Token × Syntax). cells_at (map plain_cell cs ++ (x ∷ []))) (plain_one_cell q e)
    ∙ cells_more (map plain_cell cs) q (plain e)

pub cells_are : (cs : List Cell) (q : Option Token) (e : Expr) (all : List Cell) → all ≡ cs ++ (roll-Cell (record { semicolon = q; atom = e }) ∷ []) →
    cells_at (map plain_cell all) ≡ with_cell (cells_at (map plain_cell cs)) q (plain e)
cells_are cs q e all h = ap (λ xs. cells_at (map plain_cell xs)) h ∙ cell_end cs q e

pub atoms_height : (x : Syntax) (cs : List Cell) (q : Option Token) (e : Expr) (all : List Cell) (m n k : ℕ) → all ≡ cs ++ (roll-Cell (record { semicolon = q; atom = e }) ∷ []) →
    m ≡ min (max (height x) (height_cells (cells_at (map plain_cell cs)))) 255 → n ≡ min (height (plain e)) 255 → k ≡ max m n → k ≡ min (max (height x) (height_cells (cells_at (map plain_cell all)))) 255
atoms_height x cs q e all m n k h hm hn hk =
    let a = ap height_cells (cells_are cs q e all h) ∙ height_with_cell (cells_at (map plain_cell cs)) q (plain e) in omega (arith, a)

pub counted : (cs : List Cell) (c : Cell) (all : List Cell) (n : ℕ) → all ≡ cs ++ (c ∷ []) → n ≡ length all → n ≡ count_cells (cells_at (map plain_cell cs)) + 1
counted cs c all n h e = let a = ap length h ∙ length-append cs (c ∷ []) in omega (arith, a, count_length cs)

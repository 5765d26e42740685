-- The cells of rows, column by column.
use Rattle.std.proofs.Common.{◌≡◌, ℕ, zero, suc, ◌+◌, ◌*◌, ◌<◌, ◌≤◌, ℤ, List, [], ◌∷◌, ◌++◌, map, flat_map, length, ap, sym, ◌∙◌, arith}
use Rattle.std.specs.List.{range_with_len}
use Rattle.std.proofs.lemmas.Grind.{flat_map-append}
use Rattle.std.proofs.lemmas.List.{append-nil, length-map}
use Rattle.std.proofs.lemmas.List.Elements.{All-nil, All-cons}
use Rattle.std.proofs.lemmas.List.FromFn.{length-range_with_len}
use Rattle.jd_value.specs.Array.{Shaped, IsDims, product}
use Rattle.jd_value.specs.declared.fault.Fault.TheVariants.{Argument}
use Rattle.jd_value.specs.declared.value.Value.{Value, out-Value, out-roll-Value}
use Rattle.jd_value.specs.declared.value.Value.TheOpen as f
use Rattle.jd_value.specs.declared.value.Value.TheVariants as v
use Rattle.jd_array.proofs.Picked.{length_flat}
use Rattle.jd_expr.specs.Action.{Failed}
use Rattle.jd_expr.specs.Grids.{cells_of, column, cell_in}
use Rattle.jd_expr.specs.Limits.{made, max_elements, element_count_at}
use Rattle.jd_expr.proofs.Limited.{too_many_in}

range_more : (a n j : ℕ) → a + n ≡ j → range_with_len a (suc n) ≡ range_with_len a n ++ j ∷ []
range_more a zero j is = let here : a ≡ j = omega (arith, is) in ap (λ (k : ℕ). k ∷ []) here
range_more a (suc n) j is = ap (λ (ks : List ℕ). a ∷ ks) (range_more (a + 1) n j (omega (arith, is)))

-- one column more
pub column_more : (rows : List Value) (n : ℕ) → cells_of rows (n + 1) ≡ cells_of rows n ++ column rows n
unfolding cells_of
column_more rows n =
    let next : n + 1 ≡ suc n = omega arith in
    ap (λ (m : ℕ). flat_map (column rows) (range_with_len 0 m)) next
    ∙ ap (λ (ks : List ℕ). flat_map (column rows) ks) (range_more 0 n n (omega arith))
    ∙ flat_map-append (column rows) (range_with_len 0 n) (n ∷ [])
    ∙ ap (λ (xs : List ℤ). flat_map (column rows) (range_with_len 0 n) ++ xs) (append-nil (column rows n))

pub length_cells : (rows : List Value) (width : ℕ) → length (cells_of rows width) ≡ length rows * width
unfolding cells_of column
length_cells rows width =
    length_flat (λ place. map (cell_in place) rows) (range_with_len 0 width) (length rows) (λ place. length-map rows (cell_in place))
    ∙ ap (λ (n : ℕ). length rows * n) (length-range_with_len 0 width)

pub too_many_cells : (rows : List Value) (width n : ℕ) → max_elements < length rows * width
    → made (v.Grid (record { dims = length rows ∷ width ∷ []; cells = cells_of rows width })) n ≡ Failed Argument n
too_many_cells rows width n more =
    let grid : Shaped = record { dims = length rows ∷ width ∷ []; cells = cells_of rows width } in
    let out : out-Value (v.Grid grid) ≡ f.Grid grid = ap out-Value (sym (v.rolls-Grid grid)) ∙ out-roll-Value (f.Grid grid) in
    too_many_in (v.Grid grid) (length rows * width) n (ap element_count_at out ∙ length_cells rows width) more

le_product : (a b : ℕ) → 1 ≤ b → a ≤ a * b
le_product a zero some = absurd (omega arith)
le_product a (suc b) some = omega arith

le_product_of : (a b : ℕ) → 1 ≤ a → b ≤ a * b
le_product_of zero b some = absurd (omega arith)
le_product_of (suc a) b some = omega arith

pub grid_dims : (rows width : ℕ) → 1 ≤ rows → 1 ≤ width → rows * width ≤ 262144 → IsDims (rows ∷ width ∷ [])
grid_dims rows width some wide few = record {
  some = omega arith;
  few = omega arith;
  short = All-cons (λ (size : ℕ). size ≤ 262144) rows (width ∷ []) (omega (arith, few, le_product rows width wide))
      (All-cons (λ (size : ℕ). size ≤ 262144) width [] (omega (arith, few, le_product_of rows width some)) (All-nil (λ (size : ℕ). size ≤ 262144)));
}

pub product_cells : (rows : List Value) (width : ℕ) → product (length rows ∷ width ∷ []) ≡ length (cells_of rows width)
product_cells rows width = let one : width * 1 ≡ width = omega arith in ap (λ (n : ℕ). length rows * n) one ∙ sym (length_cells rows width)

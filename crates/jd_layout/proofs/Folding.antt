-- The folds of the parts give the fold of the whole.
use Rattle.std.proofs.Common.{ℕ, ◌+◌, ◌*◌, ◌/◌, ◌%◌, ◌<◌, ◌≤◌, ◌≡◌, ℤ, pos, List, [], ◌∷◌, length, get_or, map, All, Option, Some, None, refl, sym, ap, ◌∙◌, arith}
use Rattle.std.specs.List.{flat_map, filter_map, range_with_len}
use Rattle.std.proofs.lemmas.Int.{ints}
use Rattle.std.proofs.lemmas.List.Elements.{All-head, All-tail}
use Rattle.std.proofs.lemmas.List.Folds.{flat_map-map}
use Rattle.std.proofs.lemmas.List.FromFn.{length-range_with_len, get_or-range_with_len}
use Rattle.std.proofs.lemmas.Nat.{div-mul-add, mod-mul-add}
use Rattle.std.proofs.lemmas.Simd.{map-map}
use Rattle.jd_value.specs.Span.{Ends, span_items}
use Rattle.jd_value.specs.Array.{Shaped, cell_at, offset, place_of, product}
use Rattle.jd_array.specs.declared.slices.Pick.TheVariants.{Many}
use Rattle.jd_array.specs.declared.fold.Reducer.{Reducer}
use Rattle.jd_array.specs.Cut.{piece_length, piece_start}
use Rattle.jd_array.specs.Fold.{combined, identity_of, reduced, folded, IsCommutative}
use Rattle.jd_array.specs.Slice.{picked_indexes}
use Rattle.jd_array.proofs.Cuts.{whole_is}
use Rattle.jd_array.proofs.Picked.{map_flat, flat_same}
use Rattle.jd_array.proofs.Reducers.{commutes}
use Rattle.jd_layout.specs.Blocks.{part_ranges, piece_range}
use Rattle.jd_layout.specs.Partition.{part_cells, folds_of_parts}
use Rattle.jd_layout.proofs.Big.{big, join_none, big_flat, big_map, big_same, big_alike, big_swapped, reduced_big, filtered_big}
use Rattle.jd_layout.proofs.Runs.{rows_join, pieces_join, piece_items, whole_range, whole_items, moved, shifted, cells_whole}

-- the indexes in ranges, and the ranges of the whole array
abbrev indexes_in : List Ends → List (List ℤ)
indexes_in ranges = picked_indexes (map Many ranges)

abbrev whole_ranges : List ℕ → List Ends
whole_ranges dims = map whole_range dims

-- the fold over a range and the ranges behind it, the range innermost
big_range : (f : ℤ → ℤ → ℤ) → IsCommutative f → (g : List ℤ → Option ℤ) (range : Ends) (ranges : List Ends) →
    big f g (indexes_in (range ∷ ranges)) ≡ big f (λ index. big f (λ i. g (i ∷ index)) (span_items range)) (indexes_in ranges)
big_range f c g range ranges =
    big_flat f c g (λ index. map (λ i. i ∷ index) (span_items range)) (indexes_in ranges)
    ∙ big_alike f (λ index. big f g (map (λ i. i ∷ index) (span_items range))) (λ index. big f (λ i. g (i ∷ index)) (span_items range)) (indexes_in ranges)
    (λ index. big_map f g (λ i. i ∷ index) (span_items range))

-- the pieces of a dimension give the whole of it
big_pieces : (f : ℤ → ℤ → ℤ) → IsCommutative f → (h : ℤ → Option ℤ) (size pieces : ℕ) → 0 < pieces →
    big f (λ j. big f h (span_items (piece_range size pieces j))) (range_with_len 0 pieces) ≡ big f h (span_items (whole_range size))
big_pieces f c h size pieces some =
    let at : ℕ → Option ℤ = λ m. h (pos (m + 1)) in
    let row : ℕ → List ℕ = λ j. range_with_len (piece_start size pieces j) (piece_length size pieces j) in
    big_alike f (λ j. big f h (span_items (piece_range size pieces j))) (λ j. big f at (row j)) (range_with_len 0 pieces)
    (λ j. ap (λ (xs : List ℤ). big f h xs) (piece_items size pieces j) ∙ big_map f h (λ m. pos (m + 1)) (row j))
    ∙ sym (big_flat f c at row (range_with_len 0 pieces))
    ∙ ap (λ (xs : List ℕ). big f at xs) (pieces_join size pieces pieces ∙ ap (λ (n : ℕ). range_with_len 0 n) (whole_is size pieces some))
    ∙ sym (big_map f h (λ m. pos (m + 1)) (range_with_len 0 size)) ∙ ap (λ (xs : List ℤ). big f h xs) (sym (whole_items size))

-- the part of two coordinates
big_part : (f : ℤ → ℤ → ℤ) → IsCommutative f → (g : List ℤ → Option ℤ) (size pieces : ℕ) (dims dist : List ℕ) (q j : ℕ) → j < pieces →
    big f g (indexes_in (part_ranges (size ∷ dims) (pieces ∷ dist) (pieces * q + j)))
    ≡ big f (λ index. big f (λ i. g (i ∷ index)) (span_items (piece_range size pieces j))) (indexes_in (part_ranges dims dist q))
big_part f c g size pieces dims dist q j below =
    let order : pieces * q + j ≡ q * pieces + j = omega arith in
    let first : (pieces * q + j) % pieces ≡ j = ap (λ (p : ℕ). p % pieces) order ∙ mod-mul-add q pieces j below in
    let others : (pieces * q + j) / pieces ≡ q = ap (λ (p : ℕ). p / pieces) order ∙ div-mul-add q pieces j below in
    ap (λ (m : ℕ). big f g (indexes_in (piece_range size pieces m ∷ part_ranges dims dist ((pieces * q + j) / pieces)))) first
    ∙ ap (λ (m : ℕ). big f g (indexes_in (piece_range size pieces j ∷ part_ranges dims dist m))) others
    ∙ big_range f c g (piece_range size pieces j) (part_ranges dims dist q)

item_below : (n k d : ℕ) → k < length (range_with_len 0 n) → get_or (range_with_len 0 n) k d < n
item_below n k d below =
    let inside : k < n = omega (arith, length-range_with_len 0 n) in omega (arith, get_or-range_with_len 0 n k d inside)

-- the parts in one row: the same coordinates behind the first dimension
big_row : (f : ℤ → ℤ → ℤ) → IsCommutative f → (g : List ℤ → Option ℤ) (size pieces : ℕ) (dims dist : List ℕ) (q : ℕ) → 0 < pieces →
    big f (λ p. big f g (indexes_in (part_ranges (size ∷ dims) (pieces ∷ dist) p))) (range_with_len (pieces * q) pieces)
    ≡ big f (λ index. big f (λ i. g (i ∷ index)) (span_items (whole_range size))) (indexes_in (part_ranges dims dist q))
big_row f c g size pieces dims dist q some =
    let h : ℕ → Option ℤ = λ p. big f g (indexes_in (part_ranges (size ∷ dims) (pieces ∷ dist) p)) in
    let behind : List (List ℤ) = indexes_in (part_ranges dims dist q) in
    let piece : ℕ → List ℤ → Option ℤ = λ j index. big f (λ i. g (i ∷ index)) (span_items (piece_range size pieces j)) in
    ap (λ (xs : List ℕ). big f h xs) (shifted (pieces * q) pieces) ∙ big_map f h (λ j. pieces * q + j) (range_with_len 0 pieces)
    ∙ big_same f (λ j. h (pieces * q + j)) (λ j. big f (piece j) behind) (range_with_len 0 pieces)
    (λ k d below. big_part f c g size pieces dims dist q (get_or (range_with_len 0 pieces) k d) (item_below pieces k d below))
    ∙ big_swapped f c piece (range_with_len 0 pieces) behind
    ∙ big_alike f (λ index. big f (λ j. piece j index) (range_with_len 0 pieces)) (λ index. big f (λ i. g (i ∷ index)) (span_items (whole_range size))) behind
    (λ index. big_pieces f c (λ i. g (i ∷ index)) size pieces some)

-- all parts give the whole array
big_parts : (f : ℤ → ℤ → ℤ) → IsCommutative f → (g : List ℤ → Option ℤ) (dims dist : List ℕ) → length dist ≡ length dims → All (λ n. 1 ≤ n) dist →
    big f (λ p. big f g (indexes_in (part_ranges dims dist p))) (range_with_len 0 (product dist)) ≡ big f g (indexes_in (whole_ranges dims))
big_parts f c g [] [] same counts = join_none f (big f g (indexes_in []))
big_parts f c g [] (k ∷ dist) same counts = absurd (omega arith)
big_parts f c g (d ∷ dims) [] same counts = absurd (omega arith)
big_parts f c g (d ∷ dims) (k ∷ dist) same counts =
    let some : 0 < k = omega (arith, All-head (λ n. 1 ≤ n) k dist counts) in
    let h : ℕ → Option ℤ = λ p. big f g (indexes_in (part_ranges (d ∷ dims) (k ∷ dist) p)) in
    let inner : List ℤ → Option ℤ = λ index. big f (λ i. g (i ∷ index)) (span_items (whole_range d)) in
    let rows : range_with_len 0 (k * product dist) ≡ flat_map (λ q. range_with_len (k * q) k) (range_with_len 0 (product dist)) =
    (let none : 0 ≡ k * 0 = omega arith in ap (λ (s : ℕ). range_with_len s (k * product dist)) none ∙ sym (rows_join k 0 (product dist))) in
    ap (λ (xs : List ℕ). big f h xs) rows ∙ big_flat f c h (λ q. range_with_len (k * q) k) (range_with_len 0 (product dist))
    ∙ big_alike f (λ q. big f h (range_with_len (k * q) k)) (λ q. big f inner (indexes_in (part_ranges dims dist q))) (range_with_len 0 (product dist))
    (λ q. big_row f c g d k dims dist q some)
    ∙ big_parts f c inner dims dist (omega arith) (All-tail (λ n. 1 ≤ n) k dist counts) ∙ sym (big_range f c g (whole_range d) (whole_ranges dims))

-- the places of a whole row
whole_row : (d q : ℕ) → map (λ i. offset i + d * q) (span_items (whole_range d)) ≡ range_with_len (d * q) d
whole_row d q =
    ap (λ (xs : List ℤ). map (λ i. offset i + d * q) xs) (whole_items d) ∙ map-map (λ i. offset i + d * q) (λ m. pos (m + 1)) (range_with_len 0 d)
    ∙ moved (λ m. offset (pos (m + 1)) + d * q) (λ m. d * q + m) 0 0 d (λ m. omega (arith, ints)) ∙ sym (shifted (d * q) d)

-- the places of all indexes are the places of the array, in order
whole_places : (dims : List ℕ) → map (place_of dims) (indexes_in (whole_ranges dims)) ≡ range_with_len 0 (product dims)
whole_places [] = refl
whole_places (d ∷ dims) =
    let others : List (List ℤ) = indexes_in (whole_ranges dims) in
    let start : d * 0 ≡ 0 = omega arith in
    map_flat (place_of (d ∷ dims)) (λ index. map (λ i. i ∷ index) (span_items (whole_range d))) others
    ∙ flat_same (λ index. map (place_of (d ∷ dims)) (map (λ i. i ∷ index) (span_items (whole_range d)))) (λ index. range_with_len (d * place_of dims index) d) others
    (λ index. map-map (place_of (d ∷ dims)) (λ i. i ∷ index) (span_items (whole_range d)) ∙ whole_row d (place_of dims index))
    ∙ sym (flat_map-map (λ q. range_with_len (d * q) d) (place_of dims) others)
    ∙ ap (λ (qs : List ℕ). flat_map (λ q. range_with_len (d * q) d) qs) (whole_places dims)
    ∙ rows_join d 0 (product dims) ∙ ap (λ (s : ℕ). range_with_len s (d * product dims)) start

-- the cells of all indexes are those of the array, in order
pub whole_cells : (whole : Shaped) → product whole.dims ≡ length whole.cells → map (cell_at whole) (indexes_in (whole_ranges whole.dims)) ≡ whole.cells
whole_cells whole full =
    sym (map-map (λ k. get_or whole.cells k (pos 0)) (place_of whole.dims) (indexes_in (whole_ranges whole.dims)))
    ∙ ap (λ (ks : List ℕ). map (λ k. get_or whole.cells k (pos 0)) ks) (whole_places whole.dims ∙ ap (λ (n : ℕ). range_with_len 0 n) full)
    ∙ cells_whole whole.cells

reduced_parts : (f : ℤ → ℤ → ℤ) → IsCommutative f → (whole : Shaped) (dist : List ℕ) → length dist ≡ length whole.dims → All (λ n. 1 ≤ n) dist → product whole.dims ≡ length whole.cells →
    reduced f (filter_map (λ part. reduced f (part_cells whole dist part)) (range_with_len 0 (product dist))) ≡ reduced f whole.cells
reduced_parts f c whole dist same counts full =
    let one : ℤ → Option ℤ = λ x. Some x in
    let cell : List ℤ → Option ℤ = λ index. Some (cell_at whole index) in
    reduced_big f c (filter_map (λ part. reduced f (part_cells whole dist part)) (range_with_len 0 (product dist)))
    ∙ filtered_big f (λ part. reduced f (part_cells whole dist part)) (range_with_len 0 (product dist))
    ∙ big_alike f (λ part. reduced f (part_cells whole dist part)) (λ part. big f cell (indexes_in (part_ranges whole.dims dist part))) (range_with_len 0 (product dist))
    (λ part. reduced_big f c (part_cells whole dist part) ∙ big_map f one (cell_at whole) (indexes_in (part_ranges whole.dims dist part)))
    ∙ big_parts f c cell whole.dims dist same counts
    ∙ sym (big_map f one (cell_at whole) (indexes_in (whole_ranges whole.dims)))
    ∙ ap (λ (xs : List ℤ). big f one xs) (whole_cells whole full) ∙ sym (reduced_big f c whole.cells)

-- a fold by an operation, where there is nothing to fold its value of nothing
or_identity : Reducer → Option ℤ → Option ℤ
or_identity op None = identity_of op
or_identity op (Some a) = Some a

folded_is : (op : Reducer) (xs : List ℤ) → folded op xs ≡ or_identity op (reduced (combined op) xs)
unfolding or_identity
folded_is op [] = refl
folded_is op (x ∷ xs) = refl

pub folded_parts : (op : Reducer) (whole : Shaped) (dist : List ℕ) → length dist ≡ length whole.dims → All (λ n. 1 ≤ n) dist → product whole.dims ≡ length whole.cells →
    folded op (folds_of_parts op whole dist) ≡ folded op whole.cells
folded_parts op whole dist same counts full =
    folded_is op (folds_of_parts op whole dist) ∙ ap (λ (o : Option ℤ). or_identity op o) (reduced_parts (combined op) (commutes op) whole dist same counts full)
    ∙ sym (folded_is op whole.cells)

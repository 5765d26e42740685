-- Slices by coordinates.
use Rattle.std.proofs.Common.{ℕ, zero, suc, ◌+◌, ◌*◌, ◌<◌, ◌≡◌, ℤ, pos, ◌+ℤ◌, ◌-ℤ◌, List, [], ◌∷◌, ◌++◌, length, get_or, map, refl, ap, ◌∙◌, arith}
use Rattle.std.specs.List.{flat_map}
use Rattle.std.proofs.lemmas.Int.{ints}
use Rattle.std.proofs.lemmas.List.{get_or_append_left, get_or-append-add, get_or-map, length-map}
use Rattle.jd_value.specs.Span.{span_length, span_items}
use Rattle.jd_value.specs.Array.{Shaped, IsInside, cell_at, offset, place_of}
use Rattle.jd_array.specs.declared.slices.Pick.{Pick}
use Rattle.jd_array.specs.declared.slices.Pick.TheVariants.{One, Many}
use Rattle.jd_array.specs.Slice.{picked_dims, picked_indexes, source_index, AreInside, IsSliceByIndex}
use Rattle.jd_array.proofs.Inside.{offset_below, place_below}
use Rattle.jd_array.proofs.Spans.{length-span_items, item_at}
use Rattle.jd_array.proofs.Picked.{product_picked}

-- an element of lists of one length that are joined
pub block_at : {A B : Type 0} (f : A → List B) (xs : List A) (n q j : ℕ) (e : A) (d : B) → ((x : A) → length (f x) ≡ n) → q < length xs → j < n →
    get_or (flat_map f xs) (j + n * q) d ≡ get_or (f (get_or xs q e)) j d
block_at f [] n q j e d each below inside = absurd (omega arith)
block_at f (x ∷ xs) n zero j e d each below inside =
    let first : j + n * 0 ≡ j = omega arith in
    ap (λ (k : ℕ). get_or (f x ++ flat_map f xs) k d) first ∙ get_or_append_left (f x) (flat_map f xs) d j (omega (arith, each x))
block_at f (x ∷ xs) n (suc q) j e d each below inside =
    let later : j + n * suc q ≡ length (f x) + (j + n * q) = omega (arith, each x) in
    ap (λ (k : ℕ). get_or (f x ++ flat_map f xs) k d) later ∙ get_or-append-add (f x) (flat_map f xs) (j + n * q) d
    ∙ block_at f xs n q j e d each (omega arith) inside

place_picked : (picks : List Pick) (index : List ℤ) → IsInside (picked_dims picks) index → place_of (picked_dims picks) index < length (picked_indexes picks)
place_picked picks index inside = omega (arith, place_below (picked_dims picks) index inside, product_picked picks)

-- the index at the place of an index
pub index_at_place : (picks : List Pick) (index : List ℤ) → IsInside (picked_dims picks) index →
    get_or (picked_indexes picks) (place_of (picked_dims picks) index) [] ≡ source_index picks index
index_at_place [] [] inside = refl
index_at_place [] (j ∷ index) inside = absurd inside
index_at_place (One i ∷ picks) index inside =
    let place = place_of (picked_dims picks) index in
    let one : place ≡ 0 + 1 * place = omega arith in
    ap (λ (k : ℕ). get_or (picked_indexes (One i ∷ picks)) k []) one
    ∙ block_at (λ rest. map (λ k. k ∷ rest) (i ∷ [])) (picked_indexes picks) 1 place 0 [] [] (λ rest. refl) (place_picked picks index inside) (omega arith)
    ∙ ap (λ (rest : List ℤ). i ∷ rest) (index_at_place picks index inside)
index_at_place (Many span ∷ picks) [] inside = absurd inside
index_at_place (Many span ∷ picks) (j ∷ index) inside =
    let place = place_of (picked_dims picks) index in
    let below = offset_below (span_length span) j inside.0 inside.1 in
    let from = inside.0 in
    let item : get_or (span_items span) (offset j) (pos 0) ≡ span.first +ℤ (j -ℤ pos 1) = item_at span (offset j) (pos 0) below ∙ omega (arith, ints) in
    block_at (λ rest. map (λ k. k ∷ rest) (span_items span)) (picked_indexes picks) (span_length span) place (offset j) [] []
    (λ rest. length-map (span_items span) (λ k. k ∷ rest) ∙ length-span_items span) (place_picked picks index inside.2) below
    ∙ get_or-map (λ k. k ∷ get_or (picked_indexes picks) place []) (span_items span) (offset j) (pos 0) [] (omega (arith, length-span_items span, below))
    ∙ ap (λ (rest : List ℤ). get_or (span_items span) (offset j) (pos 0) ∷ rest) (index_at_place picks index inside.2)
    ∙ ap (λ (i : ℤ). i ∷ source_index picks index) item

pub source_inside : (dims : List ℕ) (picks : List Pick) (index : List ℤ) → AreInside dims picks → IsInside (picked_dims picks) index → IsInside dims (source_index picks index)
source_inside [] [] index within inside = tt
source_inside [] (p ∷ picks) index within inside = absurd within
source_inside (d ∷ dims) [] index within inside = absurd within
source_inside (d ∷ dims) (One i ∷ picks) index within inside =
    let here = within.0 0 (pos 0) (omega arith) in (here.0, here.1, source_inside dims picks index within.1 inside)
source_inside (d ∷ dims) (Many span ∷ picks) [] within inside = absurd inside
source_inside (d ∷ dims) (Many span ∷ picks) (j ∷ index) within inside =
    let from = inside.0 in
    let below = offset_below (span_length span) j inside.0 inside.1 in
    let here = within.0 (offset j) (pos 0) (omega (arith, length-span_items span)) in
    let item = item_at span (offset j) (pos 0) below in
    (omega (arith, ints, here.0, item), omega (arith, ints, here.1, item), source_inside dims picks index within.1 inside.2)

pub slice_by_index : (array : Shaped) (picks : List Pick) → AreInside array.dims picks → IsSliceByIndex array picks
slice_by_index array picks within index inside = (
  source_inside array.dims picks index within inside,
  get_or-map (cell_at array) (picked_indexes picks) (place_of (picked_dims picks) index) [] (pos 0) (place_picked picks index inside)
      ∙ ap (λ (i : List ℤ). cell_at array i) (index_at_place picks index inside),
)

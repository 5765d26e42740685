-- The cells of the parts, and the whole array from them.
use Rattle.std.proofs.Common.{ℕ, zero, suc, ◌+◌, ◌*◌, ◌/◌, ◌%◌, ◌<◌, ◌≤◌, ◌≡◌, ℤ, pos, ◌-ℤ◌, unsigned_abs, List, [], ◌∷◌, length, get_or, map, All, refl, sym, ap, ◌∙◌, arith}
use Rattle.std.specs.List.{flat_map}
use Rattle.std.proofs.Math.Nat.{mul-le-mul_left, mod-lt, div-add-mod}
use Rattle.std.proofs.lemmas.Int.{ints}
use Rattle.std.proofs.lemmas.Nat.{div_below}
use Rattle.std.proofs.lemmas.List.{get_or-map, length-map, ext_get_or}
use Rattle.jd_value.specs.Span.{Ends, span_length, span_items}
use Rattle.jd_value.specs.Array.{Shaped, cell_at, offset, place_of, product}
use Rattle.jd_array.specs.declared.slices.Pick.TheVariants.{Many}
use Rattle.jd_array.specs.Slice.{picked_indexes}
use Rattle.jd_array.proofs.Spans.{length-span_items, item_at}
use Rattle.jd_array.proofs.Picked.{length_flat}
use Rattle.jd_array.proofs.Coordinates.{block_at}
use Rattle.jd_layout.specs.Blocks.{IsIndex, LiesIn, IsLocated, part_ranges, place_within}
use Rattle.jd_layout.specs.Partition.{HasCell, IsGathered}
use Rattle.jd_layout.proofs.Whole.{some_located}

more_indexes : (others : List (List ℤ)) (n ahead place : ℕ) (f : List ℤ → List (List ℤ)) → ((x : List ℤ) → length (f x) ≡ n) → ahead < n → place < length others →
    ahead + n * place < length (flat_map f others)
more_indexes others n ahead place f each below inside =
    omega (arith, length_flat f others n each, mul-le-mul_left {m = suc place} {n = length others} n inside)

-- the index at a place in ranges
pub index_within : (ranges : List Ends) (index : List ℕ) → LiesIn ranges index →
    (place_within ranges index < length (picked_indexes (map Many ranges))) × (get_or (picked_indexes (map Many ranges)) (place_within ranges index) [] ≡ map pos index)
index_within [] [] held = (omega arith, refl)
index_within [] (i ∷ index) held = absurd held
index_within (range ∷ ranges) [] held = absurd held
index_within (range ∷ ranges) (i ∷ index) held =
    let rest = index_within ranges index held.2 in
    let others = picked_indexes (map Many ranges) in
    let place = place_within ranges index in
    let ahead = unsigned_abs (pos i -ℤ range.first) in
    let from = held.0 in
    let to = held.1 in
    let below : ahead < span_length range = omega (arith, ints) in
    let each : (index : List ℤ) → length (map (λ (x : ℤ). x ∷ index) (span_items range)) ≡ span_length range =
    λ index. length-map (span_items range) (λ x. x ∷ index) ∙ length-span_items range in
    let item : get_or (span_items range) ahead (pos 0) ≡ pos i = item_at range ahead (pos 0) below ∙ omega (arith, ints) in (
      more_indexes others (span_length range) ahead place (λ index. map (λ (x : ℤ). x ∷ index) (span_items range)) each below rest.0,
      block_at (λ index. map (λ (x : ℤ). x ∷ index) (span_items range)) others (span_length range) place ahead [] [] each rest.0 below
          ∙ get_or-map (λ x. x ∷ get_or others place []) (span_items range) ahead (pos 0) [] (omega (arith, below, length-span_items range))
          ∙ ap (λ (is : List ℤ). get_or (span_items range) ahead (pos 0) ∷ is) rest.1
          ∙ ap (λ (x : ℤ). x ∷ map pos index) item,
    )

index_of : List ℕ → ℕ → List ℕ
index_of [] n = []
index_of (d ∷ dims) n = (n % d + 1) ∷ index_of dims (n / d)

-- each place is that of an index
is_index_of : (dims : List ℕ) (n : ℕ) → n < product dims → IsIndex dims (index_of dims n) × (place_of dims (map pos (index_of dims n)) ≡ n)
unfolding index_of
is_index_of [] n below = (tt, omega arith)
is_index_of (zero ∷ dims) n below = absurd (omega arith)
is_index_of (suc d ∷ dims) n below =
    let rest = is_index_of dims (n / suc d) (div_below n (suc d) (product dims) (omega arith) (omega arith)) in
    let small = mod-lt n {m = suc d} (omega arith) in (
      (omega arith, omega arith, rest.0),
      ap (λ (m : ℕ). offset (pos (n % suc d + 1)) + suc d * m) rest.1 ∙ omega (arith, ints, div-add-mod n (suc d)),
    )

pub has_cell : (whole : Shaped) (dist index : List ℕ) (part place : ℕ) → IsLocated whole.dims dist index part place → HasCell whole dist index part place
has_cell whole dist index part place located =
    let ranges = part_ranges whole.dims dist part in
    let found = index_within ranges index located.held in
    let inside : place < length (picked_indexes (map Many ranges)) = omega (arith, located.at, found.0) in
    record {
      inside = omega (arith, inside, length-map (picked_indexes (map Many ranges)) (cell_at whole));
      same = get_or-map (cell_at whole) (picked_indexes (map Many ranges)) place [] (pos 0) inside
          ∙ ap (λ (n : ℕ). cell_at whole (get_or (picked_indexes (map Many ranges)) n [])) located.at ∙ ap (λ (is : List ℤ). cell_at whole is) found.1;
    }

pub gathered_whole : (whole gathered : Shaped) (dist : List ℕ) → length dist ≡ length whole.dims → All (λ n. 1 ≤ n) dist → product whole.dims ≡ length whole.cells →
    IsGathered whole dist gathered → gathered ≡ whole
gathered_whole whole gathered dist same counts full parts =
    let cells : gathered.cells ≡ whole.cells = ext_get_or (pos 0) gathered.cells whole.cells (parts.size ∙ full)
    (λ n below.
    let at = is_index_of whole.dims n (omega (arith, parts.size)) in
    let found = some_located whole.dims dist (index_of whole.dims n) same counts at.0 in
    ap (λ (m : ℕ). get_or gathered.cells m (pos 0)) (sym at.1)
    ∙ ap (λ (ds : List ℕ). get_or gathered.cells (place_of ds (map pos (index_of whole.dims n))) (pos 0)) (sym parts.dims)
    ∙ parts.cells (index_of whole.dims n) at.0 found.0 found.1 found.2
    ∙ (has_cell whole dist (index_of whole.dims n) found.0 found.1 found.2).same
    ∙ ap (λ (m : ℕ). get_or whole.cells m (pos 0)) at.1) in
    λ i. record { dims = parts.dims i; cells = cells i }

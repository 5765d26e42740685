-- The part of an index, one axis after the other from the last one on.
use Rattle.std.proofs.Common.{ℕ, zero, suc, ◌+◌, ◌-◌, ◌*◌, ◌<◌, ◌≤◌, ◌≡◌, pos, ◌-ℤ◌, ◌≤ℤ◌, unsigned_abs, List, [], ◌∷◌, length, drop, get_or, All, refl, subst, arith}
use Rattle.std.proofs.lemmas.Int.{ints}
use Rattle.std.proofs.Math.Nat.{mul-le-mul_right}
use Rattle.std.proofs.lemmas.Nat.{mul-le, mul-add-lt, div-mul-add, mod-mul-add}
use Rattle.std.proofs.lemmas.List.{drop_all}
use Rattle.std.proofs.lemmas.List.Elements.{All-tail, All-head}
use Rattle.jd_value.specs.Array.{product}
use Rattle.jd_value.specs.Span.{span_length}
use Rattle.jd_array.specs.Cut.{piece_length, piece_start}
use Rattle.jd_array.proofs.Inside.{drop_before}
use Rattle.jd_layout.proofs.Indexes.{index_length, product_drop}
use Rattle.jd_layout.specs.Blocks.{IsIndex, LiesIn, part_ranges, piece_range, place_within, IsLocated}

pub range_length : (size pieces piece : ℕ) → span_length (piece_range size pieces piece) ≡ piece_length size pieces piece
range_length size pieces piece = omega (arith, ints)

-- a number that a piece holds is in the range of the piece
held_along : (size pieces piece i before : ℕ) → piece_start size pieces piece + before + 1 ≡ i → before < piece_length size pieces piece →
    ((piece_range size pieces piece).first ≤ℤ pos i) × (pos i ≤ℤ (piece_range size pieces piece).last)
held_along size pieces piece i before here below = (omega (arith, ints), omega (arith, ints))

located_with : (size pieces i : ℕ) (dims dist index : List ℕ) (piece before part place : ℕ) →
    piece_start size pieces piece + before + 1 ≡ i → before < piece_length size pieces piece → IsLocated dims dist index part place →
    LiesIn (piece_range size pieces piece ∷ part_ranges dims dist part) (i ∷ index)
located_with size pieces i dims dist index piece before part place here below rest =
    let along = held_along size pieces piece i before here below in (along.0, along.1, rest.held)

placed_with : (size pieces i : ℕ) (dims dist index : List ℕ) (piece before part place : ℕ) →
    piece_start size pieces piece + before + 1 ≡ i → place ≡ place_within (part_ranges dims dist part) index →
    place * piece_length size pieces piece + before ≡ place_within (piece_range size pieces piece ∷ part_ranges dims dist part) (i ∷ index)
placed_with size pieces i dims dist index piece before part place here at =
    let ahead : unsigned_abs (pos i -ℤ pos (piece_start size pieces piece + 1)) ≡ before = omega (arith, ints) in
    let whole : span_length (piece_range size pieces piece) ≡ piece_length size pieces piece = range_length size pieces piece in
    rw (ahead, whole, ← at) (omega arith)

pub located_more : (size pieces i : ℕ) (dims dist index : List ℕ) (piece before part place : ℕ) → piece < pieces →
    piece_start size pieces piece + before + 1 ≡ i → before < piece_length size pieces piece → IsLocated dims dist index part place →
    IsLocated (size ∷ dims) (pieces ∷ dist) (i ∷ index) (part * pieces + piece) (place * piece_length size pieces piece + before)
located_more size pieces i dims dist index piece before part place some here below rest =
    let coordinate = mod-mul-add part pieces piece some in
    let others = div-mul-add part pieces piece some in
    record {
      is_part = mul-add-lt part pieces piece (product dist) rest.is_part some;
      held = rw (coordinate, others) (located_with size pieces i dims dist index piece before part place here below rest);
      at = rw (coordinate, others) (placed_with size pieces i dims dist index piece before part place here rest.at);
    }

-- no part has more cells than the whole
more_cells : (size cells len before place : ℕ) → len ≤ size → before < len → place < cells → place * len + before < size * cells
more_cells size cells len before place short below fits = omega (arith, mul-le (suc place) len cells size fits short)

-- the number of parts behind an axis
pub parts_drop : (dist : List ℕ) (k : ℕ) → All (λ pieces. 1 ≤ pieces) dist → product (drop k dist) ≤ product dist
parts_drop dist zero some = omega arith
parts_drop [] (suc k) some = omega arith
parts_drop (pieces ∷ dist) (suc k) some =
    omega (arith, parts_drop dist k (All-tail (λ n. 1 ≤ n) pieces dist some), mul-le-mul_right {m = 1} {n = pieces} (product dist) (All-head (λ n. 1 ≤ n) pieces dist some))

-- behind the last axis there is one part, with one cell
pub located_none : (dims dist index : List ℕ) (n : ℕ) → length dims ≤ n → length dist ≤ n → length index ≤ n → IsLocated (drop n dims) (drop n dist) (drop n index) 0 0
located_none dims dist index n a b c =
    rw (drop_all n dims a, drop_all n dist b, drop_all n index c) (record { is_part = omega arith; held = tt; at = refl })

pub located_before : (dims dist index : List ℕ) (a piece before part place : ℕ) → 0 < a → a ≤ length dims → a ≤ length dist → a ≤ length index →
    piece < get_or dist (a - 1) 0 → piece_start (get_or dims (a - 1) 0) (get_or dist (a - 1) 0) piece + before + 1 ≡ get_or index (a - 1) 0 →
    before < piece_length (get_or dims (a - 1) 0) (get_or dist (a - 1) 0) piece →
    IsLocated (drop a dims) (drop a dist) (drop a index) part place →
    IsLocated (drop (a - 1) dims) (drop (a - 1) dist) (drop (a - 1) index) (part * get_or dist (a - 1) 0 + piece)
    (place * piece_length (get_or dims (a - 1) 0) (get_or dist (a - 1) 0) piece + before)
located_before dims dist index a piece before part place some in_dims in_dist in_index least here below rest =
    rw (drop_before dims a 0 some in_dims, drop_before dist a 0 some in_dist, drop_before index a 0 some in_index)
    (located_more _ _ _ _ _ _ piece before part place least here below rest)

cells_before : (dims : List ℕ) (a len before place : ℕ) → 0 < a → a ≤ length dims → len ≤ get_or dims (a - 1) 0 → before < len → place < product (drop a dims) →
    place * len + before < product (drop (a - 1) dims)
cells_before dims a len before place some below short inside fits =
    rw (drop_before dims a 0 some below) (more_cells _ _ len before place short inside fits)

-- what a turn of the walk from the last axis to the first keeps
pub record Step (dims dist index : List ℕ) (a part place : ℕ) : Type 0 where
  pub behind : IsLocated (drop (a - 1) dims) (drop (a - 1) dist) (drop (a - 1) index) part place
  pub fits : place < product (drop (a - 1) dims)
  pub few : part < product dist
  pub small : place < product dims

pub step : (dims dist index : List ℕ) (a piece before len part place : ℕ) → IsIndex dims index → length dist ≡ length dims → All (λ pieces. 1 ≤ pieces) dist →
    0 < a → a ≤ length dims → piece < get_or dist (a - 1) 0 → len ≡ piece_length (get_or dims (a - 1) 0) (get_or dist (a - 1) 0) piece →
    piece_start (get_or dims (a - 1) 0) (get_or dist (a - 1) 0) piece + before + 1 ≡ get_or index (a - 1) 0 → before < len → len ≤ get_or dims (a - 1) 0 →
    IsLocated (drop a dims) (drop a dist) (drop a index) part place → place < product (drop a dims) →
    Step dims dist index a (part * get_or dist (a - 1) 0 + piece) (place * len + before)
step dims dist index a piece before len part place valid same counts some below least is_len here inside short behind fits =
    let lengths = index_length dims index valid in
    let ahead : before < piece_length (get_or dims (a - 1) 0) (get_or dist (a - 1) 0) piece = omega (arith, is_len) in
    let next = located_before dims dist index a piece before part place some below (omega arith) (omega arith) least here ahead behind in
    let room = cells_before dims a len before place some below short inside fits in
    record {
      behind = rw is_len next;
      fits = room;
      few = omega (arith, next.is_part, parts_drop dist (a - 1) counts);
      small = omega (arith, room, product_drop dims index (a - 1) valid);
    }

pub located_whole : (dims dist index : List ℕ) (a part place : ℕ) → a ≡ 0 → IsLocated (drop a dims) (drop a dist) (drop a index) part place → IsLocated dims dist index part place
located_whole dims dist index a part place e behind = subst (λ (n : ℕ). IsLocated (drop n dims) (drop n dist) (drop n index) part place) e behind

-- The places of picked cells, one dimension after the other from the last one on.
use Rattle.std.proofs.Common.{ℕ, zero, suc, ◌+◌, ◌-◌, ◌*◌, ◌<◌, ◌≤◌, ◌≡◌, ℤ, pos, List, [], ◌∷◌, ◌++◌, length, get_or, take, drop, map, All, refl, sym, subst, ap, ◌∙◌, arith}
use Rattle.std.specs.List.{flat_map, range_with_len}
use Rattle.std.proofs.Math.Nat.{mul-le-mul_right}
use Rattle.std.proofs.lemmas.Nat.{mul-le}
use Rattle.std.proofs.lemmas.List.{append_assoc, drop_more, take_more, flat_map_more, map-append}
use Rattle.std.proofs.lemmas.List.Elements.{All-nil, All-cons, All-append, All-head, All-tail, All-weaker}
use Rattle.std.proofs.lemmas.List.FromFn.{length-range_with_len, get_or-range_with_len}
use Rattle.jd_value.specs.Array.{offset, product}
use Rattle.jd_array.specs.declared.slices.Pick.{Pick}
use Rattle.jd_array.proofs.Inside.{drop_before}
use Rattle.jd_array.specs.Places.{pick_first, pick_length, IsWindow, AreWindows, places, places_along}

pub windows_length : (dims : List ℕ) (picks : List Pick) → AreWindows dims picks → length dims ≡ length picks
windows_length [] [] windows = refl
windows_length [] (p ∷ picks) windows = absurd windows
windows_length (d ∷ dims) [] windows = absurd windows
windows_length (d ∷ dims) (p ∷ picks) windows = ap (λ (n : ℕ). suc n) (windows_length dims picks windows.1)

-- cells in a row
pub cells_in_row : (cells : List ℤ) (a n : ℕ) → a + n ≤ length cells → map (λ k. get_or cells k (pos 0)) (range_with_len a n) ≡ take n (drop a cells)
cells_in_row cells a zero fits = refl
cells_in_row cells a (suc n) fits =
    let rest = cells_in_row cells (a + 1) n (omega arith) in
    ap (λ (xs : List ℤ). get_or cells a (pos 0) ∷ xs) rest ∙ sym (ap (λ (xs : List ℤ). take (suc n) xs) (drop_more cells a (pos 0) (omega arith)))

range_push : (a n p : ℕ) → a + n ≡ p → range_with_len a (suc n) ≡ range_with_len a n ++ p ∷ []
range_push a zero p e = ap (λ (x : ℕ). x ∷ []) (omega arith)
range_push a (suc n) p e = ap (λ (xs : List ℕ). a ∷ xs) (range_push (a + 1) n p (omega arith))

pub range_next : (a p : ℕ) → a ≤ p → range_with_len a (p + 1 - a) ≡ range_with_len a (p - a) ++ p ∷ []
range_next a p below =
    let more : p + 1 - a ≡ suc (p - a) = omega arith in ap (λ (n : ℕ). range_with_len a n) more ∙ range_push a (p - a) p (omega arith)

-- one place more
pub pushed : (old now new : List ℕ) (a p : ℕ) → a ≤ p → new ≡ now ++ p ∷ [] → now ≡ old ++ range_with_len a (p - a) → new ≡ old ++ range_with_len a (p + 1 - a)
pushed old now new a p below added is =
    added ∙ ap (λ (xs : List ℕ). xs ++ p ∷ []) is ∙ append_assoc old (range_with_len a (p - a)) (p ∷ [])
    ∙ ap (λ (xs : List ℕ). old ++ xs) (sym (range_next a p below))

-- one row more
pub row_more : (cells : List ℤ) (rows : List ℕ) (size start len : ℕ) (pick : Pick) (k : ℕ) (out new : List ℤ) → k < length rows →
    start ≡ offset (pick_first pick) → len ≡ pick_length pick → get_or rows k 0 * size + start + len ≤ length cells →
    new ≡ out ++ take (get_or rows k 0 * size + start + len - (get_or rows k 0 * size + start)) (drop (get_or rows k 0 * size + start) cells) →
    out ≡ map (λ place. get_or cells place (pos 0)) (flat_map (places_along size pick) (take k rows)) →
    new ≡ map (λ place. get_or cells place (pos 0)) (flat_map (places_along size pick) (take (k + 1) rows))
row_more cells rows size start len pick k out new below is_start is_len inside added is =
    let cell : ℕ → ℤ = λ place. get_or cells place (pos 0) in
    let f : ℕ → List ℕ = places_along size pick in
    let row : List ℕ = range_with_len (get_or rows k 0 * size + start) len in
    let same : row ≡ f (get_or rows k 0) =
    ap (λ (s : ℕ). range_with_len (get_or rows k 0 * size + s) len) is_start ∙ ap (λ (n : ℕ). range_with_len (get_or rows k 0 * size + offset (pick_first pick)) n) is_len in
    let whole : flat_map f (take (k + 1) rows) ≡ flat_map f (take k rows) ++ f (get_or rows k 0) =
    ap (λ (xs : List ℕ). flat_map f xs) (take_more rows k 0 below) ∙ sym (flat_map_more f [] (take k rows) (get_or rows k 0)) in
    let count : get_or rows k 0 * size + start + len - (get_or rows k 0 * size + start) ≡ len = omega arith in
    added ∙ ap (λ (n : ℕ). out ++ take n (drop (get_or rows k 0 * size + start) cells)) count
    ∙ ap (λ (xs : List ℤ). xs ++ take len (drop (get_or rows k 0 * size + start) cells)) is
    ∙ ap (λ (xs : List ℤ). map cell (flat_map f (take k rows)) ++ xs) (sym (cells_in_row cells (get_or rows k 0 * size + start) len inside))
    ∙ ap (λ (xs : List ℕ). map cell (flat_map f (take k rows)) ++ map cell xs) same
    ∙ sym (map-append cell (flat_map f (take k rows)) (f (get_or rows k 0))) ∙ ap (λ (xs : List ℕ). map cell xs) (sym whole)

pub windows_drop : (dims : List ℕ) (picks : List Pick) (k : ℕ) → AreWindows dims picks → AreWindows (drop k dims) (drop k picks)
windows_drop dims picks zero windows = windows
windows_drop [] [] (suc k) windows = tt
windows_drop [] (p ∷ picks) (suc k) windows = absurd windows
windows_drop (d ∷ dims) [] (suc k) windows = absurd windows
windows_drop (d ∷ dims) (p ∷ picks) (suc k) windows = windows_drop dims picks k windows.1

pub window_at : (dims : List ℕ) (picks : List Pick) (k : ℕ) (e : Pick) → AreWindows dims picks → k < length dims → IsWindow (get_or dims k 0) (get_or picks k e)
window_at [] picks k e windows below = absurd (omega arith)
window_at (d ∷ dims) [] k e windows below = absurd windows
window_at (d ∷ dims) (p ∷ picks) zero e windows below = windows.0
window_at (d ∷ dims) (p ∷ picks) (suc k) e windows below = window_at dims picks k e windows.1 (omega arith)

-- an array with a window has a cell at least behind each axis
pub product_behind : (dims : List ℕ) (picks : List Pick) (k : ℕ) → AreWindows dims picks → product (drop k dims) ≤ product dims
product_behind dims picks zero windows = omega arith
product_behind [] picks (suc k) windows = omega arith
product_behind (d ∷ dims) [] (suc k) windows = absurd windows
product_behind (d ∷ dims) (p ∷ picks) (suc k) windows =
    let rest = product_behind dims picks k windows.1 in
    let some = windows.0.some in
    let within = windows.0.within in
    omega (arith, mul-le-mul_right {m = 1} {n = d} (product dims) (omega arith))

-- the places of picked cells are places of the array
along_below : (size : ℕ) (pick : Pick) (place cells : ℕ) → IsWindow size pick → place < cells → All (λ p. p < size * cells) (places_along size pick place)
along_below size pick place cells window below = λ k d inside.
    let few : k < pick_length pick = omega (arith, length-range_with_len (place * size + offset (pick_first pick)) (pick_length pick)) in
    let within = window.within in
    rw (get_or-range_with_len (place * size + offset (pick_first pick)) (pick_length pick) k d few)
    (omega (arith, mul-le (suc place) size cells size below (omega arith)))

all_along : (P : ℕ → Type 0) (f : ℕ → List ℕ) (xs : List ℕ) → All (λ x. All P (f x)) xs → All P (flat_map f xs)
all_along P f [] each = All-nil P
all_along P f (x ∷ xs) each =
    All-append P (f x) (flat_map f xs) (All-head (λ y. All P (f y)) x xs each) (all_along P f xs (All-tail (λ y. All P (f y)) x xs each))

pub places_below : (dims : List ℕ) (picks : List Pick) → AreWindows dims picks → All (λ p. p < product dims) (places dims picks (0 ∷ []))
places_below [] [] windows = All-cons (λ p. p < 1) 0 [] (omega arith) (All-nil (λ p. p < 1))
places_below [] (p ∷ picks) windows = absurd windows
places_below (d ∷ dims) [] windows = absurd windows
places_below (d ∷ dims) (p ∷ picks) windows =
    all_along (λ q. q < d * product dims) (places_along d p) (places dims picks (0 ∷ []))
    (All-weaker (λ q. q < product dims) (λ q. All (λ r. r < d * product dims) (places_along d p q))
    (λ q below. along_below d p q (product dims) windows.0 below) (places dims picks (0 ∷ [])) (places_below dims picks windows.1))

-- a row at one of these places is one of the array
pub rows_fit : (dims : List ℕ) (picks : List Pick) (a : ℕ) → AreWindows dims picks → 0 < a → a ≤ length dims →
    All (λ place. (place + 1) * get_or dims (a - 1) 0 ≤ product dims) (places (drop a dims) (drop a picks) (0 ∷ []))
rows_fit dims picks a windows some below =
    let split : product (drop (a - 1) dims) ≡ get_or dims (a - 1) 0 * product (drop a dims) = ap product (drop_before dims a 0 some below) in
    let room = product_behind dims picks (a - 1) windows in
    All-weaker (λ q. q < product (drop a dims)) (λ q. (q + 1) * get_or dims (a - 1) 0 ≤ product dims)
    (λ q inside. omega (arith, split, room, mul-le-mul_right {m = q + 1} {n = product (drop a dims)} (get_or dims (a - 1) 0) (omega arith)))
    (places (drop a dims) (drop a picks) (0 ∷ [])) (places_below (drop a dims) (drop a picks) (windows_drop dims picks a windows))

-- the places with one dimension more
pub places_before : (dims : List ℕ) (picks : List Pick) (a : ℕ) (pick : Pick) (behind : List ℕ) → 0 < a → a ≤ length dims → a ≤ length picks →
    pick ≡ get_or picks (a - 1) pick → flat_map (places_along (get_or dims (a - 1) 0) pick) (places (drop a dims) (drop a picks) behind) ≡ places (drop (a - 1) dims) (drop (a - 1) picks) behind
places_before dims picks a pick behind some below short is =
    rw (drop_before dims a 0 some below, drop_before picks a pick some short, ← is) refl

pub window_before : (dims : List ℕ) (picks : List Pick) (a : ℕ) (pick : Pick) → AreWindows dims picks → 0 < a → a ≤ length dims → pick ≡ get_or picks (a - 1) pick →
    IsWindow (get_or dims (a - 1) 0) pick
window_before dims picks a pick windows some below is =
    subst (λ (p : Pick). IsWindow (get_or dims (a - 1) 0) p) (sym is) (window_at dims picks (a - 1) pick windows (omega arith))

-- The indexes that picks take, and their places.
use Rattle.std.proofs.Common.{ℕ, zero, suc, ◌+◌, ◌-◌, ◌*◌, ◌<◌, ◌≤◌, ◌≡◌, ◌≢◌, ℤ, pos, ◌+ℤ◌, ◌≤ℤ◌, List, [], ◌∷◌, ◌++◌, length, get_or, set, take, drop, map, All, Result, Ok, Err, IfOk, Vec, Global, refl, sym, subst, ap, ◌∙◌, inl, inr, arith}
use Rattle.std.specs.List.{flat_map, range_with_len}
use Rattle.std.proofs.lemmas.Bool.{cases_lt}
use Rattle.std.proofs.lemmas.Int.{ints}
use Rattle.std.proofs.lemmas.List.{map-append, length-map, length-append, nil_from_length, drop_more, drop_all, append-nil, append_assoc, take_more_set}
use Rattle.std.proofs.lemmas.List.Elements.{All-nil, All-cons, All-head, All-tail, All-same, All-weaker}
use Rattle.std.proofs.lemmas.List.Folds.{flat_map-map}
use Rattle.std.proofs.lemmas.Simd.{map-map}
use Rattle.std.proofs.Math.Nat.{add_assoc}
use Rattle.jd_value.specs.Span.{Ends, span_length, span_items}
use Rattle.jd_value.specs.Array.{Shaped, IsDims, cell_at, offset, place_of, product}
use Rattle.jd_array.specs.declared.slices.Pick.{Pick}
use Rattle.jd_array.specs.declared.slices.Pick.TheVariants.{One, Many}
use Rattle.jd_array.specs.Places.{pick_first, pick_length, IsWindow, AreWindows, places, places_along}
use Rattle.jd_array.specs.Slice.{picked, picked_dims, picked_indexes, AreInside}
use Rattle.jd_array.proofs.Placed.{rows_fit}
use Rattle.jd_array.proofs.Spans.{length-span_items, item_at}

pub inside_length : (dims : List ℕ) (picks : List Pick) → AreInside dims picks → length dims ≡ length picks
inside_length [] [] inside = refl
inside_length [] (p ∷ picks) inside = absurd inside
inside_length (d ∷ dims) [] inside = absurd inside
inside_length (d ∷ dims) (p ∷ picks) inside = ap (λ (n : ℕ). suc n) (inside_length dims picks inside.1)

pub other_length : (dims : List ℕ) (picks : List Pick) → length dims ≢ length picks → AreInside dims picks → ⊥
other_length dims picks other inside = other (inside_length dims picks inside)

pub length-picked : (pick : Pick) → length (picked pick) ≡ pick_length pick
length-picked (One i) = refl
length-picked (Many span) = length-span_items span

pub picked_at : (pick : Pick) (k : ℕ) (d : ℤ) → k < pick_length pick → get_or (picked pick) k d ≡ pick_first pick +ℤ pos k
picked_at (One i) zero d below = omega (arith, ints)
picked_at (One i) (suc k) d below = absurd (omega arith)
picked_at (Many span) k d below = item_at span k d below

-- a pick that takes a number, and numbers of the dimension alone, is a window
pub window_inside : (size : ℕ) (pick : Pick) → All (λ i. (pos 1 ≤ℤ i) × (i ≤ℤ pos size)) (picked pick) → 1 ≤ pick_length pick → IsWindow size pick
window_inside size pick inside some =
    let count = length-picked pick in
    let front = inside 0 (pos 0) (omega arith) in
    let back = inside (pick_length pick - 1) (pos 0) (omega arith) in
    let at_front = picked_at pick 0 (pos 0) (omega arith) in
    let at_back = picked_at pick (pick_length pick - 1) (pos 0) (omega arith) in
    record { from = omega (arith, ints, front.0); some = some; within = omega (arith, ints, front.0, back.1) }

pub windows_inside : (dims : List ℕ) (picks : List Pick) → AreInside dims picks → All (λ pick. 1 ≤ pick_length pick) picks → AreWindows dims picks
windows_inside [] [] inside some = tt
windows_inside [] (p ∷ picks) inside some = absurd inside
windows_inside (d ∷ dims) [] inside some = absurd inside
windows_inside (d ∷ dims) (p ∷ picks) inside some = (
  window_inside d p inside.0 (All-head (λ pick. 1 ≤ pick_length pick) p picks some),
  windows_inside dims picks inside.1 (All-tail (λ pick. 1 ≤ pick_length pick) p picks some),
)

-- a pick takes no more numbers than the dimension has
pub length_inside : (size : ℕ) (pick : Pick) → All (λ i. (pos 1 ≤ℤ i) × (i ≤ℤ pos size)) (picked pick) → pick_length pick ≤ size
length_inside size pick inside = elim (cases_lt 0 (pick_length pick)) [
  | inl some ↦ (let window = window_inside size pick inside (omega arith) in omega (arith, window.within))
  | inr none ↦ omega arith
]

-- numbers in a row that are shifted
shifted : (g : ℕ → ℕ) (a s n : ℕ) → ((k : ℕ) → g k ≡ a + k) → map g (range_with_len s n) ≡ range_with_len (a + s) n
shifted g a s zero is = refl
shifted g a s (suc n) is =
    let rest : map g (range_with_len (s + 1) n) ≡ range_with_len (a + s + 1) n =
    shifted g a (s + 1) n is ∙ ap (λ (m : ℕ). range_with_len m n) (sym (add_assoc a s 1)) in
    ap (λ (x : ℕ). x ∷ map g (range_with_len (s + 1) n)) (is s) ∙ ap (λ (xs : List ℕ). (a + s) ∷ xs) rest

pub map_flat : {A B C : Type 0} (g : B → C) (f : A → List B) (xs : List A) → map g (flat_map f xs) ≡ flat_map (λ x. map g (f x)) xs
map_flat g f [] = refl
map_flat g f (x ∷ xs) = map-append g (f x) (flat_map f xs) ∙ ap (λ ys. map g (f x) ++ ys) (map_flat g f xs)

pub flat_same : {A B : Type 0} (f g : A → List B) (xs : List A) → ((x : A) → f x ≡ g x) → flat_map f xs ≡ flat_map g xs
flat_same f g [] same = refl
flat_same f g (x ∷ xs) same = ap (λ y. y ++ flat_map f xs) (same x) ∙ ap (λ ys. g x ++ ys) (flat_same f g xs same)

-- the places of the numbers of a pick
pub along_items : (size : ℕ) (pick : Pick) (place : ℕ) → IsWindow size pick → map (λ i. offset i + size * place) (picked pick) ≡ places_along size pick place
along_items size (One i) place window = ap (λ (x : ℕ). x ∷ []) (omega arith)
along_items size (Many span) place window =
    let from = window.from in
    map-map (λ i. offset i + size * place) (λ n. span.first +ℤ pos n) (range_with_len 0 (span_length span))
    ∙ shifted (λ n. offset (span.first +ℤ pos n) + size * place) (place * size + offset span.first) 0 (span_length span) (λ k. omega (arith, ints))
    ∙ ap (λ (a : ℕ). range_with_len a (span_length span)) (omega arith)

pub places_of_indexes : (dims : List ℕ) (picks : List Pick) → AreWindows dims picks → map (place_of dims) (picked_indexes picks) ≡ places dims picks (0 ∷ [])
places_of_indexes [] [] windows = refl
places_of_indexes [] (p ∷ picks) windows = absurd windows
places_of_indexes (d ∷ dims) [] windows = absurd windows
places_of_indexes (d ∷ dims) (p ∷ picks) windows =
    map_flat (place_of (d ∷ dims)) (λ index. map (λ i. i ∷ index) (picked p)) (picked_indexes picks)
    ∙ flat_same (λ index. map (place_of (d ∷ dims)) (map (λ i. i ∷ index) (picked p))) (λ index. places_along d p (place_of dims index)) (picked_indexes picks)
    (λ index. map-map (place_of (d ∷ dims)) (λ i. i ∷ index) (picked p) ∙ along_items d p (place_of dims index) windows.0)
    ∙ sym (flat_map-map (places_along d p) (place_of dims) (picked_indexes picks))
    ∙ ap (λ (ps : List ℕ). flat_map (places_along d p) ps) (places_of_indexes dims picks windows.1)

pub cells_of_indexes : (array : Shaped) (picks : List Pick) → AreWindows array.dims picks →
    map (λ place. get_or array.cells place (pos 0)) (places array.dims picks (0 ∷ [])) ≡ map (cell_at array) (picked_indexes picks)
cells_of_indexes array picks windows =
    ap (λ (ps : List ℕ). map (λ place. get_or array.cells place (pos 0)) ps) (sym (places_of_indexes array.dims picks windows))
    ∙ map-map (λ place. get_or array.cells place (pos 0)) (place_of array.dims) (picked_indexes picks)

nothing_flat : {A B : Type 0} (f : A → List B) (xs : List A) → ((x : A) → f x ≡ []) → flat_map f xs ≡ []
nothing_flat f [] none = refl
nothing_flat f (x ∷ xs) none = ap (λ y. y ++ flat_map f xs) (none x) ∙ nothing_flat f xs none

-- where a pick takes no number, no index is picked
pub nothing_picked : (picks : List Pick) → (All (λ pick. 1 ≤ pick_length pick) picks → ⊥) → picked_indexes picks ≡ []
nothing_picked [] none = absurd (none (All-nil (λ pick. 1 ≤ pick_length pick)))
nothing_picked (p ∷ picks) none = elim (cases_lt 0 (pick_length p)) [
  | inl some ↦ ap (λ (is : List (List ℤ)). flat_map (λ index. map (λ i. i ∷ index) (picked p)) is)
      (nothing_picked picks (λ rest. none (All-cons (λ pick. 1 ≤ pick_length pick) p picks some rest)))
  | inr empty ↦ nothing_flat (λ index. map (λ i. i ∷ index) (picked p)) (picked_indexes picks)
      (λ index. ap (λ (is : List ℤ). map (λ i. i ∷ index) is) (nil_from_length (picked p) (omega (arith, length-picked p))))
]

pub length_flat : {A B : Type 0} (f : A → List B) (xs : List A) (n : ℕ) → ((x : A) → length (f x) ≡ n) → length (flat_map f xs) ≡ n * length xs
length_flat f [] n each = omega arith
length_flat f (x ∷ xs) n each = omega (arith, length-append (f x) (flat_map f xs), each x, length_flat f xs n each)

-- there are as many picked indexes as the dimensions that are left have
pub product_picked : (picks : List Pick) → product (picked_dims picks) ≡ length (picked_indexes picks)
product_picked [] = refl
product_picked (One i ∷ picks) =
    omega (arith, product_picked picks, length_flat (λ index. map (λ j. j ∷ index) (i ∷ [])) (picked_indexes picks) 1 (λ index. refl))
product_picked (Many span ∷ picks) =
    let rest = product_picked picks in
    let all = length_flat (λ index. map (λ j. j ∷ index) (span_items span)) (picked_indexes picks) (span_length span)
    (λ index. length-map (span_items span) (λ j. j ∷ index) ∙ length-span_items span) in
    ap (λ (n : ℕ). span_length span * n) rest ∙ sym all

-- the dimensions that are left are those of an array
pub few_left : (picks : List Pick) → length (picked_dims picks) ≤ length picks
few_left [] = omega arith
few_left (One i ∷ picks) = omega (arith, few_left picks)
few_left (Many span ∷ picks) = omega (arith, few_left picks)

pub short_left : (dims : List ℕ) (picks : List Pick) → AreInside dims picks → All (λ size. size ≤ 262144) dims → All (λ size. size ≤ 262144) (picked_dims picks)
short_left [] [] inside short = short
short_left [] (p ∷ picks) inside short = absurd inside
short_left (d ∷ dims) [] inside short = absurd inside
short_left (d ∷ dims) (One i ∷ picks) inside short = short_left dims picks inside.1 (All-tail (λ size. size ≤ 262144) d dims short)
short_left (d ∷ dims) (Many span ∷ picks) inside short =
    All-cons (λ size. size ≤ 262144) (span_length span) (picked_dims picks)
    (omega (arith, length_inside d (Many span) inside.0, All-head (λ size. size ≤ 262144) d dims short))
    (short_left dims picks inside.1 (All-tail (λ size. size ≤ 262144) d dims short))

pub dims_left : (dims : List ℕ) (picks : List Pick) → IsDims dims → AreInside dims picks → 1 ≤ length (picked_dims picks) → IsDims (picked_dims picks)
dims_left dims picks valid inside some = record {
  some = some;
  few = omega (arith, few_left picks, inside_length dims picks inside, valid.few);
  short = short_left dims picks inside valid.short;
}

-- one pick more
pub kept_one : (picks : List Pick) (k : ℕ) (pick : Pick) (i : ℤ) → k < length picks → pick ≡ get_or picks k pick → pick ≡ One i →
    picked_dims (drop k picks) ≡ picked_dims (drop (k + 1) picks)
kept_one picks k pick i below is one =
    ap (λ (ps : List Pick). picked_dims ps) (drop_more picks k pick below ∙ ap (λ (p : Pick). p ∷ drop (k + 1) picks) (sym is ∙ one))

pub kept_many : (picks : List Pick) (k : ℕ) (pick : Pick) (span : Ends) → k < length picks → pick ≡ get_or picks k pick → pick ≡ Many span →
    picked_dims (drop k picks) ≡ span_length span ∷ picked_dims (drop (k + 1) picks)
kept_many picks k pick span below is many =
    ap (λ (ps : List Pick). picked_dims ps) (drop_more picks k pick below ∙ ap (λ (p : Pick). p ∷ drop (k + 1) picks) (sym is ∙ many))

pub inside_at : (dims : List ℕ) (picks : List Pick) (k : ℕ) (e : Pick) → AreInside dims picks → k < length picks →
    All (λ i. (pos 1 ≤ℤ i) × (i ≤ℤ pos (get_or dims k 0))) (picked (get_or picks k e))
inside_at [] [] k e inside below = absurd (omega arith)
inside_at [] (p ∷ picks) k e inside below = absurd inside
inside_at (d ∷ dims) [] k e inside below = absurd inside
inside_at (d ∷ dims) (p ∷ picks) zero e inside below = inside.0
inside_at (d ∷ dims) (p ∷ picks) (suc k) e inside below = inside_at dims picks k e inside.1 (omega arith)

short_at : (dims : List ℕ) (k : ℕ) → All (λ size. size ≤ 262144) dims → get_or dims k 0 ≤ 262144
short_at [] k short = omega arith
short_at (d ∷ dims) zero short = All-head (λ size. size ≤ 262144) d dims short
short_at (d ∷ dims) (suc k) short = short_at dims k (All-tail (λ size. size ≤ 262144) d dims short)

-- a range that is picked has no more numbers than a dimension
pub short_span : (dims : List ℕ) (picks : List Pick) (k : ℕ) (pick : Pick) (span : Ends) → IsDims dims → AreInside dims picks → k < length picks →
    pick ≡ get_or picks k pick → pick ≡ Many span → span_length span ≤ 262144
short_span dims picks k pick span valid inside below is many =
    let within : All (λ i. (pos 1 ≤ℤ i) × (i ≤ℤ pos (get_or dims k 0))) (picked (Many span)) =
    subst (λ (p : Pick). All (λ i. (pos 1 ≤ℤ i) × (i ≤ℤ pos (get_or dims k 0))) (picked p)) (sym is ∙ many) (inside_at dims picks k pick inside below) in
    omega (arith, length_inside (get_or dims k 0) (Many span) within, short_at dims k valid.short)

-- a length in its place
pub kept_more : (sizes all rest next : List ℕ) (count size : ℕ) → count < length sizes → take count sizes ++ rest ≡ all → rest ≡ size ∷ next →
    take (count + 1) (set sizes count size) ++ next ≡ all
kept_more sizes all rest next count size room is first =
    ap (λ (xs : List ℕ). xs ++ next) (take_more_set sizes count size room) ∙ append_assoc (take count sizes) (size ∷ []) next
    ∙ ap (λ (xs : List ℕ). take count sizes ++ xs) (sym first) ∙ is

pub kept_all : (picks : List Pick) (sizes : List ℕ) (count k : ℕ) → length picks ≤ k → take count sizes ++ picked_dims (drop k picks) ≡ picked_dims picks →
    take count sizes ≡ picked_dims picks
kept_all picks sizes count k end is =
    sym (append-nil (take count sizes)) ∙ ap (λ (ps : List Pick). take count sizes ++ picked_dims ps) (sym (drop_all k picks end)) ∙ is

-- rows at these places are rows of the array
pub rows_inside : (dims : List ℕ) (picks : List Pick) (cells : List ℤ) (rows : List ℕ) → AreWindows dims picks → 1 ≤ length dims → product dims ≡ length cells →
    rows ≡ places (drop 1 dims) (drop 1 picks) (0 ∷ []) → All (λ row. (row + 1) * get_or dims 0 0 ≤ length cells) rows
rows_inside dims picks cells rows windows some whole is =
    All-same (λ (row : ℕ). (row + 1) * get_or dims 0 0 ≤ length cells) _ _ is
    (All-weaker (λ (row : ℕ). (row + 1) * get_or dims 0 0 ≤ product dims) (λ (row : ℕ). (row + 1) * get_or dims 0 0 ≤ length cells)
    (λ row below. omega (arith, whole)) _ (rows_fit dims picks 1 windows (omega arith) some))

-- the cells that were found at the places are those of the indexes
pub cells_found : {E : Type 0} (array : Shaped) (picks : List Pick) (dims : List ℕ) (cells : List ℤ) (found : Result (Vec ℤ Global) E) → AreWindows array.dims picks →
    dims ≡ array.dims → cells ≡ array.cells → IfOk found (λ out. out.items ≡ map (λ place. get_or cells place (pos 0)) (places dims picks (0 ∷ []))) →
    IfOk found (λ out. out.items ≡ map (cell_at array) (picked_indexes picks))
cells_found array picks dims cells (Err e) windows same_dims same_cells is = tt
cells_found array picks dims cells (Ok out) windows same_dims same_cells is =
    is ∙ ap (λ (cs : List ℤ). map (λ place. get_or cs place (pos 0)) (places dims picks (0 ∷ []))) same_cells
    ∙ ap (λ (ds : List ℕ). map (λ place. get_or array.cells place (pos 0)) (places ds picks (0 ∷ []))) same_dims
    ∙ cells_of_indexes array picks windows

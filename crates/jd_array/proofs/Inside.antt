-- Indexes inside an array, and their places.
use Rattle.std.proofs.Common.{ℕ, zero, suc, ◌+◌, ◌-◌, ◌*◌, ◌<◌, ◌≤◌, ◌≡◌, ◌≢◌, ℤ, pos, ◌≤ℤ◌, List, [], ◌∷◌, length, drop, get_or, refl, sym, subst, ap, ◌∙◌, arith}
use Rattle.std.proofs.lemmas.Int.{ints}
use Rattle.std.proofs.Math.Nat.{mul-le-mul_left, mul-le-mul_right}
use Rattle.std.proofs.lemmas.List.{drop_more}
use Rattle.jd_value.specs.Array.{IsInside, offset, place_of, product}

pub inside_length : (dims : List ℕ) (index : List ℤ) → IsInside dims index → length dims ≡ length index
inside_length [] [] inside = refl
inside_length (size ∷ dims) (i ∷ index) inside = ap (λ (n : ℕ). suc n) (inside_length dims index inside.2)
inside_length [] (i ∷ index) inside = absurd inside
inside_length (size ∷ dims) [] inside = absurd inside

pub inside_drop : (dims : List ℕ) (index : List ℤ) (k : ℕ) → IsInside dims index → IsInside (drop k dims) (drop k index)
inside_drop dims index zero inside = inside
inside_drop [] [] (suc k) inside = inside
inside_drop (size ∷ dims) (i ∷ index) (suc k) inside = inside_drop dims index k inside.2
inside_drop [] (i ∷ index) (suc k) inside = absurd inside
inside_drop (size ∷ dims) [] (suc k) inside = absurd inside

-- the first number of an index, and the rest
pub inside_first : (dims ds : List ℕ) (index is : List ℤ) (size : ℕ) (i : ℤ) → dims ≡ size ∷ ds → index ≡ i ∷ is → IsInside dims index → IsInside (size ∷ ds) (i ∷ is)
inside_first dims ds index is size i e f inside =
    subst (λ (t : List ℤ). IsInside (size ∷ ds) t) f (subst (λ (d : List ℕ). IsInside d index) e inside)

pub inside_back : (dims ds : List ℕ) (index is : List ℤ) (size : ℕ) (i : ℤ) → dims ≡ size ∷ ds → index ≡ i ∷ is → IsInside (size ∷ ds) (i ∷ is) → IsInside dims index
inside_back dims ds index is size i e f inside =
    subst (λ (t : List ℤ). IsInside dims t) (sym f) (subst (λ (d : List ℕ). IsInside d (i ∷ is)) (sym e) inside)

-- an offset is below the length of its dimension
pub offset_below : (size : ℕ) (i : ℤ) → pos 1 ≤ℤ i → i ≤ℤ pos size → offset i < size
offset_below size i from to = omega (arith, ints)

pub place_below : (dims : List ℕ) (index : List ℤ) → IsInside dims index → place_of dims index < product dims
place_below [] [] inside = omega arith
place_below (size ∷ dims) (i ∷ index) inside =
    let below = place_below dims index inside.2 in
    omega (arith, offset_below size i inside.0 inside.1, mul-le-mul_left {m = suc (place_of dims index)} {n = product dims} size below)
place_below [] (i ∷ index) inside = absurd inside
place_below (size ∷ dims) [] inside = absurd inside

-- an array with a cell has at least one behind each axis
pub product_drop : (dims : List ℕ) (index : List ℤ) (k : ℕ) → IsInside dims index → product (drop k dims) ≤ product dims
product_drop dims index zero inside = omega arith
product_drop [] [] (suc k) inside = omega arith
product_drop (size ∷ dims) (i ∷ index) (suc k) inside =
    let rest = product_drop dims index k inside.2 in
    omega (arith, offset_below size i inside.0 inside.1, mul-le-mul_right {m = 1} {n = size} (product dims) (omega (arith, offset_below size i inside.0 inside.1)))
product_drop [] (i ∷ index) (suc k) inside = absurd inside
product_drop (size ∷ dims) [] (suc k) inside = absurd inside

-- one axis more from the back
pub drop_before : {X : Type 0} → (xs : List X) (a : ℕ) (d : X) → 0 < a → a ≤ length xs → drop (a - 1) xs ≡ get_or xs (a - 1) d ∷ drop a xs
drop_before xs a d some below =
    drop_more xs (a - 1) d (omega arith) ∙ ap (λ (n : ℕ). get_or xs (a - 1) d ∷ drop n xs) (omega arith)

-- the numbers of an index at an axis, and behind it
pub inside_before : (dims : List ℕ) (index : List ℤ) (a : ℕ) → IsInside dims index → 0 < a → a ≤ length dims →
    IsInside (get_or dims (a - 1) 0 ∷ drop a dims) (get_or index (a - 1) (pos 0) ∷ drop a index)
inside_before dims index a inside some below =
    let same = inside_length dims index inside in
    inside_first (drop (a - 1) dims) (drop a dims) (drop (a - 1) index) (drop a index) _ _
    (drop_before dims a 0 some below) (drop_before index a (pos 0) some (omega arith)) (inside_drop dims index (a - 1) inside)

pub place_before : (dims : List ℕ) (index : List ℤ) (a place : ℕ) → IsInside dims index → 0 < a → a ≤ length dims → place ≡ place_of (drop a dims) (drop a index) →
    place * get_or dims (a - 1) 0 + offset (get_or index (a - 1) (pos 0)) ≡ place_of (drop (a - 1) dims) (drop (a - 1) index)
place_before dims index a place inside some below e =
    let same = inside_length dims index inside in
    subst (λ (n : ℕ). n * get_or dims (a - 1) 0 + offset (get_or index (a - 1) (pos 0)) ≡ place_of (drop (a - 1) dims) (drop (a - 1) index)) (sym e)
    (rw (drop_before dims a 0 some below, drop_before index a (pos 0) some (omega arith)) (omega arith))

-- a place that is reached from behind is one of the array
pub place_fits : (dims : List ℕ) (index : List ℤ) (a place : ℕ) → IsInside dims index → place ≡ place_of (drop a dims) (drop a index) → place < product dims
place_fits dims index a place inside e =
    omega (arith, e, place_below (drop a dims) (drop a index) (inside_drop dims index a inside), product_drop dims index a inside)

-- an index with another number of dimensions is outside
pub outside_by_length : (dims : List ℕ) (index : List ℤ) → length dims ≢ length index → IsInside dims index → ⊥
outside_by_length dims index other inside = other (inside_length dims index inside)

-- the numbers of an index at an axis, and behind it
pub inside_more : (dims : List ℕ) (index : List ℤ) (k : ℕ) → k < length dims → k < length index → IsInside (drop k dims) (drop k index) →
    (pos 1 ≤ℤ get_or index k (pos 0)) × (get_or index k (pos 0) ≤ℤ pos (get_or dims k 0)) × IsInside (drop (k + 1) dims) (drop (k + 1) index)
inside_more dims index k below short inside =
    inside_first (drop k dims) (drop (k + 1) dims) (drop k index) (drop (k + 1) index) _ _ (drop_more dims k 0 below) (drop_more index k (pos 0) short) inside

pub inside_join : (dims : List ℕ) (index : List ℤ) (k : ℕ) → k < length dims → k < length index →
    pos 1 ≤ℤ get_or index k (pos 0) → get_or index k (pos 0) ≤ℤ pos (get_or dims k 0) → IsInside (drop (k + 1) dims) (drop (k + 1) index) →
    IsInside (drop k dims) (drop k index)
inside_join dims index k below short from to rest =
    inside_back (drop k dims) (drop (k + 1) dims) (drop k index) (drop (k + 1) index) _ _ (drop_more dims k 0 below) (drop_more index k (pos 0) short) (from, to, rest)

-- Tests of indexes against what arrays answer.
use Rattle.std.proofs.Common.{◌≡◌, ℕ, ◌≤◌, ℤ, pos, ◌≤ℤ◌, Bool, true, false, List, [], ◌∷◌, length, All, refl, arith}
use Rattle.std.specs.Prelude.{int_le, ◌&&◌}
use Rattle.std.proofs.lemmas.Bool.{false≢true}
use Rattle.std.proofs.lemmas.Grind.{common_steps}
use Rattle.std.proofs.lemmas.List.Elements.{All-nil, All-cons, All-head, All-tail}
use Rattle.jd_value.specs.Array.{IsInside}
use Rattle.jd_array.specs.declared.slices.Pick.{Pick}
use Rattle.jd_array.specs.declared.slices.Pick.TheVariants.{One, Many}
use Rattle.jd_array.specs.Slice.{picked, picked_dims, AreInside}
use Rattle.jd_expr.specs.Cells.{is_number_in, is_cell, all_in, are_picks, has_range}

abbrev Within : ℕ → ℤ → Type 0
Within size i = (pos 1 ≤ℤ i) × (i ≤ℤ pos size)

both_true : (a b : Bool) → a ≡ true → b ≡ true → (a && b) ≡ true
both_true a b x y = cc

front_true : (a b : Bool) → (a && b) ≡ true → a ≡ true
front_true true b h = refl
front_true false b h = h

back_true : (a b : Bool) → (a && b) ≡ true → b ≡ true
back_true true b h = h
back_true false b h = absurd (false≢true h)

number_test : (size : ℕ) (i : ℤ) → Within size i → is_number_in size i ≡ true
number_test size i h =
    let from : pos 1 ≤ℤ i = h.0 in
    let to : i ≤ℤ pos size = h.1 in
    grind (arith, common_steps)

test_number : (size : ℕ) (i : ℤ) → is_number_in size i ≡ true → Within size i
test_number size i h =
    let from = front_true (int_le (pos 1) i) (int_le i (pos size)) h in
    let to = back_true (int_le (pos 1) i) (int_le i (pos size)) h in
    (grind (arith, common_steps), grind (arith, common_steps))

pub cell_test : (dims : List ℕ) (index : List ℤ) → IsInside dims index → is_cell dims index ≡ true
cell_test [] [] h = refl
cell_test [] (i ∷ index) h = absurd h
cell_test (size ∷ dims) [] h = absurd h
cell_test (size ∷ dims) (i ∷ index) h = both_true (is_number_in size i) (is_cell dims index) (number_test size i (h.0, h.1)) (cell_test dims index h.2)

pub test_cell : (dims : List ℕ) (index : List ℤ) → is_cell dims index ≡ true → IsInside dims index
test_cell [] [] h = tt
test_cell [] (i ∷ index) h = absurd (false≢true h)
test_cell (size ∷ dims) [] h = absurd (false≢true h)
test_cell (size ∷ dims) (i ∷ index) h =
    let here = test_number size i (front_true (is_number_in size i) (is_cell dims index) h) in
    (here.0, here.1, test_cell dims index (back_true (is_number_in size i) (is_cell dims index) h))

all_test : (size : ℕ) (is : List ℤ) → All (Within size) is → all_in size is ≡ true
all_test size [] h = refl
all_test size (i ∷ is) h =
    both_true (is_number_in size i) (all_in size is) (number_test size i (All-head (Within size) i is h)) (all_test size is (All-tail (Within size) i is h))

test_all : (size : ℕ) (is : List ℤ) → all_in size is ≡ true → All (Within size) is
test_all size [] h = All-nil (Within size)
test_all size (i ∷ is) h =
    All-cons (Within size) i is (test_number size i (front_true (is_number_in size i) (all_in size is) h))
    (test_all size is (back_true (is_number_in size i) (all_in size is) h))

pub picks_test : (dims : List ℕ) (picks : List Pick) → AreInside dims picks → are_picks dims picks ≡ true
picks_test [] [] h = refl
picks_test [] (p ∷ picks) h = absurd h
picks_test (size ∷ dims) [] h = absurd h
picks_test (size ∷ dims) (p ∷ picks) h = both_true (all_in size (picked p)) (are_picks dims picks) (all_test size (picked p) h.0) (picks_test dims picks h.1)

pub test_picks : (dims : List ℕ) (picks : List Pick) → are_picks dims picks ≡ true → AreInside dims picks
test_picks [] [] h = tt
test_picks [] (p ∷ picks) h = absurd (false≢true h)
test_picks (size ∷ dims) [] h = absurd (false≢true h)
test_picks (size ∷ dims) (p ∷ picks) h =
    (test_all size (picked p) (front_true (all_in size (picked p)) (are_picks dims picks) h), test_picks dims picks (back_true (all_in size (picked p)) (are_picks dims picks) h))

-- a test that what can't be would have passed
failed : {P : Type 0} (b : Bool) → (b ≡ true → P) → (P → ⊥) → b ≡ false
failed true to not = absurd (not (to refl))
failed false to not = refl

pub no_cell : (dims : List ℕ) (index : List ℤ) → (IsInside dims index → ⊥) → is_cell dims index ≡ false
no_cell dims index outside = failed (is_cell dims index) (test_cell dims index) outside

pub cell_is : (dims : List ℕ) (index : List ℤ) → IsInside dims index → is_cell dims index ≡ true
cell_is = cell_test

pub no_slice : (dims : List ℕ) (picks : List Pick) → (AreInside dims picks → ⊥) → are_picks dims picks ≡ false
no_slice dims picks outside = failed (are_picks dims picks) (test_picks dims picks) outside

pub slice_is : (dims : List ℕ) (picks : List Pick) → AreInside dims picks → are_picks dims picks ≡ true
slice_is = picks_test

-- a range leaves a dimension
pub some_dimension : (picks : List Pick) → has_range picks ≡ true → 1 ≤ length (picked_dims picks)
some_dimension [] range = absurd (false≢true range)
some_dimension (One i ∷ picks) range = some_dimension picks range
some_dimension (Many span ∷ picks) range = omega arith

-- What a pick of indexes takes of an array.
use Rattle.std.specs.Prelude.{ℕ, ◌≡◌, ℤ, pos, ◌+ℤ◌, ◌-ℤ◌, ◌≤ℤ◌, List, [], ◌∷◌, map, All}
use Rattle.std.specs.List.{flat_map}
use Rattle.jd_value.specs.Span.{span_length, span_items}
use Rattle.jd_value.specs.Array.{Shaped, IsInside, cell_at}
use Rattle.jd_array.specs.declared.slices.Pick.{Pick}
use Rattle.jd_array.specs.declared.slices.Pick.TheVariants.{One, Many}
use Rattle.jd_array.specs.declared.fault.ArrayFault.{ArrayFault}
use Rattle.jd_array.specs.declared.fault.ArrayFault.TheVariants.{Bounds, Argument, OutOfMemory}

-- the numbers that a pick takes of its dimension
abbrev pub picked : Pick → List ℤ
picked (One i) = i ∷ []
picked (Many span) = span_items span

-- the indexes that picks take, the first dimension running fastest
abbrev pub picked_indexes : List Pick → List (List ℤ)
picked_indexes [] = [] ∷ []
picked_indexes (pick ∷ picks) = flat_map (λ index. map (λ i. i ∷ index) (picked pick)) (picked_indexes picks)

-- the dimensions that are left: one index drops its dimension
abbrev pub picked_dims : List Pick → List ℕ
picked_dims [] = []
picked_dims (One i ∷ picks) = picked_dims picks
picked_dims (Many span ∷ picks) = span_length span ∷ picked_dims picks

-- there is a pick for each dimension, and it takes numbers of the dimension alone
abbrev pub AreInside : List ℕ → List Pick → Type 0
AreInside [] [] = Unit {0}
AreInside (size ∷ dims) (pick ∷ picks) = All (λ i. (pos 1 ≤ℤ i) × (i ≤ℤ pos size)) (picked pick) × AreInside dims picks
AreInside _ _ = ⊥

-- the array of the picked cells
abbrev pub sliced : Shaped → List Pick → Shaped
sliced array picks = record { dims = picked_dims picks; cells = map (cell_at array) (picked_indexes picks) }

-- the slice that is asked for, where it may be had
pub record IsSliceOf (array : Shaped) (picks : List Pick) (part : Shaped) : Type 0 where
  pub inside : AreInside array.dims picks
  pub is : part ≡ sliced array picks

-- the index in the array of an index of the slice
abbrev pub source_index : List Pick → List ℤ → List ℤ
source_index (One i ∷ picks) index = i ∷ source_index picks index
source_index (Many span ∷ picks) (j ∷ index) = (span.first +ℤ (j -ℤ pos 1)) ∷ source_index picks index
source_index _ _ = []

-- cell by cell, a slice is the array at the indexes that the picks make of its own
abbrev pub IsSliceByIndex : Shaped → List Pick → Type 0
IsSliceByIndex array picks =
    (index : List ℤ) → IsInside (picked_dims picks) index →
    IsInside array.dims (source_index picks index) × (cell_at (sliced array picks) index ≡ cell_at array (source_index picks index))

-- when an array has no such slice
abbrev pub IsUnsliced : Shaped → List Pick → ArrayFault → Type 0
IsUnsliced array picks Bounds = ¬ AreInside array.dims picks
IsUnsliced array picks Argument = ⊥
IsUnsliced array picks OutOfMemory = AreInside array.dims picks

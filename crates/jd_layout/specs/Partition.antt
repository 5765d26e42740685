-- What every layout does with an array.
use Rattle.std.specs.Prelude.{ℕ, ◌<◌, ◌≡◌, ℤ, pos, List, map, length, slice_index_or, filter_map}
use Rattle.std.specs.List.{range_with_len}
use Rattle.jd_value.specs.Array.{Shaped, cell_at, product}
use Rattle.jd_array.specs.Slice.{sliced}
use Rattle.jd_array.specs.declared.slices.Pick.TheVariants.{Many}
use Rattle.jd_array.specs.declared.fold.Reducer.{Reducer}
use Rattle.jd_array.specs.Fold.{combined, reduced}
use Rattle.jd_layout.specs.Blocks.{IsIndex, LiesIn, IsLocated, part_ranges}

-- each index lies in exactly one part, and no part reaches outside the array
pub record IsPartition (dims dist : List ℕ) : Type 0 where
  pub held : (index : List ℕ) → IsIndex dims index → (part : ℕ) × (part < product dist) × LiesIn (part_ranges dims dist part) index
  pub once : (index : List ℕ) (p q : ℕ) → p < product dist → q < product dist →
      LiesIn (part_ranges dims dist p) index → LiesIn (part_ranges dims dist q) index → p ≡ q
  pub within : (index : List ℕ) (part : ℕ) → part < product dist → LiesIn (part_ranges dims dist part) index → IsIndex dims index

-- the cells of a part: the slice of the array by the part's ranges
abbrev pub part_cells : Shaped → List ℕ → ℕ → List ℤ
part_cells whole dist part = (sliced whole (map Many (part_ranges whole.dims dist part))).cells

-- a part has the cell of an index at the place of the index
pub record HasCell (whole : Shaped) (dist index : List ℕ) (part place : ℕ) : Type 0 where
  pub inside : place < length (part_cells whole dist part)
  pub same : slice_index_or (part_cells whole dist part) place (pos 0) ≡ cell_at whole (map pos index)

-- an array whose cells are those of the parts, each taken from its part at its place
pub record IsGathered (whole : Shaped) (dist : List ℕ) (gathered : Shaped) : Type 0 where
  pub dims : gathered.dims ≡ whole.dims
  pub size : length gathered.cells ≡ product whole.dims
  pub cells : (index : List ℕ) → IsIndex whole.dims index → (part place : ℕ) → IsLocated whole.dims dist index part place →
      cell_at gathered (map pos index) ≡ slice_index_or (part_cells whole dist part) place (pos 0)

-- the folds of the parts that have a cell, by rising part
abbrev pub folds_of_parts : Reducer → Shaped → List ℕ → List ℤ
folds_of_parts op whole dist = filter_map (λ part. reduced (combined op) (part_cells whole dist part)) (range_with_len 0 (product dist))

-- Indexing of grids, with an index for each dimension.
use Rattle.std.specs.Prelude.{ℕ, ℤ, pos, int_le, Bool, true, false, ◌&&◌, List, [], ◌∷◌, map, if◌then◌else◌}
use Rattle.jd_value.specs.Array.{Shaped, cell_at}
use Rattle.jd_value.specs.declared.fault.Fault.TheVariants.{Bounds}
use Rattle.jd_value.specs.declared.value.Value.{Value}
use Rattle.jd_value.specs.declared.value.Value.TheVariants.{Int, Range, List as Listed, Grid}
use Rattle.jd_array.specs.declared.slices.Pick.{Pick}
use Rattle.jd_array.specs.declared.slices.Pick.TheVariants.{One, Many}
use Rattle.jd_array.specs.Places.{pick_first}
use Rattle.jd_array.specs.Slice.{picked, sliced}
use Rattle.jd_expr.specs.Action.{Action, fail, pure}
use Rattle.jd_expr.specs.Limits.{made}

-- one of the numbers from 1 to the length of a dimension
abbrev pub is_number_in : ℕ → ℤ → Bool
is_number_in size i = int_le (pos 1) i && int_le i (pos size)

-- a number for each dimension
abbrev pub is_cell : List ℕ → List ℤ → Bool
is_cell [] [] = true
is_cell (size ∷ dims) (i ∷ index) = is_number_in size i && is_cell dims index
is_cell _ _ = false

-- a number takes one index of its dimension, and a range those of the range
abbrev pub pick_of : Value → Pick
pick_of (Int i) = One i
pick_of (Range span) = Many span
pick_of _ = One (pos 0)

abbrev pub all_in : ℕ → List ℤ → Bool
all_in size [] = true
all_in size (i ∷ is) = is_number_in size i && all_in size is

-- a pick for each dimension, of indexes of the dimension alone
abbrev pub are_picks : List ℕ → List Pick → Bool
are_picks [] [] = true
are_picks (size ∷ dims) (pick ∷ picks) = all_in size (picked pick) && are_picks dims picks
are_picks _ _ = false

-- an array with one dimension is a list
abbrev pub value_by : List ℕ → Shaped → Value
value_by (n ∷ []) array = Listed (map Int array.cells)
value_by _ array = Grid array

abbrev pub array_value : Shaped → Value
array_value array = value_by array.dims array

unfoldable pub cell_answered : Shaped → List ℤ → Action ℕ Value
cell_answered array index = if is_cell array.dims index then pure (Int (cell_at array index)) else fail Bounds

unfoldable pub slice_made : Shaped → List Pick → Action ℕ Value
slice_made array picks = if are_picks array.dims picks then made (array_value (sliced array picks)) else fail Bounds

abbrev pub has_range : List Pick → Bool
has_range [] = false
has_range (One i ∷ picks) = has_range picks
has_range (Many span ∷ picks) = true

-- numbers alone give a cell; a range among them copies
abbrev pub picks_answered : Shaped → List Pick → Action ℕ Value
picks_answered array picks = if has_range picks then slice_made array picks else cell_answered array (map pick_first picks)

unfoldable pub grid_indexed : Shaped → List Value → Action ℕ Value
grid_indexed array indexes = picks_answered array (map pick_of indexes)

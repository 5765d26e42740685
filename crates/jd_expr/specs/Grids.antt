-- Grids: arrays of whole numbers, made of rows, and indexed.
use Rattle.std.specs.Prelude.{ℕ, ℤ, pos, Bool, true, ◌&&◌, nat_lt, ◌==◌, List, [], ◌∷◌, length, map, flat_map, slice_get, if◌then◌else◌, Option, Some, None}
use Rattle.std.specs.List.{range_with_len}
use Rattle.jd_value.specs.declared.fault.Fault.TheVariants.{BadType}
use Rattle.jd_value.specs.declared.value.Value.{Value, out-Value}
use Rattle.jd_value.specs.declared.value.Value.TheVariants.{Grid}
use Rattle.jd_value.specs.declared.value.Value.TheOpen as v
use Rattle.jd_value.specs.declared.value.Value.TheOpen.{Value-F}
use Rattle.jd_expr.specs.Action.{Action, fail}
use Rattle.jd_expr.specs.Collections.{are_numbers, number_of}
use Rattle.jd_expr.specs.Limits.{made}

abbrev pub row_at : Value-F Value → List Value
row_at (v.Tuple items) = items
row_at _ = []

-- the cells of a row, which is a tuple
unfoldable pub row : Value → List Value
row value = row_at (out-Value value)

-- so many cells, all of them numbers
abbrev pub is_row : ℕ → Value → Bool
is_row width value = (length (row value) == width) && are_numbers (row value)

abbrev pub are_rows : ℕ → List Value → Bool
are_rows width [] = true
are_rows width (x ∷ xs) = is_row width x && are_rows width xs

abbrev pub as_number : Option Value → ℤ
as_number (Some value) = number_of value
as_number None = pos 0

-- the cell of a row at a place, from 0
abbrev pub cell_in : ℕ → Value → ℤ
cell_in place value = as_number (slice_get (row value) place)

-- the cells of a column, the first row first
unfoldable pub column : List Value → ℕ → List ℤ
column rows place = map (cell_in place) rows

-- column by column
unfoldable pub cells_of : List Value → ℕ → List ℤ
cells_of rows width = flat_map (column rows) (range_with_len 0 width)

abbrev pub grid_made : List Value → ℕ → Action ℕ Value
grid_made rows width = made (Grid (record { dims = length rows ∷ width ∷ []; cells = cells_of rows width }))

abbrev pub width_of : List Value → ℕ
width_of [] = 0
width_of (x ∷ xs) = length (row x)

-- `[a b; c d]`: one or more rows of one positive length
abbrev pub grid_of : List Value → Action ℕ Value
grid_of rows = if nat_lt 0 (width_of rows) && are_rows (width_of rows) rows then grid_made rows (width_of rows) else fail BadType

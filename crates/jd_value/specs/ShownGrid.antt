-- The printed form of a grid.
use Rattle.std.specs.Prelude.{ℕ, ◌+◌, ◌*◌, ◌==◌, if◌then◌else◌, ℤ, pos, List, ◌++◌, length, map, get_or, slice_index_or, decimal}
use Rattle.std.specs.Fmt.{signed_decimal}
use Rattle.std.specs.List.{range_with_len}
use Rattle.jd_value.specs.Array.{Shaped}
use Rattle.jd_value.specs.Joined.{joined}
use Rattle.jd_value.specs.Words.{mark_text, word_text}
use Rattle.jd_value.specs.declared.mark.Mark.TheVariants as m
use Rattle.jd_value.specs.declared.word.Word.TheVariants as w

-- the length of a dimension, the first one being 0; a dimension that there isn't has the length 1
abbrev pub length_of : List ℕ → ℕ → ℕ
length_of dims axis = get_or dims axis 1

-- the cell in a row and a column of a slab, all from 0: rows run fastest
abbrev pub cell_of : Shaped → ℕ → ℕ → ℕ → ℤ
cell_of array slab row column =
    slice_index_or array.cells (row + length_of array.dims 0 * (column + length_of array.dims 1 * slab)) (pos 0)

abbrev pub cell_text : Shaped → ℕ → ℕ → ℕ → List ℕ
cell_text array slab row column = signed_decimal (cell_of array slab row column)

abbrev pub row_text : Shaped → ℕ → ℕ → List ℕ
row_text array slab row = joined (mark_text m.Blank) (map (cell_text array slab row) (range_with_len 0 (length_of array.dims 1)))

abbrev pub slab_text : Shaped → ℕ → List ℕ
slab_text array slab = joined (mark_text m.NextRow) (map (row_text array slab) (range_with_len 0 (length_of array.dims 0)))

abbrev pub slabs_text : Shaped → List ℕ
slabs_text array = joined (mark_text m.NextSlab) (map (slab_text array) (range_with_len 0 (length_of array.dims 2)))

abbrev pub cells_text : Shaped → List ℕ
cells_text array = mark_text m.OpenBracket ++ slabs_text array ++ mark_text m.CloseBracket

abbrev pub dims_text : List ℕ → List ℕ
dims_text dims = word_text w.Array ++ joined (mark_text m.Comma) (map decimal dims) ++ mark_text m.Close

-- a grid without cells is printed with its dimensions
abbrev pub grid_text : Shaped → List ℕ
grid_text array = if length array.cells == 0 then dims_text array.dims else cells_text array

-- Indexing of collections, from 1.
use Rattle.std.specs.Prelude.{ℕ, ℤ, pos, int_le, Bool, true, false, ◌&&◌, ◌||◌, ◌==◌, List, [], ◌∷◌, length, take, drop, slice_get, if◌then◌else◌, Option, None}
use Rattle.jd_value.specs.Array.{offset}
use Rattle.jd_value.specs.Span.{Ends, span_length}
use Rattle.jd_value.specs.declared.fault.Fault.TheVariants.{BadType, Bounds}
use Rattle.jd_value.specs.declared.value.Value.{Value, out-Value}
use Rattle.jd_value.specs.declared.value.Value.TheVariants.{Int, Range}
use Rattle.jd_value.specs.declared.value.Value.TheOpen as v
use Rattle.jd_value.specs.declared.value.Value.TheOpen.{Value-F}
use Rattle.jd_expr.specs.Action.{Action, ◌>>=◌, fail, lift}
use Rattle.jd_expr.specs.Cells.{grid_indexed}
use Rattle.jd_expr.specs.Collections.{are_numbers, inside, list_made}
use Rattle.jd_expr.specs.Limits.{answered}
use Rattle.jd_expr.specs.Ranges.{range_items}

-- an index is a number or a range
abbrev pub is_index : Value → Bool
is_index (Int i) = true
is_index (Range ends) = true
is_index _ = false

abbrev pub are_indexes : List Value → Bool
are_indexes [] = true
are_indexes (x ∷ xs) = is_index x && are_indexes xs

abbrev pub item_at : ℤ → List Value → Option Value
item_at i items = if int_le (pos 1) i then slice_get items (offset i) else None

abbrev pub item_answered : ℤ → List Value → Action ℕ Value
item_answered i items = lift (inside (item_at i items)) >>= answered

-- a range that is empty, or has numbers from 1 to the size alone
abbrev pub is_within : Ends → ℕ → Bool
is_within span size = (span_length span == 0) || (int_le (pos 1) span.first && int_le span.last (pos size))

-- the items from the first to the last of these numbers
abbrev pub part : Ends → List Value → List Value
part span items = take (span_length span) (drop (offset span.first) items)

unfoldable pub part_made : Ends → List Value → Action ℕ Value
part_made span items = if is_within span (length items) then list_made (part span items) else fail Bounds

-- by one number or by one range
abbrev pub items_indexed : List Value → List Value → Action ℕ Value
items_indexed items (Int i ∷ []) = item_answered i items
items_indexed items (Range span ∷ []) = part_made span items
items_indexed items _ = fail Bounds

-- by one number
abbrev pub tuple_indexed : List Value → List Value → Action ℕ Value
tuple_indexed items (Int i ∷ []) = item_answered i items
tuple_indexed items _ = fail Bounds

abbrev pub indexed_at : Value-F Value → List Value → Action ℕ Value
indexed_at (v.List items) indexes = if are_indexes indexes then items_indexed items indexes else fail BadType
indexed_at (v.Range ends) indexes = if are_indexes indexes then items_indexed (range_items ends) indexes else fail BadType
indexed_at (v.Tuple items) indexes = if are_numbers indexes then tuple_indexed items indexes else fail BadType
indexed_at (v.Grid array) indexes = if are_indexes indexes then grid_indexed array indexes else fail BadType
indexed_at _ indexes = fail BadType

-- `x[i, ..]`
abbrev pub indexed : List Value → Action ℕ Value
indexed [] = fail BadType
indexed (x ∷ indexes) = indexed_at (out-Value x) indexes

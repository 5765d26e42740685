-- No builtin function leaves more units than there were.
use Rattle.std.proofs.Common.{ℕ, ◌-◌, ◌≤◌, nat_lt, ℤ, pos, Bool, true, false, ◌&&◌, if◌then◌else◌, List, [], ◌∷◌, ◌++◌, length, map, replicate, Result, Ok, Err, arith}
use Rattle.std.specs.Prelude.{int_lt, unsigned_abs}
use Rattle.jd_value.specs.declared.fault.Fault.{Fault}
use Rattle.jd_value.specs.declared.fault.Fault.TheVariants as fault
use Rattle.jd_value.specs.Array.{Shaped, cell_at}
use Rattle.jd_value.specs.Span.{Ends, span_items, span_length}
use Rattle.jd_value.specs.declared.value.Value.{Value, out-Value}
use Rattle.jd_value.specs.declared.value.Value.TheVariants.{Int, Text, Range, List as Listed, Tuple, Grid, Exception}
use Rattle.jd_value.specs.declared.value.Value.TheOpen as v
use Rattle.jd_value.specs.declared.value.Value.TheOpen.{Value-F}
use Rattle.jd_value.specs.declared.builtin.Builtin.{Builtin}
use Rattle.jd_value.specs.declared.builtin.Builtin.TheVariants as b
use Rattle.jd_array.specs.Fold.{folded}
use Rattle.jd_array.specs.Places.{pick_first}
use Rattle.jd_array.specs.Slice.{sliced}
use Rattle.jd_array.specs.declared.slices.Pick.{Pick}
use Rattle.jd_array.specs.declared.fold.Reducer.{Reducer}
use Rattle.jd_array.specs.declared.fold.Reducer.TheVariants.{Add, Mul, Min, Max}
use Rattle.jd_expr.specs.Action.{Action, Ran, Done, Failed, ◌>>=◌, ◌>>◌, and_then, pure, fail, lift, units}
use Rattle.jd_expr.specs.Arithmetic.{plain}
use Rattle.jd_expr.specs.Builtins.{builtin, is_plain, reading, of_collections}
use Rattle.jd_expr.specs.Cells.{is_cell, pick_of, are_picks, array_value, cell_answered, slice_made, has_range, picks_answered, grid_indexed}
use Rattle.jd_expr.specs.Collections.{are_numbers, number_of, as_answer, totalled, values_reduced, reduced_at, reduced_by, count_at, count_value, length_of, sizes_at, dimensions_of, list_made, collected_at, collected, concatenated, array_at, array_of, inside, front_at, first_item, back_at, last_item, is_empty_at, emptiness}
use Rattle.jd_expr.specs.Grids.{width_of, are_rows, cells_of, grid_made, grid_of}
use Rattle.jd_expr.specs.Indexing.{are_indexes, item_at, item_answered, is_within, part, part_made, items_indexed, tuple_indexed, indexed_at, indexed}
use Rattle.jd_expr.specs.Limits.{element_count, within_limits, answered, made}
use Rattle.jd_expr.specs.Making.{copies_made, filled}
use Rattle.jd_expr.specs.Ranges.{between, range_items, range_of, listed, is_listed}
use Rattle.jd_expr.specs.Throwing.{identity_of, error_of, thrown}

-- no more is left than there was
abbrev pub Within : {A : Type 0} → ℕ → Ran ℕ A → Type 0
Within n (Done a m) = m ≤ n
Within n (Failed f m) = m ≤ n

pub within_le : {A : Type 0} (n m : ℕ) (r : Ran ℕ A) → n ≤ m → Within n r → Within m r
within_le n m (Done a k) h w = omega (arith, h, w)
within_le n m (Failed f k) h w = omega (arith, h, w)

-- an action that never leaves more
abbrev pub Spends : {A : Type 0} → Action ℕ A → Type 0
Spends p = (n : ℕ) → Within n (p n)

pub spends_pure : {A : Type 0} (a : A) → Spends (pure a)
spends_pure a n = omega arith

pub spends_fail : (A : Type 0) (f : Fault) → Spends {A = A} (fail f)
spends_fail A f n = omega arith

pub spends_lift : {A : Type 0} (r : Result A Fault) → Spends (lift r)
spends_lift (Ok a) n = omega arith
spends_lift (Err f) n = omega arith

pub spends_units : (k : ℕ) → Spends (units k)
spends_units k n =
    elim (nat_lt n k) as (λ b. Within {A = Unit {0}} n (if b then Failed fault.Budget 0 else Done tt (n - k))) [
      | true ↦ omega arith
      | false ↦ omega arith
    ]

within_then : {A B : Type 0} (n : ℕ) (r : Ran ℕ A) (f : A → Action ℕ B) → Within n r → ((a : A) → Spends (f a)) → Within n (and_then r f)
within_then n (Done a m) f w h = within_le m n (f a m) w (h a m)
within_then n (Failed e m) f w h = w

pub spends_then : {A B : Type 0} (p : Action ℕ A) (f : A → Action ℕ B) → Spends p → ((a : A) → Spends (f a)) → Spends (p >>= f)
spends_then p f w h n = within_then n (p n) f (w n) h

pub spends_if : {A : Type 0} (b : Bool) (p q : Action ℕ A) → Spends p → Spends q → Spends (if b then p else q)
spends_if true p q hp hq = hp
spends_if false p q hp hq = hq

spends_answered : (value : Value) → Spends (answered value)
unfolding answered
spends_answered value = spends_then (units (element_count value)) (λ _. pure value) (spends_units (element_count value)) (λ _. spends_pure value)

spends_made : (value : Value) → Spends (made value)
unfolding made
spends_made value =
    spends_then (lift (within_limits value)) (λ _. answered value) (spends_lift (within_limits value)) (λ _. spends_answered value)

spends_charged : (k : ℕ) (value : Value) → Spends (units k >> made value)
spends_charged k value = spends_then (units k) (λ _. made value) (spends_units k) (λ _. spends_made value)

spends_range : (args : List Value) → Spends (range_of args)
spends_range (Int first ∷ Int last ∷ []) = spends_pure (Range (between first last))
spends_range _ = spends_fail Value fault.BadType

spends_filled : (args : List Value) → Spends (filled args)
spends_filled (x ∷ Int count ∷ []) =
    spends_if (int_lt count (pos 0)) (fail fault.Argument) (copies_made x (unsigned_abs count)) (spends_fail Value fault.Argument)
    (spends_made (Listed (replicate (unsigned_abs count) x)))
spends_filled _ = spends_fail Value fault.BadType

spends_grid : (rows : List Value) → Spends (grid_of rows)
spends_grid rows =
    spends_if (nat_lt 0 (width_of rows) && are_rows (width_of rows) rows) (grid_made rows (width_of rows)) (fail fault.BadType)
    (spends_made (Grid (record { dims = length rows ∷ width_of rows ∷ []; cells = cells_of rows (width_of rows) }))) (spends_fail Value fault.BadType)

spends_item : (i : ℤ) (items : List Value) → Spends (item_answered i items)
spends_item i items = spends_then (lift (inside (item_at i items))) answered (spends_lift (inside (item_at i items))) spends_answered

spends_part : (span : Ends) (items : List Value) → Spends (part_made span items)
unfolding part_made
spends_part span items =
    spends_if (is_within span (length items)) (list_made (part span items)) (fail fault.Bounds) (spends_made (Listed (part span items))) (spends_fail Value fault.Bounds)

spends_items : (items indexes : List Value) → Spends (items_indexed items indexes)
spends_items items (Int i ∷ []) = spends_item i items
spends_items items (Range span ∷ []) = spends_part span items
spends_items items _ = spends_fail Value fault.Bounds

spends_tuple : (items indexes : List Value) → Spends (tuple_indexed items indexes)
spends_tuple items (Int i ∷ []) = spends_item i items
spends_tuple items _ = spends_fail Value fault.Bounds

spends_cell : (array : Shaped) (index : List ℤ) → Spends (cell_answered array index)
unfolding cell_answered
spends_cell array index =
    spends_if (is_cell array.dims index) (pure (Int (cell_at array index))) (fail fault.Bounds) (spends_pure (Int (cell_at array index))) (spends_fail Value fault.Bounds)

spends_slice : (array : Shaped) (picks : List Pick) → Spends (slice_made array picks)
unfolding slice_made
spends_slice array picks =
    spends_if (are_picks array.dims picks) (made (array_value (sliced array picks))) (fail fault.Bounds) (spends_made (array_value (sliced array picks)))
    (spends_fail Value fault.Bounds)

spends_picks : (array : Shaped) (picks : List Pick) → Spends (picks_answered array picks)
spends_picks array picks =
    spends_if (has_range picks) (slice_made array picks) (cell_answered array (map pick_first picks)) (spends_slice array picks)
    (spends_cell array (map pick_first picks))

spends_cells : (array : Shaped) (indexes : List Value) → Spends (grid_indexed array indexes)
unfolding grid_indexed
spends_cells array indexes = spends_picks array (map pick_of indexes)

spends_indexed_at : (x : Value-F Value) (indexes : List Value) → Spends (indexed_at x indexes)
spends_indexed_at (v.List items) indexes =
    spends_if (are_indexes indexes) (items_indexed items indexes) (fail fault.BadType) (spends_items items indexes) (spends_fail Value fault.BadType)
spends_indexed_at (v.Range ends) indexes =
    spends_if (are_indexes indexes) (items_indexed (range_items ends) indexes) (fail fault.BadType) (spends_items (range_items ends) indexes) (spends_fail Value fault.BadType)
spends_indexed_at (v.Tuple items) indexes =
    spends_if (are_numbers indexes) (tuple_indexed items indexes) (fail fault.BadType) (spends_tuple items indexes) (spends_fail Value fault.BadType)
spends_indexed_at (v.Grid array) indexes =
    spends_if (are_indexes indexes) (grid_indexed array indexes) (fail fault.BadType) (spends_cells array indexes) (spends_fail Value fault.BadType)
spends_indexed_at _ indexes = spends_fail Value fault.BadType

spends_indexed : (args : List Value) → Spends (indexed args)
spends_indexed [] = spends_fail Value fault.BadType
spends_indexed (x ∷ indexes) = spends_indexed_at (out-Value x) indexes

spends_totalled : (op : Reducer) (count : ℕ) (ns : List ℤ) → Spends (totalled op count ns)
unfolding totalled
spends_totalled op count ns =
    spends_then (units count) (λ _. lift (as_answer (folded op ns))) (spends_units count) (λ _. spends_lift (as_answer (folded op ns)))

spends_values : (op : Reducer) (items : List Value) → Spends (values_reduced op items)
spends_values op items =
    spends_if (are_numbers items) (totalled op (length items) (map number_of items)) (fail fault.BadType)
    (spends_totalled op (length items) (map number_of items)) (spends_fail Value fault.BadType)

spends_reduced_at : (op : Reducer) (x : Value-F Value) → Spends (reduced_at op x)
spends_reduced_at op (v.List items) = spends_values op items
spends_reduced_at op (v.Range ends) = spends_totalled op (span_length ends) (span_items ends)
spends_reduced_at op (v.Tuple items) = spends_values op items
spends_reduced_at op (v.Grid array) = spends_totalled op (length array.cells) array.cells
spends_reduced_at op _ = spends_fail Value fault.BadType

spends_reduced : (op : Reducer) (args : List Value) → Spends (reduced_by op args)
spends_reduced op (x ∷ []) = spends_reduced_at op (out-Value x)
spends_reduced op _ = spends_fail Value fault.BadType

spends_length : (args : List Value) → Spends (length_of args)
spends_length (x ∷ []) =
    spends_then (lift (count_at (out-Value x))) (λ n. pure (count_value n)) (spends_lift (count_at (out-Value x))) (λ n. spends_pure (count_value n))
spends_length _ = spends_fail Value fault.BadType

spends_dimensions : (args : List Value) → Spends (dimensions_of args)
spends_dimensions (x ∷ []) =
    spends_then (lift (sizes_at (out-Value x))) (λ sizes. pure (Tuple (map count_value sizes))) (spends_lift (sizes_at (out-Value x)))
    (λ sizes. spends_pure (Tuple (map count_value sizes)))
spends_dimensions _ = spends_fail Value fault.BadType

spends_collected_at : (x : Value-F Value) → Spends (collected_at x)
spends_collected_at (v.List items) = spends_charged (length items) (Listed items)
spends_collected_at (v.Range ends) = spends_charged (span_length ends) (Listed (range_items ends))
spends_collected_at _ = spends_fail Value fault.BadType

spends_collected : (args : List Value) → Spends (collected args)
spends_collected (x ∷ []) = spends_collected_at (out-Value x)
spends_collected _ = spends_fail Value fault.BadType

spends_concatenated : (args : List Value) → Spends (concatenated args)
spends_concatenated (x ∷ y ∷ []) =
    spends_if (is_listed x && is_listed y) (list_made (listed x ++ listed y)) (fail fault.BadType) (spends_made (Listed (listed x ++ listed y))) (spends_fail Value fault.BadType)
spends_concatenated _ = spends_fail Value fault.BadType

spends_array_at : (x : Value) (layer : Value-F Value) → Spends (array_at x layer)
spends_array_at x (v.Grid array) = spends_charged (length array.cells) x
spends_array_at x (v.List items) = spends_collected_at (v.List items)
spends_array_at x (v.Range ends) = spends_collected_at (v.Range ends)
spends_array_at x _ = spends_fail Value fault.BadType

spends_array : (args : List Value) → Spends (array_of args)
spends_array (x ∷ []) = spends_array_at x (out-Value x)
spends_array _ = spends_fail Value fault.BadType

spends_first : (args : List Value) → Spends (first_item args)
spends_first (x ∷ []) = spends_then (lift (front_at (out-Value x))) answered (spends_lift (front_at (out-Value x))) spends_answered
spends_first _ = spends_fail Value fault.BadType

spends_last : (args : List Value) → Spends (last_item args)
spends_last (x ∷ []) = spends_then (lift (back_at (out-Value x))) answered (spends_lift (back_at (out-Value x))) spends_answered
spends_last _ = spends_fail Value fault.BadType

spends_emptiness : (args : List Value) → Spends (emptiness args)
spends_emptiness (x ∷ []) = spends_lift (is_empty_at (out-Value x))
spends_emptiness _ = spends_fail Value fault.BadType

spends_identity : (args : List Value) → Spends (identity_of args)
spends_identity (x ∷ []) = spends_answered x
spends_identity _ = spends_fail Value fault.BadType

spends_error : (args : List Value) → Spends (error_of args)
spends_error (Text text ∷ []) = spends_fail Value (fault.Error text)
spends_error _ = spends_fail Value fault.BadType

spends_thrown : (args : List Value) → Spends (thrown args)
spends_thrown (Exception e ∷ []) = spends_fail Value e
spends_thrown _ = spends_fail Value fault.BadType

spends_reading : (f : Builtin) (args : List Value) → Spends (reading f args)
spends_reading b.Length args = spends_length args
spends_reading b.Size args = spends_dimensions args
spends_reading b.Sum args = spends_reduced Add args
spends_reading b.Product args = spends_reduced Mul args
spends_reading b.Maximum args = spends_reduced Max args
spends_reading b.Minimum args = spends_reduced Min args
spends_reading b.First args = spends_first args
spends_reading b.Last args = spends_last args
spends_reading b.IsEmpty args = spends_emptiness args
spends_reading b.Identity args = spends_identity args
spends_reading b.Error args = spends_error args
spends_reading b.Throw args = spends_thrown args
spends_reading b.TypeMax args = spends_fail Value fault.BadType
spends_reading b.TypeMin args = spends_fail Value fault.BadType
spends_reading _ args = spends_fail Value fault.BadType

spends_collections : (f : Builtin) (args : List Value) → Spends (of_collections f args)
spends_collections b.Range args = spends_range args
spends_collections b.List args = spends_made (Listed args)
spends_collections b.Tuple args = spends_made (Tuple args)
spends_collections b.Grid args = spends_grid args
spends_collections b.Index args = spends_indexed args
spends_collections b.Collect args = spends_collected args
spends_collections b.Fill args = spends_filled args
spends_collections b.Concatenate args = spends_concatenated args
spends_collections b.Array args = spends_array args
spends_collections f args = spends_reading f args

pub spends_builtin : (f : Builtin) (args : List Value) → Spends (builtin f args)
unfolding builtin
spends_builtin f args = spends_if (is_plain f) (lift (plain f args)) (of_collections f args) (spends_lift (plain f args)) (spends_collections f args)

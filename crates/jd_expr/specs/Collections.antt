-- Builtins over the elements of collections.
use Rattle.std.specs.Prelude.{ℕ, ℤ, pos, List, [], ◌∷◌, ◌++◌, length, map, ◌-◌, ◌%◌, ◌^◌, Bool, true, false, ◌&&◌, ◌==◌, if◌then◌else◌, Option, Some, None, Result, Ok, Err, slice_get}
use Rattle.std.specs.Int.{w64, cast_signed}
use Rattle.jd_value.specs.Span.{span_items, span_length}
use Rattle.jd_value.specs.declared.fault.Fault.{Fault}
use Rattle.jd_value.specs.declared.fault.Fault.TheVariants.{Argument, BadType, Bounds}
use Rattle.jd_value.specs.declared.value.Value.{Value, out-Value}
use Rattle.jd_value.specs.declared.value.Value.TheVariants.{Int, List as Listed, Tuple}
use Rattle.jd_value.specs.declared.value.Value.TheOpen as v
use Rattle.jd_value.specs.declared.value.Value.TheOpen.{Value-F}
use Rattle.jd_array.specs.Fold.{folded}
use Rattle.jd_array.specs.declared.fold.Reducer.{Reducer}
use Rattle.jd_array.specs.declared.fold.Reducer.TheVariants.{Add, Mul, Min, Max}
use Rattle.jd_expr.specs.Action.{Action, ◌>>=◌, ◌>>◌, pure, fail, lift, units}
use Rattle.jd_expr.specs.Arithmetic.{truth}
use Rattle.jd_expr.specs.Limits.{answered, made}
use Rattle.jd_expr.specs.Ranges.{is_listed, listed, range_items}

abbrev pub is_number : Value → Bool
is_number (Int n) = true
is_number _ = false

abbrev pub number_of : Value → ℤ
number_of (Int n) = n
number_of _ = pos 0

abbrev pub are_numbers : List Value → Bool
are_numbers [] = true
are_numbers (x ∷ xs) = is_number x && are_numbers xs

-- a fold of no numbers by an operation without an identity is nothing
abbrev pub as_answer : Option ℤ → Result Value Fault
as_answer (Some n) = Ok (Int n)
as_answer None = Err Argument

-- the fold of so many numbers, for a unit each
unfoldable pub totalled : Reducer → ℕ → List ℤ → Action ℕ Value
totalled op count numbers = units count >> lift (as_answer (folded op numbers))

-- where all elements are numbers
abbrev pub values_reduced : Reducer → List Value → Action ℕ Value
values_reduced op items = if are_numbers items then totalled op (length items) (map number_of items) else fail BadType

abbrev pub reduced_at : Reducer → Value-F Value → Action ℕ Value
reduced_at op (v.List items) = values_reduced op items
reduced_at op (v.Range ends) = totalled op (span_length ends) (span_items ends)
reduced_at op (v.Tuple items) = values_reduced op items
reduced_at op (v.Grid array) = totalled op (length array.cells) array.cells
reduced_at op _ = fail BadType

abbrev pub reduced_by : Reducer → List Value → Action ℕ Value
reduced_by op (x ∷ []) = reduced_at op (out-Value x)
reduced_by op _ = fail BadType

-- `sum(x)`, `prod(x)`, `maximum(x)` and `minimum(x)`
abbrev pub sum_of : List Value → Action ℕ Value
sum_of = reduced_by Add

abbrev pub product_of : List Value → Action ℕ Value
product_of = reduced_by Mul

abbrev pub maximum_of : List Value → Action ℕ Value
maximum_of = reduced_by Max

abbrev pub minimum_of : List Value → Action ℕ Value
minimum_of = reduced_by Min

-- the dimensions of a collection
abbrev pub sizes_at : Value-F Value → Result (List ℕ) Fault
sizes_at (v.List items) = Ok (length items ∷ [])
sizes_at (v.Range ends) = Ok (span_length ends ∷ [])
sizes_at (v.Tuple items) = Ok (length items ∷ [])
sizes_at (v.Grid array) = Ok array.dims
sizes_at _ = Err BadType

abbrev pub count_at : Value-F Value → Result ℕ Fault
count_at (v.List items) = Ok (length items)
count_at (v.Range ends) = Ok (span_length ends)
count_at (v.Tuple items) = Ok (length items)
count_at (v.Grid array) = Ok (length array.cells)
count_at _ = Err BadType

-- the lower 64 bits of a count as a number
abbrev pub count_value : ℕ → Value
count_value n = Int (cast_signed w64 (n % 2 ^ 64))

-- `length(x)`
abbrev pub length_of : List Value → Action ℕ Value
length_of (x ∷ []) = lift (count_at (out-Value x)) >>= (λ n. pure (count_value n))
length_of _ = fail BadType

-- `size(x)`
abbrev pub dimensions_of : List Value → Action ℕ Value
dimensions_of (x ∷ []) = lift (sizes_at (out-Value x)) >>= (λ sizes. pure (Tuple (map count_value sizes)))
dimensions_of _ = fail BadType

-- the list of these elements
abbrev pub list_made : List Value → Action ℕ Value
list_made items = made (Listed items)

abbrev pub collected_at : Value-F Value → Action ℕ Value
collected_at (v.List items) = units (length items) >> list_made items
collected_at (v.Range ends) = units (span_length ends) >> list_made (range_items ends)
collected_at _ = fail BadType

-- `collect(x)`: a unit for each element that is read, and one for each of the answer
abbrev pub collected : List Value → Action ℕ Value
collected (x ∷ []) = collected_at (out-Value x)
collected _ = fail BadType

-- `vcat(x, y)`
abbrev pub concatenated : List Value → Action ℕ Value
concatenated (x ∷ y ∷ []) = if is_listed x && is_listed y then list_made (listed x ++ listed y) else fail BadType
concatenated _ = fail BadType

abbrev pub array_at : Value → Value-F Value → Action ℕ Value
array_at x (v.Grid array) = units (length array.cells) >> made x
array_at x value = collected_at value

-- `Array(x)`
abbrev pub array_of : List Value → Action ℕ Value
array_of (x ∷ []) = array_at x (out-Value x)
array_of _ = fail BadType

abbrev pub inside : Option Value → Result Value Fault
inside (Some x) = Ok x
inside None = Err Bounds

abbrev pub front_at : Value-F Value → Result Value Fault
front_at (v.List items) = inside (slice_get items 0)
front_at (v.Range ends) = Ok (Int ends.first)
front_at _ = Err BadType

-- `first(x)`
abbrev pub first_item : List Value → Action ℕ Value
first_item (x ∷ []) = lift (front_at (out-Value x)) >>= answered
first_item _ = fail BadType

abbrev pub back_at : Value-F Value → Result Value Fault
back_at (v.List items) = inside (slice_get items (length items - 1))
back_at (v.Range ends) = Ok (Int ends.last)
back_at _ = Err BadType

-- `last(x)`
abbrev pub last_item : List Value → Action ℕ Value
last_item (x ∷ []) = lift (back_at (out-Value x)) >>= answered
last_item _ = fail BadType

abbrev pub is_empty_at : Value-F Value → Result Value Fault
is_empty_at (v.List items) = Ok (truth (length items == 0))
is_empty_at (v.Range ends) = Ok (truth (span_length ends == 0))
is_empty_at _ = Err BadType

-- `isempty(x)`
abbrev pub emptiness : List Value → Action ℕ Value
emptiness (x ∷ []) = lift (is_empty_at (out-Value x))
emptiness _ = fail BadType

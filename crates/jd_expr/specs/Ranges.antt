-- Ranges, and the elements of collections.
use Rattle.std.specs.Prelude.{ℕ, ℤ, pos, ◌-ℤ◌, int_lt, List, [], ◌∷◌, map, Bool, true, false, if◌then◌else◌, Result, Ok, Err}
use Rattle.jd_value.specs.Span.{Ends, span_items}
use Rattle.jd_value.specs.declared.fault.Fault.{Fault}
use Rattle.jd_value.specs.declared.fault.Fault.TheVariants.{BadType}
use Rattle.jd_value.specs.declared.value.Value.{Value, out-Value}
use Rattle.jd_value.specs.declared.value.Value.TheVariants.{Int, Range}
use Rattle.jd_value.specs.declared.value.Value.TheOpen as v
use Rattle.jd_value.specs.declared.value.Value.TheOpen.{Value-F}
use Rattle.jd_expr.specs.Action.{Action, pure, fail}

-- an empty range ends directly before its first number
abbrev pub between : ℤ → ℤ → Ends
between first last = record { first = first; last = if int_lt last first then first -ℤ pos 1 else last }

-- `first:last`
abbrev pub range_of : List Value → Action ℕ Value
range_of (Int first ∷ Int last ∷ []) = pure (Range (between first last))
range_of _ = fail BadType

-- the numbers of a range as values
unfoldable pub range_items : Ends → List Value
range_items ends = map Int (span_items ends)

abbrev pub is_listed_at : Value-F Value → Bool
is_listed_at (v.List items) = true
is_listed_at (v.Range ends) = true
is_listed_at _ = false

-- a list or range
unfoldable pub is_listed : Value → Bool
is_listed value = is_listed_at (out-Value value)

abbrev pub listed_at : Value-F Value → List Value
listed_at (v.List items) = items
listed_at (v.Range ends) = range_items ends
listed_at _ = []

-- its elements
unfoldable pub listed : Value → List Value
listed value = listed_at (out-Value value)

abbrev pub elements_at : Value-F Value → Result (List Value) Fault
elements_at (v.List items) = Ok items
elements_at (v.Range ends) = Ok (range_items ends)
elements_at (v.Tuple items) = Ok items
elements_at (v.Grid array) = Ok (map Int array.cells)
elements_at _ = Err BadType

-- the elements of a collection, those of a grid in column-major order
unfoldable pub elements : Value → Result (List Value) Fault
elements value = elements_at (out-Value value)

-- What statements ask of values and faults.
use Rattle.std.specs.Prelude.{◌≡◌, ℕ, ◌+◌, ◌<◌, ◌^◌, Bool, true, false, List, [], ◌∷◌, map, drop, Option, None, Some, Result, Ok, Err}
use Rattle.jd_value.specs.Span.{span_items}
use Rattle.jd_value.specs.declared.fault.Fault.{Fault}
use Rattle.jd_value.specs.declared.fault.Fault.TheVariants as fault
use Rattle.jd_value.specs.declared.value.Value.{Value, out-Value}
use Rattle.jd_value.specs.declared.value.Value.TheOpen.{Value-F}
use Rattle.jd_value.specs.declared.value.Value.TheVariants.{Int}

abbrev pub truth_at : Value-F Value → Result Bool Fault
truth_at Value-F.True = Ok true
truth_at Value-F.False = Ok false
truth_at _ = Err fault.BadType

-- the truth value that a condition is to have
abbrev pub truth : Value → Result Bool Fault
truth v = truth_at (out-Value v)

abbrev pub is_collection_at : Value-F Value → Bool
is_collection_at (Value-F.List items) = true
is_collection_at (Value-F.Tuple items) = true
is_collection_at (Value-F.Range ends) = true
is_collection_at (Value-F.Grid array) = true
is_collection_at _ = false

-- whether a `for` goes over it
abbrev pub is_collection : Value → Bool
is_collection v = is_collection_at (out-Value v)

abbrev pub elements_at : Value-F Value → List Value
elements_at (Value-F.List items) = items
elements_at (Value-F.Tuple items) = items
elements_at (Value-F.Range ends) = map Int (span_items ends)
elements_at (Value-F.Grid array) = map Int array.cells
elements_at _ = []

-- what a `for` goes over, in order: of an array its cells, the first dimension first
abbrev pub elements : Value → List Value
elements v = elements_at (out-Value v)

-- whether a fault is that of the units, which no `catch` takes
abbrev pub is_budget : Fault → Bool
is_budget fault.Budget = true
is_budget _ = false

-- the element at a place, or none behind the last one
abbrev pub IsElement : List Value → ℕ → Option Value → Type 0
IsElement xs at None = drop at xs ≡ []
IsElement xs at (Some x) = (at < 2 ^ 64) × (drop at xs ≡ x ∷ drop (at + 1) xs)

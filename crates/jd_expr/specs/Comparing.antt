-- When two values are equal: they are of one kind and have equal parts; a truth value is also equal to the number 1 or 0,
-- and a range to a list of its numbers.
use Rattle.std.specs.Prelude.{ℕ, ℤ, pos, Bool, true, false, ◌&&◌, ◌==◌, List, map}
use Rattle.std.specs.Ordering.{int_eq}
use Rattle.std.specs.Cmp.Lexicographic.{pointwise}
use Rattle.std.specs.Str.{bytes_eq}
use Rattle.jd_value.specs.Array.{Shaped}
use Rattle.jd_value.specs.Span.{Ends, span_items}
use Rattle.jd_value.specs.declared.reference.RefId.{RefId}
use Rattle.jd_value.specs.declared.fault.Fault.{Fault, Fault-F, fold-Fault, out-Fault}
use Rattle.jd_value.specs.declared.fault.Fault.TheOpen as f
use Rattle.jd_value.specs.declared.value.Value.{Value, fold-Value, out-Value}
use Rattle.jd_value.specs.declared.value.Value.TheVariants.{Int}
use Rattle.jd_value.specs.declared.value.Value.TheOpen as v
use Rattle.jd_value.specs.declared.value.Value.TheOpen.{Value-F}

abbrev pub is_error : List ℕ → Fault-F Fault → Bool
is_error text (f.Error other) = bytes_eq text other
is_error text _ = false

abbrev pub is_undef : List ℕ → Fault-F Fault → Bool
is_undef name (f.Undef other) = bytes_eq name other
is_undef name _ = false

abbrev pub is_exited : ℕ → Fault-F Fault → Bool
is_exited process (f.Exited other) = process == other
is_exited process _ = false

abbrev pub is_remote : ℕ → (Fault → Bool) → Fault-F Fault → Bool
is_remote process inner (f.Remote other fault) = process == other && inner fault
is_remote process inner _ = false

-- one level of a fault, where the fault inside it is the test of being equal to it
abbrev pub same_fault_at : Fault-F (Fault → Bool) → Fault-F Fault → Bool
same_fault_at f.Divide f.Divide = true
same_fault_at (f.Error text) other = is_error text other
same_fault_at f.Bounds f.Bounds = true
same_fault_at f.BadType f.BadType = true
same_fault_at f.Argument f.Argument = true
same_fault_at (f.Undef name) other = is_undef name other
same_fault_at f.Invalid f.Invalid = true
same_fault_at (f.Exited process) other = is_exited process other
same_fault_at (f.Remote process inner) other = is_remote process inner other
same_fault_at f.Budget f.Budget = true
same_fault_at f.Deep f.Deep = true
same_fault_at _ _ = false

-- the same cause with the same texts and numbers
abbrev pub same_fault : Fault → Fault → Bool
same_fault = fold-Fault (Fault → Bool) (λ fault other. same_fault_at fault (out-Fault other))

-- the number itself, or the truth value that counts as it
abbrev pub is_number : ℤ → Value-F Value → Bool
is_number n (v.Int m) = int_eq n m
is_number n v.True = int_eq n (pos 1)
is_number n v.False = int_eq n (pos 0)
is_number n _ = false

-- for each number of a range the test of being it
abbrev pub number_tests : Ends → List (Value → Bool)
number_tests ends = map (λ n value. is_number n (out-Value value)) (span_items ends)

abbrev pub is_nothing : Value-F Value → Bool
is_nothing v.Nothing = true
is_nothing _ = false

abbrev pub is_text : List ℕ → Value-F Value → Bool
is_text text (v.Text other) = bytes_eq text other
is_text text _ = false

-- each value passes the test at its place
abbrev pub each_passes : List (Value → Bool) → List Value → Bool
each_passes = pointwise (λ test value. test value)

-- a list or range of values that pass these tests
abbrev pub has_elements : List (Value → Bool) → Value-F Value → Bool
has_elements tests (v.List items) = each_passes tests items
has_elements tests (v.Range ends) = each_passes tests (map Int (span_items ends))
has_elements tests _ = false

-- a tuple of values that pass these tests
abbrev pub is_tuple : List (Value → Bool) → Value-F Value → Bool
is_tuple tests (v.Tuple items) = each_passes tests items
is_tuple tests _ = false

-- the same dimensions and cells
abbrev pub same_array : Shaped → Shaped → Bool
same_array array other = bytes_eq array.dims other.dims && pointwise int_eq array.cells other.cells

abbrev pub is_grid : Shaped → Value-F Value → Bool
is_grid array (v.Grid other) = same_array array other
is_grid array _ = false

abbrev pub is_exception : Fault → Value-F Value → Bool
is_exception fault (v.Exception other) = same_fault fault other
is_exception fault _ = false

abbrev pub is_future : RefId → Value-F Value → Bool
is_future reference (v.Future other) = reference.maker == other.maker && reference.number == other.number && reference.owner == other.owner
is_future reference _ = false

-- one level of a value, where each part is the test of being equal to it
abbrev pub equal_at : Value-F (Value → Bool) → Value-F Value → Bool
equal_at (v.Int n) other = is_number n other
equal_at v.True other = is_number (pos 1) other
equal_at v.False other = is_number (pos 0) other
equal_at v.Nothing other = is_nothing other
equal_at (v.Text text) other = is_text text other
equal_at (v.Range ends) other = has_elements (number_tests ends) other
equal_at (v.List tests) other = has_elements tests other
equal_at (v.Tuple tests) other = is_tuple tests other
equal_at (v.Grid array) other = is_grid array other
equal_at (v.Exception fault) other = is_exception fault other
equal_at (v.Future reference) other = is_future reference other

-- what `==` answers
abbrev pub equal : Value → Value → Bool
equal = fold-Value (Value → Bool) (λ value other. equal_at value (out-Value other))

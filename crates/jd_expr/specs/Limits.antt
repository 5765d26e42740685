-- How large the answer of a builtin may be, and what it costs.
use Rattle.std.specs.Prelude.{ℕ, length, ◌||◌, nat_lt, if◌then◌else◌, Result, Ok, Err}
use Rattle.jd_value.specs.Sizes.{words, depth}
use Rattle.jd_value.specs.declared.fault.Fault.{Fault}
use Rattle.jd_value.specs.declared.fault.Fault.TheVariants.{Argument, Deep}
use Rattle.jd_value.specs.declared.value.Value.{Value, out-Value}
use Rattle.jd_value.specs.declared.value.Value.TheOpen as v
use Rattle.jd_value.specs.declared.value.Value.TheOpen.{Value-F}
use Rattle.jd_expr.specs.Action.{Action, ◌>>◌, pure, lift, units}

abbrev pub max_elements : ℕ
max_elements = 262144

abbrev pub max_words : ℕ
max_words = 1048576

abbrev pub max_depth : ℕ
max_depth = 64

abbrev pub element_count_at : Value-F Value → ℕ
element_count_at (v.List items) = length items
element_count_at (v.Grid array) = length array.cells
element_count_at _ = 0

-- how many elements a list or grid has; other values count none
unfoldable pub element_count : Value → ℕ
element_count value = element_count_at (out-Value value)

-- too many elements or words, then too many levels
abbrev pub limits_of : ℕ → ℕ → ℕ → Result (Unit {0}) Fault
limits_of elements words depth =
    if nat_lt max_elements elements || nat_lt max_words words then Err Argument else (if nat_lt max_depth depth then Err Deep else Ok tt)

unfoldable pub within_limits : Value → Result (Unit {0}) Fault
within_limits value = limits_of (element_count value) (words value) (depth value)

-- An answer costs a unit for each element of a list or grid.
unfoldable pub answered : Value → Action ℕ Value
answered value = units (element_count value) >> pure value

-- an answer that is made, and wasn't there before
unfoldable pub made : Value → Action ℕ Value
made value = lift (within_limits value) >> answered value

-- Builtins that make collections.
use Rattle.std.specs.Prelude.{ℕ, pos, int_lt, unsigned_abs, List, [], ◌∷◌, replicate, if◌then◌else◌}
use Rattle.jd_value.specs.declared.fault.Fault.TheVariants.{Argument, BadType}
use Rattle.jd_value.specs.declared.value.Value.{Value}
use Rattle.jd_value.specs.declared.value.Value.TheVariants.{Int, List as Listed, Tuple}
use Rattle.jd_expr.specs.Action.{Action, fail}
use Rattle.jd_expr.specs.Limits.{made}

-- `[a, b, ..]`
abbrev pub list_of : List Value → Action ℕ Value
list_of args = made (Listed args)

-- `(a, b, ..)`
abbrev pub tuple_of : List Value → Action ℕ Value
tuple_of args = made (Tuple args)

abbrev pub copies_made : Value → ℕ → Action ℕ Value
copies_made x count = made (Listed (replicate count x))

-- `fill(x, n)`
abbrev pub filled : List Value → Action ℕ Value
filled (x ∷ Int count ∷ []) = if int_lt count (pos 0) then fail Argument else copies_made x (unsigned_abs count)
filled _ = fail BadType

-- Builtins that throw, and those that give what they got or nothing.
use Rattle.std.specs.Prelude.{ℕ, List, [], ◌∷◌}
use Rattle.jd_value.specs.declared.fault.Fault.TheVariants.{BadType, Error}
use Rattle.jd_value.specs.declared.value.Value.{Value}
use Rattle.jd_value.specs.declared.value.Value.TheVariants.{Text, Exception}
use Rattle.jd_expr.specs.Action.{Action, fail}
use Rattle.jd_expr.specs.Limits.{answered}

-- `identity(x)`
abbrev pub identity_of : List Value → Action ℕ Value
identity_of (x ∷ []) = answered x
identity_of _ = fail BadType

-- `error(text)`
abbrev pub error_of : List Value → Action ℕ Value
error_of (Text text ∷ []) = fail (Error text)
error_of _ = fail BadType

-- `throw(e)`: the fault of an exception
abbrev pub thrown : List Value → Action ℕ Value
thrown (Exception fault ∷ []) = fail fault
thrown _ = fail BadType

-- `typemax` and `typemin` of anything but the name `Int`, which is a number before it is evaluated
abbrev pub limit_of : List Value → Action ℕ Value
limit_of _ = fail BadType

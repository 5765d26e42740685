-- The entries of a map of variables as the variables themselves.
use Rattle.std.specs.Prelude.{ℕ, List, map}
use Rattle.jd_value.specs.declared.value.Value.{Value}
use Rattle.jd_expr.specs.declared.variable.Variable.{Variable}

-- an entry as a variable
abbrev pub variable : List ℕ × Value → Variable
variable entry = record { name = entry.0; value = entry.1 }

-- all entries, in their order
abbrev pub variables : List (List ℕ × Value) → List Variable
variables entries = map variable entries

-- Variables: names with their values, in the order in which they got their first values.
use Rattle.std.specs.Prelude.{ℕ, List, [], ◌∷◌, Option, None, Some, Result, Ok, Err, if◌then◌else◌}
use Rattle.std.specs.Str.{bytes_eq}
use Rattle.jd_value.specs.declared.fault.Fault.{Fault}
use Rattle.jd_value.specs.declared.fault.Fault.TheVariants.{Undef}
use Rattle.jd_value.specs.declared.value.Value.{Value}
use Rattle.jd_expr.specs.declared.variable.Variable.{Variable}

-- the variables that have a value
abbrev pub Variables : Type 0
Variables = List Variable

-- the value of the variable of this name, if it has one
abbrev pub value_of : List ℕ → Variables → Option Value
value_of name [] = None
value_of name (x ∷ vars) = if bytes_eq name x.name then Some x.value else value_of name vars

-- the variable of this name gets a value: one that has a value keeps its place, and a new one goes last
abbrev pub with_value : List ℕ → Value → Variables → Variables
with_value name v [] = record { name = name; value = v } ∷ []
with_value name v (x ∷ vars) = if bytes_eq name x.name then record x { value = v } ∷ vars else x ∷ with_value name v vars

-- the variable of this name has no value any more
abbrev pub without : List ℕ → Variables → Variables
without name [] = []
without name (x ∷ vars) = if bytes_eq name x.name then vars else x ∷ without name vars

-- a value that was looked for, or the fault of a variable without one
abbrev pub found : List ℕ → Option Value → Result Value Fault
found name None = Err (Undef name)
found name (Some v) = Ok v

-- what the variable of this name gives
abbrev pub named : List ℕ → Variables → Result Value Fault
named name vars = found name (value_of name vars)

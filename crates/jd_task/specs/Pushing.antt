-- What `push!` makes of a list.
use Rattle.std.specs.Prelude.{ℕ, List, [], ◌∷◌, ◌++◌, length, nat_lt, if◌then◌else◌, Result, Ok, Err}
use Rattle.jd_value.specs.Sizes.{words, depth}
use Rattle.jd_value.specs.declared.fault.Fault.{Fault}
use Rattle.jd_value.specs.declared.fault.Fault.TheVariants as fault
use Rattle.jd_value.specs.declared.value.Value.{Value, out-Value}
use Rattle.jd_value.specs.declared.value.Value.TheOpen.{Value-F}
use Rattle.jd_value.specs.declared.value.Value.TheVariants.{List as TheList}

-- so many elements has a list at most, so many words a value, and so many levels
abbrev pub max_elements : ℕ
max_elements = 262144

abbrev pub max_words : ℕ
max_words = 1048576

abbrev pub max_depth : ℕ
max_depth = 64

-- a value, where it isn't too large, and not too deep
abbrev pub within_sizes : Value → Result Value Fault
within_sizes v = if nat_lt max_words (words v) then Err fault.Argument else (if nat_lt max_depth (depth v) then Err fault.Deep else Ok v)

-- a list with one more element
abbrev pub longer : List Value → Value → Result Value Fault
longer items x = if nat_lt (length items) max_elements then within_sizes (TheList (items ++ x ∷ [])) else Err fault.Argument

abbrev pub with_last_at : Value → Value-F Value → Result Value Fault
with_last_at x (Value-F.List items) = longer items x
with_last_at x _ = Err fault.BadType

abbrev pub with_last : Value → Value → Result Value Fault
with_last x v = with_last_at x (out-Value v)

-- the same where the list is the value of a variable, if that has one
abbrev pub pushed : Value → Result Value Fault → Result Value Fault
pushed x (Ok v) = with_last x v
pushed x (Err e) = Err e

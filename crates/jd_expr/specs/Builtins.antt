-- What the builtin functions give of their arguments.
use Rattle.std.specs.Prelude.{ℕ, Bool, true, false, List, if◌then◌else◌}
use Rattle.jd_value.specs.declared.value.Value.{Value}
use Rattle.jd_value.specs.declared.fault.Fault.TheVariants.{BadType}
use Rattle.jd_value.specs.declared.builtin.Builtin.{Builtin}
use Rattle.jd_value.specs.declared.builtin.Builtin.TheVariants as b
use Rattle.jd_expr.specs.Action.{Action, fail, lift}
use Rattle.jd_expr.specs.Arithmetic.{plain}
use Rattle.jd_expr.specs.Collections.{length_of, dimensions_of, sum_of, product_of, maximum_of, minimum_of, collected, first_item, last_item, emptiness, concatenated, array_of}
use Rattle.jd_expr.specs.Grids.{grid_of}
use Rattle.jd_expr.specs.Indexing.{indexed}
use Rattle.jd_expr.specs.Making.{list_of, tuple_of, filled}
use Rattle.jd_expr.specs.Ranges.{range_of}
use Rattle.jd_expr.specs.Throwing.{identity_of, error_of, thrown, limit_of}

-- Functions of numbers and truth values, and equality: they take no units of their own, and make no collection.
abbrev pub is_plain : Builtin → Bool
is_plain b.Add = true
is_plain b.Subtract = true
is_plain b.Multiply = true
is_plain b.Negate = true
is_plain b.Divide = true
is_plain b.Remainder = true
is_plain b.Modulo = true
is_plain b.And = true
is_plain b.Or = true
is_plain b.Xor = true
is_plain b.Complement = true
is_plain b.Not = true
is_plain b.Equal = true
is_plain b.NotEqual = true
is_plain b.Less = true
is_plain b.AtMost = true
is_plain b.Greater = true
is_plain b.AtLeast = true
is_plain b.Abs = true
is_plain b.Min = true
is_plain b.Max = true
is_plain b.IsEven = true
is_plain b.IsOdd = true
is_plain _ = false

-- Functions that read a collection, and those that throw.
abbrev pub reading : Builtin → List Value → Action ℕ Value
reading b.Length args = length_of args
reading b.Size args = dimensions_of args
reading b.Sum args = sum_of args
reading b.Product args = product_of args
reading b.Maximum args = maximum_of args
reading b.Minimum args = minimum_of args
reading b.First args = first_item args
reading b.Last args = last_item args
reading b.IsEmpty args = emptiness args
reading b.Identity args = identity_of args
reading b.Error args = error_of args
reading b.Throw args = thrown args
reading b.TypeMax args = limit_of args
reading b.TypeMin args = limit_of args
reading _ args = fail BadType

-- Functions of collections: those that make one, and the others.
abbrev pub of_collections : Builtin → List Value → Action ℕ Value
of_collections b.Range args = range_of args
of_collections b.List args = list_of args
of_collections b.Tuple args = tuple_of args
of_collections b.Grid args = grid_of args
of_collections b.Index args = indexed args
of_collections b.Collect args = collected args
of_collections b.Fill args = filled args
of_collections b.Concatenate args = concatenated args
of_collections b.Array args = array_of args
of_collections function args = reading function args

-- What a builtin function gives of its arguments.
unfoldable pub builtin : Builtin → List Value → Action ℕ Value
builtin function args = if is_plain function then lift (plain function args) else of_collections function args

-- What operators compute.
use Rattle.std.specs.Prelude.{List, [], ◌∷◌, Option, Some, None}
use Rattle.jd_value.specs.declared.expr.Expr.{Expr}
use Rattle.jd_value.specs.declared.expr.Expr.TheVariants as e
use Rattle.jd_value.specs.declared.builtin.Builtin.{Builtin}
use Rattle.jd_value.specs.declared.builtin.Builtin.TheVariants as b
use Rattle.jd_grammar.specs.declared.token.Kind.{Kind}
use Rattle.jd_grammar.specs.declared.token.Kind.TheVariants as kind

-- The function of an operator before its operand.
abbrev pub prefix : Kind → Option Builtin
prefix kind.Plus = Some b.Add
prefix kind.Minus = Some b.Negate
prefix kind.Not = Some b.Not
prefix kind.Complement = Some b.Complement
prefix _ = None

-- The function of an operator between two operands.
abbrev pub operator : Kind → Option Builtin
operator kind.Plus = Some b.Add
operator kind.Minus = Some b.Subtract
operator kind.Star = Some b.Multiply
operator kind.Divide = Some b.Divide
operator kind.Percent = Some b.Remainder
operator kind.And = Some b.And
operator kind.Or = Some b.Or
operator kind.Xor = Some b.Xor
operator kind.Equal = Some b.Equal
operator kind.Unequal = Some b.NotEqual
operator kind.Less = Some b.Less
operator kind.LessEqual = Some b.AtMost
operator kind.Greater = Some b.Greater
operator kind.GreaterEqual = Some b.AtLeast
operator kind.Colon = Some b.Range
operator _ = None

abbrev pub apply_to : Option Builtin → List Expr → Option Expr
apply_to None xs = None
apply_to (Some f) xs = Some (e.Apply f xs)

-- Two operands and the operator between them: `&&` and `||` don't always evaluate the second one, and so are no functions.
abbrev pub joined : Kind → Expr → Expr → Option Expr
joined kind.AndAlso x y = Some (e.And x y)
joined kind.OrElse x y = Some (e.Or x y)
joined k x y = apply_to (operator k) (x ∷ y ∷ [])

abbrev pub of_one : Kind → Option Expr → Option Expr
of_one k None = None
of_one k (Some x) = apply_to (prefix k) (x ∷ [])

abbrev pub of_two : Kind → Option Expr → Option Expr → Option Expr
of_two k None y = None
of_two k (Some x) None = None
of_two k (Some x) (Some y) = joined k x y

-- `c ? x : y`
abbrev pub chosen : Option Expr → Option Expr → Option Expr → Option Expr
chosen None x y = None
chosen (Some c) None y = None
chosen (Some c) (Some x) None = None
chosen (Some c) (Some x) (Some y) = Some (e.Choose c x y)

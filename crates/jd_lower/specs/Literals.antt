-- Expressions of one token.
use Rattle.std.specs.Prelude.{ℤ, negsuc, true, false, if◌then◌else◌, Option, Some, None, slice_get}
use Rattle.std.specs.Int.{w64, cast_signed}
use Rattle.jd_value.specs.declared.expr.Expr.{Expr}
use Rattle.jd_value.specs.declared.expr.Expr.TheVariants as e
use Rattle.jd_grammar.specs.declared.token.Kind.{Kind}
use Rattle.jd_grammar.specs.declared.token.Kind.TheVariants as kind
use Rattle.jd_lower.specs.declared.scope.Scope.{Scope}
use Rattle.jd_lower.specs.Names.{text, name_text}

abbrev pub least : ℤ
least = negsuc 9223372036854775807

-- A literal or a variable. A number that a script has is below 2^63, and so is itself as a signed number. 2^63 stands for
-- the least number, whose negation is itself.
abbrev pub operand : Scope → Kind → Option Expr
operand scope (kind.Number n) = Some (e.Int (cast_signed w64 n))
operand scope (kind.Wide is_least) = if is_least then Some (e.Int least) else None
operand scope (kind.Text n) = Some (e.Text (text (slice_get scope.texts n)))
operand scope (kind.Name n) = Some (e.Name (name_text scope.names n))
operand scope kind.True = Some (e.Truth true)
operand scope kind.False = Some (e.Truth false)
operand scope kind.Nothing = Some e.Nothing
operand scope _ = None

-- Calls of the builtin functions by their names.
use Rattle.std.specs.Prelude.{ℕ, pos, Bool, true, false, ◌&&◌, not, if◌then◌else◌, List, [], ◌∷◌, map, Option, Some, None}
use Rattle.std.specs.Str.{bytes_eq}
use Rattle.jd_value.specs.declared.expr.Expr.{Expr}
use Rattle.jd_value.specs.declared.expr.Expr.TheVariants as e
use Rattle.jd_value.specs.declared.builtin.Builtin.{Builtin}
use Rattle.jd_value.specs.declared.builtin.Builtin.TheVariants as b
use Rattle.jd_grammar.specs.declared.token.Kind.{Kind}
use Rattle.jd_grammar.specs.declared.token.Kind.TheVariants as kind
use Rattle.jd_grammar.specs.declared.token.Name.TheVariants as name
use Rattle.jd_grammar.specs.declared.token.Word.TheVariants as word
use Rattle.jd_grammar.specs.Kinds.{is_word}
use Rattle.jd_grammar.specs.Grammar.{Items, none, Maybe, nothing, just, name_of}
use Rattle.jd_lower.specs.declared.scope.Scope.{Scope}
use Rattle.jd_lower.specs.declared.builtins.TheConstants.{BUILTINS}
use Rattle.jd_lower.specs.Names.{name_text}
use Rattle.jd_lower.specs.Scopes.{is_bound}
use Rattle.jd_lower.specs.Literals.{least}

-- the function in the first row of that name
abbrev pub builtin_among : List (List ℕ × Builtin) → List ℕ → Option Builtin
builtin_among [] name = None
builtin_among (row ∷ rows) name = if bytes_eq row.0 name then Some row.1 else builtin_among rows name

-- the builtin function of this name
unfoldable pub builtin_named : List ℕ → Option Builtin
builtin_named name = builtin_among (map (λ row. (row.0.now, row.1)) BUILTINS) name

-- what a name calls: the builtin function, unless the script binds the name
abbrev pub function : Scope → Kind → Option Builtin
function scope (kind.Name n) = if is_bound scope.bound n then None else builtin_named (name_text scope.names n)
function scope _ = None

abbrev pub is_none : Items → Bool
is_none none = true
is_none _ = false

-- the type `Int`, where the script binds no variable of that name
abbrev pub is_int : Scope → Kind → Bool
is_int scope k = is_word word.Int k && not (is_bound scope.bound (name.Word word.Int))

-- `Int` alone in the parentheses
abbrev pub is_of_int : Scope → Items → Maybe → Bool
is_of_int scope most (just x) = is_none most && is_int scope (name_of x)
is_of_int scope most nothing = false

-- A function of these arguments. `typemax(Int)` and `typemin(Int)` are numbers.
abbrev pub applied_to : Builtin → Bool → List Expr → Expr
applied_to b.TypeMax true xs = e.Int (pos 9223372036854775807)
applied_to b.TypeMin true xs = e.Int least
applied_to f of_int xs = e.Apply f xs

abbrev pub call : Option Builtin → Bool → Option (List Expr) → Option Expr
call None of_int xs = None
call (Some f) of_int None = None
call (Some f) of_int (Some xs) = Some (applied_to f of_int xs)

-- The program of a script, where the program can run it: lines that print, assign, call remotely or fetch. Any other
-- script has none. The effects of a statement run first, from left to right; each gets a variable of its own, `%1`, `%2`
-- and so on in its body, unless it is the whole right side of an assignment.
use Rattle.std.specs.Prelude.{ℕ, ◌&&◌, if◌then◌else◌, List, [], ◌∷◌, ◌++◌, Option, Some, None}
use Rattle.jd_value.specs.declared.expr.Expr.{Expr}
use Rattle.jd_value.specs.declared.expr.Expr.TheVariants as e
use Rattle.jd_value.specs.declared.operation.Operation.TheVariants as operation
use Rattle.jd_value.specs.declared.tree.Stmt as a-stmt
use Rattle.jd_value.specs.declared.tree.Stmt.TheVariants as statement
use Rattle.jd_value.specs.declared.tree.Body.{Body, roll-Body}
use Rattle.jd_value.specs.declared.tree.Block.{roll-Block}
use Rattle.jd_value.specs.declared.tree.Program.{Program}
use Rattle.jd_grammar.specs.declared.token.Token.{Token}
use Rattle.jd_grammar.specs.declared.token.Kind.{Kind}
use Rattle.jd_grammar.specs.declared.token.Word.TheVariants as word
use Rattle.jd_grammar.specs.Kinds.{is_comma, is_word}
use Rattle.jd_grammar.specs.Grammar.{Syntax, ending, bracket, lambda, called, Items, none, more, Maybe, nothing, just, name_of}
use Rattle.jd_grammar.specs.Script.{Block, block, Lines, no_lines, line, Place, empty, stmt, Stmt, ended, bare, assigned}
use Rattle.jd_syntax.specs.Spelling.{Script}
use Rattle.jd_lower.specs.declared.draft.Draft.{Draft}
use Rattle.jd_lower.specs.declared.calls.Function.{Function}
use Rattle.jd_lower.specs.declared.calls.RemoteCall.{RemoteCall}
use Rattle.jd_lower.specs.Steps.{Step, and_then, ◌>>=◌, ◌>>◌, pure, refuse, give, variable, body_number, write, nothing_written}
use Rattle.jd_lower.specs.Names.{name_in, is_fetch, is_remote_call}
use Rattle.jd_lower.specs.declared.scope.Scope.{Scope}
use Rattle.jd_lower.specs.Scopes.{scope_of}
use Rattle.jd_lower.specs.Builtins.{is_none}
use Rattle.jd_lower.specs.Expressions.{call_of, expression_of}

-- ---- calls

abbrev pub with_body : Option (List ℕ) → Option Expr → Option Function
with_body None x = None
with_body (Some p) None = None
with_body (Some p) (Some x) = Some (record { parameter = p; body = x })

-- `p -> e`: a function of one value
abbrev pub function_of : Scope → Syntax → Option Function
function_of scope (ending (lambda p t) x) = with_body (name_in scope.names (name_of p)) (expression_of scope x)
function_of scope _ = None

abbrev pub with_parts : Option Function → Option Expr → Option Expr → Option RemoteCall
with_parts None p x = None
with_parts (Some f) None x = None
with_parts (Some f) (Some p) None = None
with_parts (Some f) (Some p) (Some x) = Some (record { function = f; process = p; argument = x })

-- what stands in the parentheses of `remotecall(p -> e, w, a)`
abbrev pub remote_call : Scope → Items → Maybe → Option RemoteCall
remote_call scope (more f t (more p u none)) (just a) =
    if is_comma t.kind && is_comma u.kind then with_parts (function_of scope f) (expression_of scope p) (expression_of scope a) else None
remote_call scope most last = None

-- what stands in the parentheses of `fetch(x)`: a variable
abbrev pub fetched : Scope → Items → Maybe → Option (List ℕ)
fetched scope most (just x) = if is_none most then name_in scope.names (name_of x) else None
fetched scope most nothing = None

-- the body of a function of one value
abbrev pub body_of : ℕ → Function → Body
body_of number f =
    roll-Body (record { number = number; parameters = f.parameter ∷ []; block = roll-Block (record { stmts = statement.Value f.body ∷ [] }) })

-- ---- printing

-- waits for the outcome of the future in a variable
abbrev pub fetch_into : List ℕ → List ℕ → Step (Unit {0})
fetch_into answer x = write (statement.Effect answer operation.Fetch None (e.Name x ∷ []))

-- the same with a variable of its own for the answer, which is the value
abbrev pub fetch_value : Option (List ℕ) → Step Expr
fetch_value x = do
  name ← give x
  answer ← variable
  fetch_into answer name
  pure (e.Name answer)

-- a call as an argument: `fetch(x)`, or a builtin function
abbrev pub call_value : Scope → Kind → Option (List ℕ) → Option Expr → Step Expr
call_value scope f x value = if is_fetch scope.names f then fetch_value x else give value

-- an argument of `println`: an expression, or `fetch(x)`
abbrev pub argument : Scope → Syntax → Step Expr
argument scope (bracket (called f) o most last c) =
    call_value scope (name_of f) (fetched scope most last) (call_of scope (name_of f) most last)
argument scope x = give (expression_of scope x)

-- the arguments before a comma each
abbrev pub arguments : Scope → Items → Step (List Expr)
arguments scope none = pure []
arguments scope (more x t others) =
    if is_comma t.kind then (argument scope x >>= (λ y. arguments scope others >>= (λ ys. pure (y ∷ ys)))) else refuse

abbrev pub last_argument : Scope → Maybe → Step (List Expr)
last_argument scope nothing = pure []
last_argument scope (just x) = do
  y ← argument scope x
  pure (y ∷ [])

abbrev pub all_arguments : Scope → Items → Maybe → Step (List Expr)
all_arguments scope most last = do
  xs ← arguments scope most
  ys ← last_argument scope last
  pure (xs ++ ys)

-- prints values, and has the answer as its own value
abbrev pub print : List Expr → Step (Unit {0})
print values = do
  answer ← variable
  write (statement.Effect answer operation.Print None values)
  write (statement.Value (e.Name answer))

-- a call of `println`
abbrev pub print_line : Scope → Syntax → Step (Unit {0})
print_line scope (bracket (called f) o most last c) =
    if is_word word.Println (name_of f) then (all_arguments scope most last >>= print) else refuse
print_line scope x = refuse

-- ---- assignments

abbrev pub set : List ℕ → Option Expr → Step (Unit {0})
set x value = do
  y ← give value
  write (statement.Set x y)

-- the call's body gets the next number
abbrev pub call_into : List ℕ → RemoteCall → Step (Unit {0})
call_into x call = do
  number ← body_number
  write (statement.Effect x operation.RemoteCall (Some (body_of number call.function)) (call.process ∷ call.argument ∷ []))

-- a call as a right side: `fetch(y)`, `remotecall(p -> e, w, a)`, or a builtin function
abbrev pub assign_call : Scope → List ℕ → Kind → Option (List ℕ) → Option RemoteCall → Option Expr → Step (Unit {0})
assign_call scope x f y call value =
    if is_fetch scope.names f then (give y >>= fetch_into x) else (if is_remote_call scope.names f then (give call >>= call_into x) else set x value)

-- `x = e`
abbrev pub assign : Scope → List ℕ → Syntax → Step (Unit {0})
assign scope x (bracket (called f) o most last c) =
    assign_call scope x (name_of f) (fetched scope most last) (remote_call scope most last) (call_of scope (name_of f) most last)
assign scope x e = set x (expression_of scope e)

-- ---- lines

-- a call of `println`, or an assignment
abbrev pub stmt_line : Scope → Stmt → Step (Unit {0})
stmt_line scope (ended bare x) = print_line scope x
stmt_line scope (ended (assigned n t) x) = give (name_in scope.names n.kind) >>= (λ name. assign scope name x)
stmt_line scope _ = refuse

-- what stands at a place: nothing, or a statement
abbrev pub line_at : Scope → Place → Step (Unit {0})
line_at scope empty = pure tt
line_at scope (stmt s) = stmt_line scope s

abbrev pub lines_of : Scope → Lines → Step (Unit {0})
lines_of scope no_lines = pure tt
lines_of scope (line ls m t) = lines_of scope ls >> line_at scope m

-- lines behind what was written
abbrev pub lines_on : Scope → Option (Unit {0} × Draft) → List (Place × Token) → Option (Unit {0} × Draft)
lines_on scope ran [] = ran
lines_on scope ran (m ∷ ms) = lines_on scope (and_then ran (λ _. line_at scope m.0)) ms

abbrev pub block_of : Scope → Block → Step (Unit {0})
block_of scope (block ls m) = lines_of scope ls >> line_at scope m

-- ---- programs

-- statements as the body of main
abbrev pub program_of : List a-stmt.Stmt → Program
program_of stmts = record { body = roll-Body (record { number = 0; parameters = []; block = roll-Block (record { stmts = stmts }) }) }

abbrev pub program_written : Option (Unit {0} × Draft) → Option Program
program_written None = None
program_written (Some ran) = Some (program_of ran.1.stmts)

-- the program of a script
abbrev pub lowered : Script → Option Program
lowered script = program_written (block_of (scope_of script) script.block nothing_written)

-- What holds of every script.
use Rattle.std.specs.Prelude.{◌≡◌, ℕ, zero, suc, ◌+◌, if◌then◌else◌, List, [], ◌∷◌, ◌++◌, map, flat_map, Option, Some, None, decimal}
use Rattle.jd_value.specs.declared.expr.Expr.{Expr}
use Rattle.jd_value.specs.declared.expr.Expr.TheVariants as e
use Rattle.jd_value.specs.declared.operation.Operation.TheVariants as operation
use Rattle.jd_value.specs.declared.tree.Stmt as a-stmt
use Rattle.jd_value.specs.declared.tree.Stmt.{out-Stmt}
use Rattle.jd_value.specs.declared.tree.Stmt.TheVariants as statement
use Rattle.jd_value.specs.declared.tree.Stmt.TheOpen.{Stmt-F}
use Rattle.jd_value.specs.declared.tree.Arm.{Arm}
use Rattle.jd_value.specs.declared.tree.Block as a-block
use Rattle.jd_value.specs.declared.tree.Block.{out-Block}
use Rattle.jd_value.specs.declared.tree.Body.{Body, out-Body}
use Rattle.jd_value.specs.declared.tree.Program.{Program}
use Rattle.jd_grammar.specs.declared.token.Word.{Word}
use Rattle.jd_grammar.specs.declared.token.Word.TheVariants as word
use Rattle.jd_grammar.specs.declared.token.Name.TheVariants as name
use Rattle.jd_grammar.specs.declared.token.Kind.TheVariants as kind
use Rattle.jd_grammar.specs.Kinds.{is_word}
use Rattle.jd_grammar.specs.Grammar.{Syntax, bracket, called, name_of}
use Rattle.jd_grammar.specs.Script.{Block, block, Lines, no_lines, line, Place, empty, stmt, ended, bare}
use Rattle.jd_syntax.specs.Spelling.{Script}
use Rattle.jd_lexer.specs.declared.words.TheConstants.{WORDS}
use Rattle.jd_lexer.specs.Words.{kind_among}
use Rattle.jd_lower.specs.declared.scope.Scope.{Scope}
use Rattle.jd_lower.specs.Names.{word_text}
use Rattle.jd_lower.specs.Scopes.{scope_of}
use Rattle.jd_lower.specs.Expressions.{all_of}
use Rattle.jd_lower.specs.Lowering.{program_of, lowered}

-- ---- names

-- A word is what the lexer makes of its spelling.
abbrev pub AreSpelledAsRead : Type 0
AreSpelledAsRead = (w : Word) → kind_among (map (λ row. (row.0.now, row.1)) WORDS) (word_text w) ≡ Some (kind.Name (name.Word w))

-- ---- what a script of `println` alone prints

-- what a call of `println` prints
abbrev pub quiet_call : Scope → Syntax → Option (List Expr)
quiet_call scope (bracket (called f) o most last c) =
    if is_word word.Println (name_of f) then all_of scope most last else None
quiet_call scope x = None

-- lines and one more, which prints these values
abbrev pub with_line : Option (List (List Expr)) → Option (List Expr) → Option (List (List Expr))
with_line None x = None
with_line (Some xs) None = None
with_line (Some xs) (Some x) = Some (xs ++ x ∷ [])

abbrev pub with_place : Scope → Option (List (List Expr)) → Place → Option (List (List Expr))
with_place scope xs empty = xs
with_place scope xs (stmt (ended bare x)) = with_line xs (quiet_call scope x)
with_place scope xs (stmt x) = None

abbrev pub quiet_lines : Scope → Lines → Option (List (List Expr))
quiet_lines scope no_lines = Some []
quiet_lines scope (line ls m t) = with_place scope (quiet_lines scope ls) m

abbrev pub quiet_block : Scope → Block → Option (List (List Expr))
quiet_block scope (block ls m) = with_place scope (quiet_lines scope ls) m

-- What the lines of a script print, in their order, where each line is empty or `println` of expressions, which wait for nothing.
abbrev pub printed_lines : Script → Option (List (List Expr))
printed_lines script = quiet_block (scope_of script) script.block

-- ---- their statements

-- the variable `%n`
abbrev pub numbered : ℕ → List ℕ
numbered n = 37 ∷ decimal n

-- what prints each line in its turn, behind as many effects
abbrev pub prints : ℕ → List (List Expr) → List a-stmt.Stmt
prints before [] = []
prints before (xs ∷ lines) =
    statement.Effect (numbered (before + 1)) operation.Print None xs ∷ statement.Value (e.Name (numbered (before + 1))) ∷ prints (before + 1) lines

abbrev pub PrintLinesInOrder : Type 0
PrintLinesInOrder = (script : Script) (lines : List (List Expr)) → printed_lines script ≡ Some lines → lowered script ≡ Some (program_of (prints 0 lines))

-- ---- the numbers of bodies

-- the number of the body that a statement calls, if it calls one
abbrev pub called_at : Stmt-F a-stmt.Stmt Arm a-block.Block Body → List ℕ
called_at (Stmt-F.Effect name operation (Some body) args) = (out-Body body).number ∷ []
called_at _ = []

-- the numbers of the bodies that statements call, in their order
abbrev pub called_by : List a-stmt.Stmt → List ℕ
called_by = flat_map (λ x. called_at (out-Stmt x))

-- the numbers from 1 to this one
abbrev pub up_to : ℕ → List ℕ
up_to zero = []
up_to (suc n) = up_to n ++ (n + 1) ∷ []

abbrev pub AreNumberedInOrder : Type 0
AreNumberedInOrder = (script : Script) (program : Program) → lowered script ≡ Some program →
    (count : ℕ) × (called_by (out-Block (out-Body program.body).block).stmts ≡ up_to count)

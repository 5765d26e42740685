-- The numbers of bodies, in the order in which they are called.
use Rattle.std.proofs.Common.{◌≡◌, ℕ, suc, ◌+◌, Bool, true, false, List, [], ◌∷◌, ◌++◌, Option, Some, None, unwrap_or, if◌then◌else◌, refl, sym, ap, subst, ◌∙◌, arith}
use Rattle.std.proofs.lemmas.Grind.{flat_map-append}
use Rattle.std.proofs.lemmas.Option.{none-some}
use Rattle.jd_value.specs.declared.expr.Expr.{Expr}
use Rattle.jd_value.specs.declared.expr.Expr.TheVariants as e
use Rattle.jd_value.specs.declared.operation.Operation.{Operation}
use Rattle.jd_value.specs.declared.operation.Operation.TheVariants as operation
use Rattle.jd_value.specs.declared.tree.Stmt.{Stmt, out-Stmt, out-roll-Stmt}
use Rattle.jd_value.specs.declared.tree.Stmt.TheVariants as statement
use Rattle.jd_value.specs.declared.tree.Stmt.TheOpen.{Stmt-F}
use Rattle.jd_value.specs.declared.tree.Arm.{Arm}
use Rattle.jd_value.specs.declared.tree.Body.{Body, out-Body, out-roll-Body}
use Rattle.jd_value.specs.declared.tree.Block.{Block, out-Block, out-roll-Block}
use Rattle.jd_value.specs.declared.tree.Program.{Program}
use Rattle.jd_grammar.specs.declared.token.Word.TheVariants as word
use Rattle.jd_grammar.specs.Kinds.{is_comma, is_word}
use Rattle.jd_grammar.specs.Grammar.{Syntax, bracket, called, Items, none, more, Maybe, nothing, just, name_of}
use Rattle.jd_grammar.specs.Script as script
use Rattle.jd_grammar.specs.Script.{block, Lines, no_lines, line, Place, empty, stmt, ended, bare, assigned}
use Rattle.jd_lower.specs.declared.draft.Draft.{Draft}
use Rattle.jd_lower.specs.declared.calls.RemoteCall.{RemoteCall}
use Rattle.jd_lower.specs.Steps.{Step, and_then, ◌>>=◌, ◌>>◌, pure, refuse, give, variable, write, nothing_written}
use Rattle.jd_lower.specs.Names.{name_in, is_fetch, is_remote_call}
use Rattle.jd_lower.specs.declared.scope.Scope.{Scope}
use Rattle.jd_lower.specs.Scopes.{scope_of}
use Rattle.jd_lower.specs.Expressions.{call_of, expression_of}
use Rattle.jd_lower.specs.Lowering.{body_of, remote_call, fetched, fetch_into, fetch_value, argument, arguments, last_argument, all_arguments, print, print_line, set, call_into, assign, stmt_line, line_at, lines_of, block_of, program_of, program_written}
use Rattle.jd_lower.specs.Laws.{called_at, called_by, up_to, AreNumberedInOrder}

-- the bodies that are called so far have the numbers that were given so far
abbrev Numbered : Draft → Type 0
Numbered s = called_by s.stmts ≡ up_to s.bodies

abbrev Leaves : {A : Type 0} → Option (A × Draft) → Type 0
Leaves {A = A} ran = (a : A) (t : Draft) → ran ≡ Some (a, t) → Numbered t

abbrev Keeps : {A : Type 0} → Step A → Type 0
Keeps p = (s : Draft) → Numbered s → Leaves (p s)

inner : {A : Type 0} (x y : A) → Some x ≡ Some y → x ≡ y
inner x y h = ap (λ o. unwrap_or o y) h

-- ---- steps

leaves_none : {A : Type 0} → Leaves {A = A} None
leaves_none {A = A} a t h = absurd (none-some {A = A × Draft} (a, t) h)

leaves : {A : Type 0} (a : A) (s : Draft) → Numbered s → Leaves (Some (a, s))
leaves {A = A} a s n b t h = subst Numbered (ap (λ (r : A × Draft). r.1) (inner {A = A × Draft} (a, s) (b, t) h)) n

leaves_then : {A B : Type 0} (ran : Option (A × Draft)) (f : A → Step B) → Leaves ran → ((a : A) → Keeps (f a)) → Leaves (and_then ran f)
leaves_then {A = A} {B = B} None f hp hf = leaves_none {A = B}
leaves_then (Some ran) f hp hf = hf ran.0 ran.1 (hp ran.0 ran.1 refl)

keeps_then : {A B : Type 0} (p : Step A) (f : A → Step B) → Keeps p → ((a : A) → Keeps (f a)) → Keeps (p >>= f)
keeps_then p f hp hf s n = leaves_then (p s) f (hp s n) hf

keeps_pure : {A : Type 0} (a : A) → Keeps (pure a)
keeps_pure a s n = leaves a s n

keeps_refuse : {A : Type 0} → Keeps (refuse {A = A})
keeps_refuse {A = A} s n = leaves_none {A = A}

keeps_give : {A : Type 0} (o : Option A) → Keeps (give o)
keeps_give {A = A} None = keeps_refuse {A = A}
keeps_give (Some a) = keeps_pure a

keeps_if : {A : Type 0} (b : Bool) (p q : Step A) → Keeps p → Keeps q → Keeps (if b then p else q)
keeps_if true p q hp hq = hp
keeps_if false p q hp hq = hq

keeps_variable : Keeps variable
keeps_variable s n = leaves _ (record s { effects = s.effects + 1 }) n

-- ---- statements

append_none : (ks : List ℕ) → ks ++ [] ≡ ks
append_none [] = refl
append_none (k ∷ ks) = ap (λ rest. k ∷ rest) (append_none ks)

up_more : (n : ℕ) → up_to n ++ (n + 1) ∷ [] ≡ up_to (n + 1)
up_more n = let next : suc n ≡ n + 1 = omega arith in ap up_to next

one_more : (xs : List Stmt) (x : Stmt) → called_by (xs ++ x ∷ []) ≡ called_by xs ++ (called_at (out-Stmt x) ++ [])
one_more xs x = flat_map-append (λ y. called_at (out-Stmt y)) xs (x ∷ [])

keeps_write : (x : Stmt-F Stmt Arm Block Body) (y : Stmt) → out-Stmt y ≡ x → called_at x ≡ [] → Keeps (write y)
keeps_write x y same calls s n =
    leaves tt (record s { stmts = s.stmts ++ y ∷ [] })
    (one_more s.stmts y ∙ ap (λ z. called_by s.stmts ++ (called_at z ++ [])) same ∙ ap (λ ks. called_by s.stmts ++ (ks ++ [])) calls ∙ append_none (called_by s.stmts) ∙ n)

keeps_set : (x : List ℕ) (y : Expr) → Keeps (write (statement.Set x y))
keeps_set x y = keeps_write (Stmt-F.Set x y) (statement.Set x y) (ap out-Stmt (sym (statement.rolls-Set x y)) ∙ out-roll-Stmt (Stmt-F.Set x y)) refl

keeps_value : (y : Expr) → Keeps (write (statement.Value y))
keeps_value y = keeps_write (Stmt-F.Value y) (statement.Value y) (ap out-Stmt (sym (statement.rolls-Value y)) ∙ out-roll-Stmt (Stmt-F.Value y)) refl

keeps_effect : (x : List ℕ) (o : Operation) (args : List Expr) → Keeps (write (statement.Effect x o None args))
keeps_effect x o args =
    keeps_write (Stmt-F.Effect x o None args) (statement.Effect x o None args) (ap out-Stmt (sym (statement.rolls-Effect x o None args)) ∙ out-roll-Stmt (Stmt-F.Effect x o None args)) refl

keeps_call : (x : List ℕ) (call : RemoteCall) → Keeps (call_into x call)
keeps_call x call s n =
    let body : Body = body_of (s.bodies + 1) call.function in
    let args : List Expr = call.process ∷ call.argument ∷ [] in
    let out : out-Stmt (statement.Effect x operation.RemoteCall (Some body) args) ≡ Stmt-F.Effect x operation.RemoteCall (Some body) args =
    ap out-Stmt (sym (statement.rolls-Effect x operation.RemoteCall (Some body) args)) ∙ out-roll-Stmt (Stmt-F.Effect x operation.RemoteCall (Some body) args) in
    let number : (out-Body body).number ≡ s.bodies + 1 = ap (λ b. b.number) (out-roll-Body _) in
    leaves tt (record s { bodies = s.bodies + 1; stmts = s.stmts ++ statement.Effect x operation.RemoteCall (Some body) args ∷ [] })
    (one_more s.stmts (statement.Effect x operation.RemoteCall (Some body) args) ∙ ap (λ z. called_by s.stmts ++ (called_at z ++ [])) out
    ∙ ap (λ k. called_by s.stmts ++ k ∷ []) number ∙ ap (λ ks. ks ++ (s.bodies + 1) ∷ []) n ∙ up_more s.bodies)

-- ---- lines

keeps_fetch : (x : Option (List ℕ)) → Keeps (fetch_value x)
keeps_fetch x =
    keeps_then (give x) (λ name. variable >>= (λ answer. fetch_into answer name >> pure (e.Name answer))) (keeps_give x)
    (λ name. keeps_then variable (λ answer. fetch_into answer name >> pure (e.Name answer)) keeps_variable
    (λ answer. keeps_then (fetch_into answer name) (λ _. pure (e.Name answer)) (keeps_effect answer operation.Fetch (e.Name name ∷ [])) (λ _. keeps_pure (e.Name answer))))

keeps_argument : (scope : Scope) (x : Syntax) → Keeps (argument scope x)
keeps_argument scope (bracket (called f) o most last c) =
    keeps_if (is_fetch scope.names (name_of f)) (fetch_value (fetched scope most last)) (give (call_of scope (name_of f) most last)) (keeps_fetch (fetched scope most last)) (keeps_give (call_of scope (name_of f) most last))
keeps_argument scope x = keeps_give (expression_of scope x)

keeps_arguments : (scope : Scope) (xs : Items) → Keeps (arguments scope xs)
keeps_arguments scope none = keeps_pure []
keeps_arguments scope (more x t xs) =
    keeps_if (is_comma t.kind) (argument scope x >>= (λ y. arguments scope xs >>= (λ ys. pure (y ∷ ys)))) refuse
    (keeps_then (argument scope x) (λ y. arguments scope xs >>= (λ ys. pure (y ∷ ys))) (keeps_argument scope x)
    (λ y. keeps_then (arguments scope xs) (λ ys. pure (y ∷ ys)) (keeps_arguments scope xs) (λ ys. keeps_pure (y ∷ ys))))
    keeps_refuse

keeps_last : (scope : Scope) (last : Maybe) → Keeps (last_argument scope last)
keeps_last scope nothing = keeps_pure []
keeps_last scope (just x) = keeps_then (argument scope x) (λ y. pure (y ∷ [])) (keeps_argument scope x) (λ y. keeps_pure (y ∷ []))

keeps_all : (scope : Scope) (most : Items) (last : Maybe) → Keeps (all_arguments scope most last)
keeps_all scope most last =
    keeps_then (arguments scope most) (λ xs. last_argument scope last >>= (λ ys. pure (xs ++ ys))) (keeps_arguments scope most)
    (λ xs. keeps_then (last_argument scope last) (λ ys. pure (xs ++ ys)) (keeps_last scope last) (λ ys. keeps_pure (xs ++ ys)))

keeps_print : (values : List Expr) → Keeps (print values)
keeps_print values =
    keeps_then variable (λ answer. write (statement.Effect answer operation.Print None values) >> write (statement.Value (e.Name answer))) keeps_variable
    (λ answer. keeps_then (write (statement.Effect answer operation.Print None values)) (λ _. write (statement.Value (e.Name answer))) (keeps_effect answer operation.Print values)
    (λ _. keeps_value (e.Name answer)))

keeps_line : (scope : Scope) (x : Syntax) → Keeps (print_line scope x)
keeps_line scope (bracket (called f) o most last c) =
    keeps_if (is_word word.Println (name_of f)) (all_arguments scope most last >>= print) refuse
    (keeps_then (all_arguments scope most last) print (keeps_all scope most last) keeps_print) keeps_refuse
keeps_line scope x = keeps_refuse

keeps_value_in : (x : List ℕ) (value : Option Expr) → Keeps (set x value)
keeps_value_in x value = keeps_then (give value) (λ y. write (statement.Set x y)) (keeps_give value) (keeps_set x)

keeps_fetched : (x : List ℕ) (y : Option (List ℕ)) → Keeps (give y >>= fetch_into x)
keeps_fetched x y = keeps_then (give y) (fetch_into x) (keeps_give y) (λ name. keeps_effect x operation.Fetch (e.Name name ∷ []))

keeps_assign : (scope : Scope) (x : List ℕ) (right : Syntax) → Keeps (assign scope x right)
keeps_assign scope x (bracket (called f) o most last c) =
    keeps_if (is_fetch scope.names (name_of f)) (give (fetched scope most last) >>= fetch_into x)
    (if is_remote_call scope.names (name_of f) then (give (remote_call scope most last) >>= call_into x) else set x (call_of scope (name_of f) most last))
    (keeps_fetched x (fetched scope most last))
    (keeps_if (is_remote_call scope.names (name_of f)) (give (remote_call scope most last) >>= call_into x) (set x (call_of scope (name_of f) most last))
    (keeps_then (give (remote_call scope most last)) (call_into x) (keeps_give (remote_call scope most last)) (keeps_call x))
    (keeps_value_in x (call_of scope (name_of f) most last)))
keeps_assign scope x right = keeps_value_in x (expression_of scope right)

keeps_stmt : (scope : Scope) (x : script.Stmt) → Keeps (stmt_line scope x)
keeps_stmt scope (ended bare x) = keeps_line scope x
keeps_stmt scope (ended (assigned n t) x) =
    keeps_then (give (name_in scope.names n.kind)) (λ name. assign scope name x) (keeps_give (name_in scope.names n.kind)) (λ name. keeps_assign scope name x)
keeps_stmt scope x = keeps_refuse

keeps_place : (scope : Scope) (m : Place) → Keeps (line_at scope m)
keeps_place scope empty = keeps_pure tt
keeps_place scope (stmt x) = keeps_stmt scope x

keeps_lines : (scope : Scope) (ls : Lines) → Keeps (lines_of scope ls)
keeps_lines scope no_lines = keeps_pure tt
keeps_lines scope (line ls m t) = keeps_then (lines_of scope ls) (λ _. line_at scope m) (keeps_lines scope ls) (λ _. keeps_place scope m)

keeps_block : (scope : Scope) (b : script.Block) → Keeps (block_of scope b)
keeps_block scope (block ls m) = keeps_then (lines_of scope ls) (λ _. line_at scope m) (keeps_lines scope ls) (λ _. keeps_place scope m)

-- ---- programs

abbrev stmts_of : Program → List Stmt
stmts_of program = (out-Block (out-Body program.body).block).stmts

made_of : (stmts : List Stmt) → stmts_of (program_of stmts) ≡ stmts
made_of stmts = ap (λ b. (out-Block b.block).stmts) (out-roll-Body _) ∙ ap (λ b. b.stmts) (out-roll-Block _)

in_program : (ran : Option (Unit {0} × Draft)) (program : Program) → Leaves ran → program_written ran ≡ Some program → (count : ℕ) × (called_by (stmts_of program) ≡ up_to count)
in_program None program hp h = absurd (none-some program h)
in_program (Some ran) program hp h =
    (ran.1.bodies, ap (λ p. called_by (stmts_of p)) (sym (inner (program_of ran.1.stmts) program h)) ∙ ap called_by (made_of ran.1.stmts) ∙ hp ran.0 ran.1 refl)

pub numbered : AreNumberedInOrder
numbered s program h = in_program (block_of (scope_of s) s.block nothing_written) program (keeps_block (scope_of s) s.block nothing_written refl) h

-- Scripts of `println` alone.
use Rattle.std.proofs.Common.{◌≡◌, ℕ, ◌+◌, Bool, true, false, List, [], ◌∷◌, ◌++◌, length, Option, Some, None, unwrap_or, if◌then◌else◌, refl, sym, ap, ◌∙◌, arith}
use Rattle.std.proofs.lemmas.List.{length-append}
use Rattle.std.proofs.lemmas.Option.{none-some}
use Rattle.jd_value.specs.declared.expr.Expr.{Expr}
use Rattle.jd_value.specs.declared.expr.Expr.TheVariants as e
use Rattle.jd_value.specs.declared.operation.Operation.TheVariants as operation
use Rattle.jd_value.specs.declared.tree.Stmt as a-stmt
use Rattle.jd_value.specs.declared.tree.Stmt.TheVariants as statement
use Rattle.jd_grammar.specs.declared.token.Word.TheVariants as word
use Rattle.jd_grammar.specs.Kinds.{is_comma, is_word}
use Rattle.jd_grammar.specs.Grammar.{Syntax, bracket, called, Items, none, more, Maybe, nothing, just, name_of}
use Rattle.jd_grammar.specs.Script.{Block, block, Lines, no_lines, line, Place, empty, stmt, ended, bare}
use Rattle.jd_lower.specs.declared.draft.Draft.{Draft}
use Rattle.jd_lower.specs.Steps.{Step, and_then, ◌>>=◌, pure, refuse, give, nothing_written}
use Rattle.std.specs.Str.{bytes_eq}
use Rattle.std.proofs.lemmas.Slice.Eq.{bytes_eq-Decides}
use Rattle.jd_grammar.specs.declared.token.Kind.{Kind}
use Rattle.jd_grammar.specs.declared.token.Kind.TheVariants as kind
use Rattle.jd_lower.specs.declared.scope.Scope.{Scope}
use Rattle.jd_lower.specs.Scopes.{is_bound, scope_of}
use Rattle.jd_lower.specs.Names.{name_text, fetch_text, is_fetch}
use Rattle.jd_lower.specs.Builtins.{builtin_named, function, is_of_int, call}
use Rattle.jd_lower.specs.Expressions.{cons, followed_by, expression_of, expressions_of, last_of, all_of, call_of}
use Rattle.jd_lower.specs.Lowering.{fetched, fetch_value, argument, arguments, last_argument, all_arguments, print, print_line, line_at, lines_of, block_of, program_written}
use Rattle.jd_lower.specs.Laws.{quiet_call, with_line, with_place, quiet_lines, quiet_block, numbered, prints, PrintLinesInOrder}

-- equal values, where there are values
inner : {A : Type 0} (x y : A) → Some x ≡ Some y → x ≡ y
inner x y h = ap (λ o. unwrap_or o y) h

given : {A : Type 0} (o : Option A) (a : A) (s : Draft) → o ≡ Some a → give o s ≡ Some (a, s)
given o a s h = ap (λ p. give p s) h

-- ---- arguments

-- `fetch` is the name of no builtin function
fetch_is_no_builtin : builtin_named fetch_text ≡ None
unfolding builtin_named fetch_text
fetch_is_no_builtin = refl

spelled_so : (b : Bool) (name : List ℕ) → bytes_eq name fetch_text ≡ true → (if b then None else builtin_named name) ≡ None
spelled_so true name h = refl
spelled_so false name h = ap builtin_named ((bytes_eq-Decides name fetch_text).0 h) ∙ fetch_is_no_builtin

fetch_calls_none : (scope : Scope) (f : Kind) → is_fetch scope.names f ≡ true → function scope f ≡ None
fetch_calls_none scope (kind.Name n) h = spelled_so (is_bound scope.bound n) (name_text scope.names n) h
fetch_calls_none scope f h = refl

by_fetch : (b : Bool) (p : Step Expr) (o : Option Expr) (y : Expr) (s : Draft) → (b ≡ true → o ≡ None) → o ≡ Some y → (if b then p else give o) s ≡ Some (y, s)
by_fetch true p o y s hn h = absurd (none-some y (sym (hn refl) ∙ h))
by_fetch false p o y s hn h = given o y s h

one_argument : (scope : Scope) (x : Syntax) (y : Expr) (s : Draft) → expression_of scope x ≡ Some y → argument scope x s ≡ Some (y, s)
one_argument scope (bracket (called f) o most last c) y s h =
    by_fetch (is_fetch scope.names (name_of f)) (fetch_value (fetched scope most last)) (call_of scope (name_of f) most last) y s
    (λ b. ap (λ g. call g (is_of_int scope most last) (all_of scope most last)) (fetch_calls_none scope (name_of f) b)) h
one_argument scope x y s h = given (expression_of scope x) y s h

one_more : (b : Bool) (v : Option Expr) (p : Step Expr) (vs : Option (List Expr)) (q : Step (List Expr)) (s : Draft) (ys : List Expr) →
    ((y : Expr) → v ≡ Some y → p s ≡ Some (y, s)) → ((zs : List Expr) → vs ≡ Some zs → q s ≡ Some (zs, s)) →
    (if b then cons v vs else None) ≡ Some ys → (if b then (p >>= (λ y. q >>= (λ zs. pure (y ∷ zs)))) else refuse) s ≡ Some (ys, s)
one_more true (Some y) p (Some zs) q s ys hp hq h =
    ap (λ ran. and_then ran (λ x. q >>= (λ xs. pure (x ∷ xs)))) (hp y refl) ∙ ap (λ ran. and_then ran (λ xs. pure (y ∷ xs))) (hq zs refl)
    ∙ ap (λ xs. Some (xs, s)) (inner (y ∷ zs) ys h)
one_more true None p vs q s ys hp hq h = absurd (none-some ys h)
one_more true (Some y) p None q s ys hp hq h = absurd (none-some ys h)
one_more false v p vs q s ys hp hq h = absurd (none-some ys h)

most_arguments : (scope : Scope) (xs : Items) (ys : List Expr) (s : Draft) → expressions_of scope xs ≡ Some ys → arguments scope xs s ≡ Some (ys, s)
most_arguments scope none ys s h = ap (λ xs. Some (xs, s)) (inner [] ys h)
most_arguments scope (more x t xs) ys s h =
    one_more (is_comma t.kind) (expression_of scope x) (argument scope x) (expressions_of scope xs) (arguments scope xs) s ys (λ y. one_argument scope x y s) (λ zs. most_arguments scope xs zs s) h

only_argument : (v : Option Expr) (p : Step Expr) (s : Draft) (ys : List Expr) → ((y : Expr) → v ≡ Some y → p s ≡ Some (y, s)) →
    cons v (Some []) ≡ Some ys → and_then (p s) (λ y. pure (y ∷ [])) ≡ Some (ys, s)
only_argument None p s ys hp h = absurd (none-some ys h)
only_argument (Some y) p s ys hp h = ap (λ ran. and_then ran (λ x. pure (x ∷ []))) (hp y refl) ∙ ap (λ xs. Some (xs, s)) (inner (y ∷ []) ys h)

the_last : (scope : Scope) (last : Maybe) (ys : List Expr) (s : Draft) → last_of scope last ≡ Some ys → last_argument scope last s ≡ Some (ys, s)
the_last scope nothing ys s h = ap (λ xs. Some (xs, s)) (inner [] ys h)
the_last scope (just x) ys s h = only_argument (expression_of scope x) (argument scope x) s ys (λ y. one_argument scope x y s) h

both_parts : (v w : Option (List Expr)) (p q : Step (List Expr)) (s : Draft) (ys : List Expr) →
    ((xs : List Expr) → v ≡ Some xs → p s ≡ Some (xs, s)) → ((zs : List Expr) → w ≡ Some zs → q s ≡ Some (zs, s)) →
    followed_by v w ≡ Some ys → and_then (p s) (λ xs. q >>= (λ zs. pure (xs ++ zs))) ≡ Some (ys, s)
both_parts None w p q s ys hp hq h = absurd (none-some ys h)
both_parts (Some xs) None p q s ys hp hq h = absurd (none-some ys h)
both_parts (Some xs) (Some zs) p q s ys hp hq h =
    ap (λ ran. and_then ran (λ us. q >>= (λ vs. pure (us ++ vs)))) (hp xs refl) ∙ ap (λ ran. and_then ran (λ vs. pure (xs ++ vs))) (hq zs refl)
    ∙ ap (λ us. Some (us, s)) (inner (xs ++ zs) ys h)

whole_call : (scope : Scope) (most : Items) (last : Maybe) (ys : List Expr) (s : Draft) → all_of scope most last ≡ Some ys → all_arguments scope most last s ≡ Some (ys, s)
whole_call scope most last ys s h =
    both_parts (expressions_of scope most) (last_of scope last) (arguments scope most) (last_argument scope last) s ys
    (λ xs. most_arguments scope most xs s) (λ zs. the_last scope last zs s) h

-- ---- calls

by_println : (b : Bool) (v : Option (List Expr)) (p : Step (List Expr)) (s : Draft) (ys : List Expr) → ((zs : List Expr) → v ≡ Some zs → p s ≡ Some (zs, s)) →
    (if b then v else None) ≡ Some ys → (if b then (p >>= print) else refuse) s ≡ print ys s
by_println true v p s ys hp h = ap (λ ran. and_then ran print) (hp ys h)
by_println false v p s ys hp h = absurd (none-some ys h)

one_call : (scope : Scope) (x : Syntax) (ys : List Expr) (s : Draft) → quiet_call scope x ≡ Some ys → print_line scope x s ≡ print ys s
one_call scope (bracket (called f) o most last c) ys s h =
    by_println (is_word word.Println (name_of f)) (all_of scope most last) (all_arguments scope most last) s ys
    (λ zs. whole_call scope most last zs s) h
one_call scope x ys s h = absurd (none-some ys h)

-- ---- lines

abbrev effect : ℕ → List Expr → a-stmt.Stmt
effect before xs = statement.Effect (numbered (before + 1)) operation.Print None xs

abbrev value : ℕ → a-stmt.Stmt
value before = statement.Value (e.Name (numbered (before + 1)))

prints_end : (n : ℕ) (lines : List (List Expr)) (xs : List Expr) →
    prints n (lines ++ xs ∷ []) ≡ (prints n lines ++ effect (n + length lines) xs ∷ []) ++ value (n + length lines) ∷ []
prints_end n [] xs = let same : n ≡ n + length {A = List Expr} [] = omega arith in ap (λ k. effect k xs ∷ value k ∷ []) same
prints_end n (l ∷ lines) xs =
    let same : n + 1 + length lines ≡ n + length (l ∷ lines) = omega arith in
    ap (λ rest. effect n l ∷ value n ∷ rest) (prints_end (n + 1) lines xs)
    ∙ ap (λ k. effect n l ∷ value n ∷ ((prints (n + 1) lines ++ effect k xs ∷ []) ++ value k ∷ [])) same

-- what is written behind these lines
abbrev printed : List (List Expr) → Draft
printed lines = record { effects = length lines; bodies = 0; stmts = prints 0 lines }

printed_more : (lines : List (List Expr)) (xs : List Expr) → print xs (printed lines) ≡ Some (tt, printed (lines ++ xs ∷ []))
printed_more lines xs =
    let same : 0 + length lines ≡ length lines = omega arith in
    let count : length lines + 1 ≡ length (lines ++ xs ∷ []) = sym (length-append lines (xs ∷ [])) in
    let stmts : (prints 0 lines ++ effect (length lines) xs ∷ []) ++ value (length lines) ∷ [] ≡ prints 0 (lines ++ xs ∷ []) =
    sym (prints_end 0 lines xs ∙ ap (λ k. (prints 0 lines ++ effect k xs ∷ []) ++ value k ∷ []) same) in
    ap (λ (p : ℕ × List a-stmt.Stmt). Some (tt, record { effects = p.0; bodies = 0; stmts = p.1 })) (ap (λ k. (k, (prints 0 lines ++ effect (length lines) xs ∷ []) ++ value (length lines) ∷ [])) count ∙ ap (λ ss. (length (lines ++ xs ∷ []), ss)) stmts)

one_line : (lines : Option (List (List Expr))) (ran : Option (Unit {0} × Draft)) (v : Option (List Expr)) (p : Step (Unit {0})) (after : List (List Expr)) →
    ((before : List (List Expr)) → lines ≡ Some before → ran ≡ Some (tt, printed before)) → ((ys : List Expr) (s : Draft) → v ≡ Some ys → p s ≡ print ys s) →
    with_line lines v ≡ Some after → and_then ran (λ _. p) ≡ Some (tt, printed after)
one_line None ran v p after hr hp h = absurd (none-some after h)
one_line (Some before) ran None p after hr hp h = absurd (none-some after h)
one_line (Some before) ran (Some ys) p after hr hp h =
    ap (λ r. and_then r (λ _. p)) (hr before refl) ∙ hp ys (printed before) refl ∙ printed_more before ys ∙ ap (λ ls. Some (tt, printed ls)) (inner (before ++ ys ∷ []) after h)

one_place : (scope : Scope) (lines : Option (List (List Expr))) (ran : Option (Unit {0} × Draft)) (m : Place) (after : List (List Expr)) →
    ((before : List (List Expr)) → lines ≡ Some before → ran ≡ Some (tt, printed before)) →
    with_place scope lines m ≡ Some after → and_then ran (λ _. line_at scope m) ≡ Some (tt, printed after)
one_place scope lines ran empty after hr h = ap (λ r. and_then r (λ _. pure tt)) (hr after h)
one_place scope lines ran (stmt (ended bare x)) after hr h = one_line lines ran (quiet_call scope x) (print_line scope x) after hr (one_call scope x) h
one_place scope lines ran (stmt x) after hr h = absurd (none-some after h)

most_lines : (scope : Scope) (ls : Lines) (after : List (List Expr)) → quiet_lines scope ls ≡ Some after → lines_of scope ls nothing_written ≡ Some (tt, printed after)
most_lines scope no_lines after h = ap (λ ls. Some (tt, printed ls)) (inner [] after h)
most_lines scope (line ls m t) after h = one_place scope (quiet_lines scope ls) (lines_of scope ls nothing_written) m after (most_lines scope ls) h

all_lines : (scope : Scope) (b : Block) (after : List (List Expr)) → quiet_block scope b ≡ Some after → block_of scope b nothing_written ≡ Some (tt, printed after)
all_lines scope (block ls m) after h = one_place scope (quiet_lines scope ls) (lines_of scope ls nothing_written) m after (most_lines scope ls) h

pub in_order : PrintLinesInOrder
in_order script lines h = ap program_written (all_lines (scope_of script) script.block lines h)

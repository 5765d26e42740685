-- Lowering part by part and line by line.
use Rattle.std.proofs.Common.{◌≡◌, ℕ, ◌+◌, ◌<◌, ◌≤◌, List, [], ◌∷◌, ◌++◌, map, drop, get_or, length, Bool, true, if◌then◌else◌, Option, Some, None, Result, Err, option_map, unwrap_or, refl, sym, ap, subst, ◌∙◌, append_assoc, add-one, arith}
use Rattle.std.proofs.Math.Seq.{drop-cons}
use Rattle.std.proofs.lemmas.Option.{none-some}
use Rattle.jd_value.specs.declared.expr.Expr.TheVariants as e
use Rattle.jd_value.specs.declared.expr.Expr.{Expr}
use Rattle.jd_grammar.specs.declared.token.Token.{Token}
use Rattle.jd_grammar.specs.declared.token.Kind.{Kind}
use Rattle.jd_grammar.specs.declared.token.Kind.TheVariants as kind
use Rattle.jd_grammar.specs.Trees.{Syntax, leaf, ending, binary, Maybe, just}
use Rattle.jd_grammar.specs.Grammar.{name_of}
use Rattle.jd_grammar.specs.Kinds.{is_comma}
use Rattle.jd_grammar.specs.Script.{Lines, no_lines, line, Place}
use Rattle.jd_tree.specs.declared.tree.Application.{Application}
use Rattle.jd_tree.specs.declared.tree.Expr as code
use Rattle.jd_tree.specs.declared.tree.Expr.TheVariants as variant
use Rattle.jd_tree.specs.declared.tree.Item.{Item, out-Item}
use Rattle.jd_tree.specs.declared.tree.Listing.{Listing, out-Listing}
use Rattle.jd_tree.specs.declared.tree.Operation.{Operation}
use Rattle.jd_script.specs.declared.tree.Line.{Line as Written, out-Line, roll-out-Line}
use Rattle.jd_script.specs.declared.tree.Block as code-block
use Rattle.jd_script.specs.declared.tree.Block.{out-Block, roll-out-Block}
use Rattle.jd_tree.specs.Plain as Plain
use Rattle.jd_tree.specs.Plain.{Inside, Suffix, indexes, apply, plain, plain_application, plain_item, plain_listing, plain_operation, items_of, maybe, operated, applied}
use Rattle.jd_script.specs.PlainScript.{lines_from, place_of, plain_stmt, plain_line, plain_block}
use Rattle.jd_tree.proofs.Levels.{plain_binary, plain_index}
use Rattle.jd_script.proofs.Statements.{one_line, one_block}
use Rattle.jd_lower.specs.declared.draft.Draft.{Draft}
use Rattle.jd_lower.specs.declared.fault.LowerFault.{LowerFault}
use Rattle.jd_lower.specs.declared.fault.LowerFault.TheVariants.{NotBuilt, OutOfMemory}
use Rattle.jd_lower.specs.Steps.{Step, and_then, ◌>>=◌, pure, refuse, Gives, Lowers}
use Rattle.jd_lower.specs.declared.scope.Scope.{Scope}
use Rattle.jd_lower.specs.Operators.{of_two}
use Rattle.jd_lower.specs.Names.{name_text}
use Rattle.jd_lower.specs.Literals.{operand}
use Rattle.jd_lower.specs.Builtins.{function, is_of_int, call}
use Rattle.jd_lower.specs.Expressions.{element, expression_of, all_of, call_of, with_operations, with_suffix, with_suffixes}
use Rattle.jd_lower.specs.Lowering.{remote_call, argument, arguments, last_argument, all_arguments, line_at, lines_of, lines_on, block_of}
use Rattle.jd_lower.proofs.Trees.{item_plain, listing_most, listing_last}

-- ---- operators

operations_none : (scope : Scope) (os : List (Token × Syntax)) → with_operations scope None os ≡ None
operations_none scope [] = refl
operations_none scope (o ∷ os) = operations_none scope os

operations_of : (scope : Scope) (e : Syntax) (os : List (Token × Syntax)) → expression_of scope (operated e os) ≡ with_operations scope (expression_of scope e) os
operations_of scope e [] = refl
operations_of scope e (o ∷ os) = operations_of scope (ending (binary e o.0) o.1) os

operation_step : (scope : Scope) (x : Option Expr) (all : List Operation) (i : ℕ) (o : Operation) → i < length all → o ≡ get_or all i o →
    with_operations scope x (map plain_operation (drop i all))
    ≡ with_operations scope (of_two (plain_operation o).0.kind x (expression_of scope (plain_operation o).1)) (map plain_operation (drop (i + 1) all))
operation_step scope x all i o le e =
    let front : drop i all ≡ o ∷ drop (i + 1) all = rw (add-one, drop-cons all i o) (rw (← e) refl) in
    ap (λ os. with_operations scope x (map plain_operation os)) front

-- an operator that is refused
pub operation_fails : (scope : Scope) (x : Option Expr) (all : List Operation) (i : ℕ) (o : Operation) (f : LowerFault) → i < length all → o ≡ get_or all i o →
    Lowers (of_two (plain_operation o).0.kind x (expression_of scope (plain_operation o).1)) (Err f) → Lowers (with_operations scope x (map plain_operation (drop i all))) (Err f)
operation_fails scope x all i o OutOfMemory le e h = tt
operation_fails scope x all i o NotBuilt le e h =
    operation_step scope x all i o le e ∙ ap (λ y. with_operations scope y (map plain_operation (drop (i + 1) all))) h ∙ operations_none scope (map plain_operation (drop (i + 1) all))

-- an operand, the operators behind it, and the last one
module _ (scope : Scope) (x first : code.Expr) (os : List Operation) (o : Operation) (is : x ≡ variant.Binary first os o) where
  lowers_as : (y : Option Expr) → expression_of scope (operated (plain first) (map plain_operation os)) ≡ y →
      expression_of scope (plain x) ≡ of_two (plain_operation o).0.kind y (expression_of scope (plain_operation o).1)
  lowers_as y h = ap (λ e. expression_of scope (plain e)) is ∙ ap (expression_of scope) (plain_binary first os o) ∙ ap (λ z. of_two (plain_operation o).0.kind z (expression_of scope (plain_operation o).1)) h

  pub binary_lowers : (y z : Expr) (r : Result Expr LowerFault) → expression_of scope (plain first) ≡ Some y → with_operations scope (Some y) (map plain_operation os) ≡ Some z
      → Lowers (of_two (plain_operation o).0.kind (Some z) (expression_of scope (plain_operation o).1)) r → Lowers (expression_of scope (plain x)) r
  binary_lowers y z r h k l =
      let e = operations_of scope (plain first) (map plain_operation os) ∙ ap (λ w. with_operations scope w (map plain_operation os)) h ∙ k in
      subst (λ w. Lowers w r) (sym (lowers_as (Some z) e)) l

  pub binary_stops : (y : Expr) (f : LowerFault) → expression_of scope (plain first) ≡ Some y → Lowers (with_operations scope (Some y) (map plain_operation os)) (Err f) → Lowers (expression_of scope (plain x)) (Err f)
  binary_stops y OutOfMemory h k = tt
  binary_stops y NotBuilt h k =
      lowers_as None (operations_of scope (plain first) (map plain_operation os) ∙ ap (λ w. with_operations scope w (map plain_operation os)) h ∙ k)

  pub first_stops : (f : LowerFault) → Lowers (expression_of scope (plain first)) (Err f) → Lowers (expression_of scope (plain x)) (Err f)
  first_stops OutOfMemory h = tt
  first_stops NotBuilt h =
      lowers_as None
      (operations_of scope (plain first) (map plain_operation os) ∙ ap (λ w. with_operations scope w (map plain_operation os)) h ∙ operations_none scope (map plain_operation os))

-- ---- calls and indexes behind one another

-- what has no value has no name that calls a function
no_function : (scope : Scope) (k : Kind) → operand scope k ≡ None → function scope k ≡ None
no_function scope (kind.Name n) h = absurd (none-some (e.Name (name_text scope.names n)) (sym h))
no_function scope k h = refl

no_call : (scope : Scope) (x : Syntax) (l : Inside) → expression_of scope x ≡ None → call_of scope (name_of x) l.most l.last ≡ None
no_call scope (leaf t) l h = ap (λ f. call f (is_of_int scope l.most l.last) (all_of scope l.most l.last)) (no_function scope t.kind h)
no_call scope x l h = refl

suffix_none : (scope : Scope) (x : Syntax) (s : Suffix) → expression_of scope x ≡ None → with_suffix scope (name_of x) None s ≡ None
suffix_none scope x (Plain.arguments l) h = no_call scope x l h
suffix_none scope x (indexes l) h = refl

suffixes_none : (scope : Scope) (ss : List Suffix) → with_suffixes scope kind.Comma None ss ≡ None
suffixes_none scope [] = refl
suffixes_none scope (Plain.arguments l ∷ ss) = suffixes_none scope ss
suffixes_none scope (indexes l ∷ ss) = suffixes_none scope ss

all_suffixes_none : (scope : Scope) (x : Syntax) (ss : List Suffix) → expression_of scope x ≡ None → with_suffixes scope (name_of x) None ss ≡ None
all_suffixes_none scope x [] h = refl
all_suffixes_none scope x (s ∷ ss) h = ap (λ y. with_suffixes scope kind.Comma y ss) (suffix_none scope x s h) ∙ suffixes_none scope ss

suffixes_of : (scope : Scope) (x : Syntax) (ss : List Suffix) → expression_of scope (applied x ss) ≡ with_suffixes scope (name_of x) (expression_of scope x) ss
suffixes_of scope x [] = refl
suffixes_of scope x (Plain.arguments l ∷ ss) = suffixes_of scope (apply x (Plain.arguments l)) ss
suffixes_of scope x (indexes l ∷ ss) = suffixes_of scope (apply x (indexes l)) ss

-- one that is refused
pub suffix_fails : (scope : Scope) (f : Kind) (x : Option Expr) (all : List Application) (i : ℕ) (s : Application) (fault : LowerFault) → i < length all → s ≡ get_or all i s →
    Lowers (with_suffix scope f x (plain_application s)) (Err fault) → Lowers (with_suffixes scope f x (map plain_application (drop i all))) (Err fault)
suffix_fails scope f x all i s OutOfMemory le e h = tt
suffix_fails scope f x all i s NotBuilt le e h =
    let front : drop i all ≡ s ∷ drop (i + 1) all = rw (add-one, drop-cons all i s) (rw (← e) refl) in
    ap (λ ss. with_suffixes scope f x (map plain_application ss)) front
    ∙ ap (λ y. with_suffixes scope kind.Comma y (map plain_application (drop (i + 1) all))) h ∙ suffixes_none scope (map plain_application (drop (i + 1) all))

-- an operand, what stands behind it, and the last indexes
module _ (scope : Scope) (x f : code.Expr) (os : List Application) (l : Listing) (is : x ≡ variant.Index f os l) where
  abbrev places : Option (List Expr)
  places = all_of scope (plain_listing l).most (plain_listing l).last

  indexed_as : (y : Option Expr) → with_suffixes scope (name_of (plain f)) (expression_of scope (plain f)) (map plain_application os) ≡ y → expression_of scope (plain x) ≡ element y places
  indexed_as y h =
      ap (λ e. expression_of scope (plain e)) is ∙ ap (expression_of scope) (plain_index f os l)
      ∙ ap (λ z. element z places) (suffixes_of scope (plain f) (map plain_application os) ∙ h)

  pub index_lowers : (y z : Expr) (r : Result Expr LowerFault) → expression_of scope (plain f) ≡ Some y → with_suffixes scope (name_of (plain f)) (Some y) (map plain_application os) ≡ Some z
      → Lowers (element (Some z) places) r → Lowers (expression_of scope (plain x)) r
  index_lowers y z r h k last =
      subst (λ w. Lowers w r) (sym (indexed_as (Some z) (ap (λ w. with_suffixes scope (name_of (plain f)) w (map plain_application os)) h ∙ k))) last

  pub index_stops : (y : Expr) (fault : LowerFault) → expression_of scope (plain f) ≡ Some y
      → Lowers (with_suffixes scope (name_of (plain f)) (Some y) (map plain_application os)) (Err fault) → Lowers (expression_of scope (plain x)) (Err fault)
  index_stops y OutOfMemory h k = tt
  index_stops y NotBuilt h k = indexed_as None (ap (λ w. with_suffixes scope (name_of (plain f)) w (map plain_application os)) h ∙ k)

  pub indexed_stops : (fault : LowerFault) → Lowers (expression_of scope (plain f)) (Err fault) → Lowers (expression_of scope (plain x)) (Err fault)
  indexed_stops OutOfMemory h = tt
  indexed_stops NotBuilt h =
      indexed_as None (ap (λ w. with_suffixes scope (name_of (plain f)) w (map plain_application os)) h ∙ all_suffixes_none scope (plain f) (map plain_application os) h)

-- ---- arguments of a call

-- a remote call has a function and a process before its argument
parts_less : (scope : Scope) (es : List Item) (last : Maybe) → length es < 2 → remote_call scope (items_of (map plain_item es)) last ≡ None
parts_less scope [] last h = refl
parts_less scope (e ∷ []) last h = refl
parts_less scope (e ∷ (d ∷ es)) last h = absurd (omega arith)

parts_more : (scope : Scope) (es : List Item) (last : Maybe) → 3 ≤ length es → remote_call scope (items_of (map plain_item es)) last ≡ None
parts_more scope [] last h = absurd (omega arith)
parts_more scope (e ∷ []) last h = absurd (omega arith)
parts_more scope (e ∷ (d ∷ [])) last h = absurd (omega arith)
parts_more scope (e ∷ (d ∷ (c ∷ es))) last h = refl

pub call_less : (scope : Scope) (l : Listing) → length (out-Listing l).items < 2 → remote_call scope (plain_listing l).most (plain_listing l).last ≡ None
call_less scope l h = ap (λ most. remote_call scope most (plain_listing l).last) (listing_most l) ∙ parts_less scope (out-Listing l).items (plain_listing l).last h

pub call_more : (scope : Scope) (l : Listing) → 3 ≤ length (out-Listing l).items → remote_call scope (plain_listing l).most (plain_listing l).last ≡ None
call_more scope l h = ap (λ most. remote_call scope most (plain_listing l).last) (listing_most l) ∙ parts_more scope (out-Listing l).items (plain_listing l).last h

-- what is lowered, behind other expressions
abbrev pub in_front : List Expr → Option (List Expr × Draft) → Option (List Expr × Draft)
in_front xs None = None
in_front xs (Some ran) = Some (xs ++ ran.0, ran.1)

front_one : (xs : List Expr) (y : Expr) (ran : Option (List Expr × Draft)) → in_front xs (and_then ran (λ ys. pure (y ∷ ys))) ≡ in_front (xs ++ y ∷ []) ran
front_one xs y None = refl
front_one xs y (Some ran) = ap (λ zs. Some (zs, ran.1)) (sym (append_assoc xs (y ∷ []) ran.0))

-- one more argument, and what follows
front_more : (xs next : List Expr) (ran : Option (Expr × Draft)) (q : Step (List Expr)) (t : Draft) → and_then ran (λ y. pure (xs ++ y ∷ [])) ≡ Some (next, t)
    → in_front xs (and_then ran (λ y. q >>= (λ ys. pure (y ∷ ys)))) ≡ in_front next (q t)
front_more xs next None q t h = absurd (none-some (next, t) h)
front_more xs next (Some ran) q t h =
    front_one xs ran.0 (q ran.1) ∙ ap (λ (p : List Expr × Draft). in_front p.0 (q p.1)) (ap (λ o. unwrap_or o (next, t)) h)

front_none : (xs : List Expr) (ran : Option (Expr × Draft)) (q : Step (List Expr)) → and_then ran (λ y. pure (xs ++ y ∷ [])) ≡ None
    → in_front xs (and_then ran (λ y. q >>= (λ ys. pure (y ∷ ys)))) ≡ None
front_none xs None q h = refl
front_none xs (Some ran) q h = absurd (none-some (xs ++ ran.0 ∷ [], ran.1) (sym h))

comma_then : {A : Type 0} (b : Bool) (p q : Step A) (s : Draft) → b ≡ true → (if b then p else q) s ≡ p s
comma_then b p q s h = ap (λ (c : Bool). (if c then p else q) s) h

-- an argument before a comma
module _ (scope : Scope) (xs : List Expr) (all : List Item) (i : ℕ) (it : Item) (s : Draft) (le : i < length all) (e : it ≡ get_or all i it) (comma : is_comma (out-Item it).separator.kind ≡ true) where
  abbrev others : Step (List Expr)
  others = arguments scope (items_of (map plain_item (drop (i + 1) all)))

  abbrev its : Option (Expr × Draft)
  its = argument scope (plain (out-Item it).expr) s

  argument_step : arguments scope (items_of (map plain_item (drop i all))) s ≡ and_then its (λ y. others >>= (λ ys. pure (y ∷ ys)))
  argument_step =
      let front : drop i all ≡ it ∷ drop (i + 1) all = rw (add-one, drop-cons all i it) (rw (← e) refl) in
      ap (λ es. arguments scope (items_of (map plain_item es)) s) front
      ∙ ap (λ (p : Syntax × Token). (if is_comma p.1.kind then (argument scope p.0 >>= (λ y. others >>= (λ ys. pure (y ∷ ys)))) else refuse) s) (item_plain it)
      ∙ comma_then (is_comma (out-Item it).separator.kind) (argument scope (plain (out-Item it).expr) >>= (λ y. others >>= (λ ys. pure (y ∷ ys)))) refuse s comma

  pub argument_lowers : (next : List Expr) (t : Draft) → and_then its (λ y. pure (xs ++ y ∷ [])) ≡ Some (next, t)
      → in_front xs (arguments scope (items_of (map plain_item (drop i all))) s) ≡ in_front next (others t)
  argument_lowers next t h = ap (in_front xs) argument_step ∙ front_more xs next its others t h

  pub argument_fails : (f : LowerFault) (t : Draft) → Gives (and_then its (λ y. pure (xs ++ y ∷ []))) (Err f) t
      → Gives (in_front xs (arguments scope (items_of (map plain_item (drop i all))) s)) (Err f) t
  argument_fails OutOfMemory t h = tt
  argument_fails NotBuilt t h = ap (in_front xs) argument_step ∙ front_none xs its others h

one_behind : (xs : List Expr) (ran : Option (Expr × Draft)) → and_then (and_then ran (λ y. pure (y ∷ []))) (λ ys. pure (xs ++ ys)) ≡ and_then ran (λ y. pure (xs ++ y ∷ []))
one_behind xs None = refl
one_behind xs (Some ran) = refl

-- the arguments before commas, and the last one
module _ (scope : Scope) (l : Listing) (last : code.Expr) (is : (out-Listing l).last ≡ Some last) (s t : Draft) (xs : List Expr) where
  abbrev with_others : List Expr → Step (List Expr)
  with_others ys = last_argument scope (just (plain last)) >>= (λ zs. pure (ys ++ zs))

  pub arguments_joined : (r : Result (List Expr) LowerFault) (u : Draft) → arguments scope (items_of (map plain_item (out-Listing l).items)) s ≡ Some (xs, t)
      → Gives (and_then (argument scope (plain last) t) (λ y. pure (xs ++ y ∷ []))) r u → Gives (all_arguments scope (plain_listing l).most (plain_listing l).last s) r u
  arguments_joined r u h k =
      let ends : (plain_listing l).last ≡ just (plain last) = listing_last l ∙ ap (λ o. maybe (option_map plain o)) is in
      let joined = ap (λ m. all_arguments scope m (plain_listing l).last s) (listing_most l) ∙ ap (λ e. all_arguments scope (items_of (map plain_item (out-Listing l).items)) e s) ends
      ∙ ap (λ ran. and_then ran with_others) h ∙ one_behind xs (argument scope (plain last) t) in
      subst (λ w. Gives w r u) (sym joined) k

-- ---- lines

-- what a line of the code is lowered to
abbrev pub the_line : Scope → Written → Step (Unit {0})
the_line scope l = line_at scope (place_of (option_map plain_stmt (out-Line l).stmt))

lines_of_all : (scope : Scope) (ls : Lines) (ms : List (Place × Token)) (s : Draft) →
    lines_of scope (lines_from ls ms) s ≡ lines_on scope (lines_of scope ls s) ms
lines_of_all scope ls [] s = refl
lines_of_all scope ls (m ∷ ms) s = lines_of_all scope (line ls m.0 m.1) ms s

lines_none : (scope : Scope) (ms : List (Place × Token)) → lines_on scope None ms ≡ None
lines_none scope [] = refl
lines_none scope (m ∷ ms) = lines_none scope ms

line_plain : (l : Written) → plain_line l ≡ (place_of (option_map plain_stmt (out-Line l).stmt), (out-Line l).ends)
line_plain l = ap plain_line (sym (roll-out-Line l)) ∙ one_line (out-Line l).stmt (out-Line l).ends

pub line_step : (scope : Scope) (ran : Option (Unit {0} × Draft)) (all : List Written) (i : ℕ) (l : Written) → i < length all → l ≡ get_or all i l →
    lines_on scope ran (map plain_line (drop i all)) ≡ lines_on scope (and_then ran (λ _. the_line scope l)) (map plain_line (drop (i + 1) all))
line_step scope ran all i l le e =
    let front : drop i all ≡ l ∷ drop (i + 1) all = rw (add-one, drop-cons all i l) (rw (← e) refl) in
    ap (λ ls. lines_on scope ran (map plain_line ls)) front
    ∙ ap (λ (p : Place × Token). lines_on scope (and_then ran (λ _. line_at scope p.0)) (map plain_line (drop (i + 1) all))) (line_plain l)

-- a line that is refused
pub line_fails : (scope : Scope) (ran : Option (Unit {0} × Draft)) (all : List Written) (i : ℕ) (l : Written) (f : LowerFault) (s : Draft) →
    i < length all → l ≡ get_or all i l → Gives (and_then ran (λ _. the_line scope l)) (Err f) s → Gives (lines_on scope ran (map plain_line (drop i all))) (Err f) s
line_fails scope ran all i l OutOfMemory s le e h = tt
line_fails scope ran all i l NotBuilt s le e h =
    line_step scope ran all i l le e ∙ ap (λ r. lines_on scope r (map plain_line (drop (i + 1) all))) h ∙ lines_none scope (map plain_line (drop (i + 1) all))

module _ (scope : Scope) (b : code-block.Block) (s : Draft) where
  -- what the place behind the last separator is lowered to
  abbrev pub the_end : Step (Unit {0})
  the_end = line_at scope (place_of (option_map plain_stmt (out-Block b).last))

  lines_are : block_of scope (plain_block b) s ≡ and_then (lines_on scope (Some (tt, s)) (map plain_line (out-Block b).lines)) (λ _. the_end)
  lines_are =
      ap (λ x. block_of scope (plain_block x) s) (sym (roll-out-Block b)) ∙ ap (λ x. block_of scope x s) (one_block (out-Block b).lines (out-Block b).last)
      ∙ ap (λ r. and_then r (λ _. the_end)) (lines_of_all scope no_lines (map plain_line (out-Block b).lines) s)

  pub block_lowers : (t u : Draft) (r : Result (Unit {0}) LowerFault) → lines_on scope (Some (tt, s)) (map plain_line (out-Block b).lines) ≡ Some (tt, t)
      → Gives (the_end t) r u → Gives (block_of scope (plain_block b) s) r u
  block_lowers t u r h k = subst (λ x. Gives x r u) (sym (lines_are ∙ ap (λ x. and_then x (λ _. the_end)) h)) k

  pub block_fails : (t : Draft) (f : LowerFault) → Gives (lines_on scope (Some (tt, s)) (map plain_line (out-Block b).lines)) (Err f) t → Gives (block_of scope (plain_block b) s) (Err f) t
  block_fails t OutOfMemory h = tt
  block_fails t NotBuilt h = lines_are ∙ ap (λ x. and_then x (λ _. the_end)) h

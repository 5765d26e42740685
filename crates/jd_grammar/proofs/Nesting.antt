-- The least depth of an expression that begins with what was read never falls.
use Rattle.std.proofs.Common.{ℕ, ◌≡◌, ◌≤◌, ◌+◌, max, Bool, true, false, ◌&&◌, not, List, [], ◌∷◌, Option, Some, None, nat_le, nat_eq, if◌then◌else◌, refl, sym, ap, subst, ◌∙◌, arith}
use Rattle.jd_grammar.specs.declared.token.Token.{Token}
use Rattle.jd_grammar.specs.declared.token.Word.TheVariants as word
use Rattle.jd_grammar.specs.declared.token.Kind.{Kind}
use Rattle.jd_grammar.specs.declared.token.Kind.TheVariants.{Number, Wide, Text, Name, True, False, Nothing, In, For, SpawnAt, FetchFrom, Plus, Minus, Star, And, Or, Xor, Not, Complement, Question, Colon, Comma, Arrow, Assign, OpenParen, CloseParen, OpenBracket, CloseBracket, OpenBrace, CloseBrace, Semicolon}
use Rattle.jd_grammar.specs.Kinds.{is_least, is_name, is_minus, is_argument, is_word, is_element_type, strength, left, stands}
use Rattle.jd_grammar.specs.Grammar.{Syntax, leaf, sign, ending, bracket, matrix, comprehension, remote, unary, binary, choice, lambda, spawn, keyword, Bracket, grouped, called, itemed, indexed, Cells, Items, none, more, nothing, just, no_more, is_separator, is_shape, touches, is_tight, is_row, is_full, count, are_parameters}
use Rattle.jd_grammar.specs.Rows.{begins_tight, is_plain, is_chain, is_long, with_cell, first_of, cells_of, count_cells, first_width, last_width, most_atoms, are_begun, may_go_on}
use Rattle.jd_grammar.specs.Frames.{Hold, spawning, rows, Fixed, in_bracket, in_middle, in_group, in_generator, in_size, in_place, Frame, open_end, fixed, Words, operator, atoms, minus, generator_name, generator_in, element_type, type_end, size_begin, place_begin, Now, wanted, got, pending, State, want, have, await, demand, ranges, negated}
use Rattle.jd_grammar.specs.Machine.{close, with_item, is_closer, item_step, row_end, close_step, second_step, semicolon_step, for_step, bracket_step, middle_step, filled, takes, group_step, atom_step, next_row, rows_end, atoms_step, with_generator, generator_in_step, generator_step, type_end_step, size_begin_step, size_step, place_begin_step, place_step, operator_step, spawn_step, wide_step, want_end, want_step, at_binary, at_question, at_arrow, at_keyword, at_brace, fixed_step, at_end, have_more, have_step, words_step, step_at, step}
use Rattle.jd_grammar.specs.Depth.{height, height_bracket, height_items}
use Rattle.jd_grammar.specs.Shortest.{token, zero_leaf, filled_rows, held, shut_bracket, shut, wrap, zero_ready, sign_ready, depth_of, a_name, an_int, a_remote, needs}
use Rattle.jd_grammar.proofs.Invariant.{IsState}
use Rattle.jd_grammar.proofs.Close.{IsClosed, closed}
use Rattle.jd_grammar.proofs.RowFacts.{both, and_true, le_of, not_le, count_with}
use Rattle.jd_grammar.proofs.RowSplit.{level_plain}
use Rattle.jd_grammar.proofs.Steps.{left_ge, left_le}
use Rattle.jd_grammar.proofs.Under.{called_row, height_with_cell, height_rows, height_with_generator, row_height, binary_row, binary_count, row_shut_row, single_full, Under, same_under, zero_under, flat_under, called_under, row_shut_le, row_shut_flat, held_under, grows, close_wrap}

abbrev pub NoLess : ℕ → Option State → Type 0
NoLess n None = Unit {0}
NoLess n (Some d) = n ≤ needs d

may_if : (n : ℕ) (d : State) (b : Bool) → (b ≡ true → n ≤ needs d) → NoLess n (if b then Some d else None)
may_if n d true h = h refl
may_if n d false h = tt

up : (n m : ℕ) (d : Option State) → n ≤ m → NoLess m d → NoLess n d
up n m None h k = tt
up n m (Some d) h k = omega arith

-- ---- brackets

-- the list of one element is as deep
shut_le : (b : Bracket) (o : Token) (es : Items) (e : Syntax) → height (shut_bracket b o es e) ≤ 1 + max (height_bracket b) (max (height_items es) (height e))
shut_le itemed o none e = omega (arith, row_shut_le o e)
shut_le grouped o es e = omega arith
shut_le (called f) o es e = omega arith
shut_le itemed o (more _ _ _) e = omega arith
shut_le (indexed f) o es e = omega arith

shut_plain : (b : Bracket) (o : Token) (es : Items) (e : Syntax) → is_plain (shut_bracket b o es e) ≡ true
shut_plain itemed o none e = (row_shut_flat o e).2
shut_plain grouped o es e = refl
shut_plain (called f) o es e = refl
shut_plain itemed o (more _ _ _) e = refl
shut_plain (indexed f) o es e = refl

-- under a tuple, a call of more arguments, or another construct in brackets that is no row
into : (b : Bracket) (o : Token) (es : Items) (e d : Syntax) → 1 + max (height_bracket b) (max (height_items es) (height e)) ≤ height d → is_chain d ≡ false → (begins_tight d ≡ true → begins_tight (shut_bracket b o es e) ≡ true) → Under (shut_bracket b o es e) d
into b o es e d h c t = record {
  tall = omega (arith, shut_le b o es e);
  plain = λ k. shut_plain b o es e;
  chain = λ k. let z = sym c ∙ k in cc;
  row = λ k. let z = sym c ∙ k in cc;
  few = λ k. let z = sym c ∙ k in cc;
  tight = t;
}

height_with_item : (es : Items) (e : Syntax) (t : Token) → height_items (with_item es e t) ≡ max (height_items es) (height e)
height_with_item none e t = omega arith
height_with_item (more x c es) e t = omega (arith, height_with_item es e t)

-- one item more
item_under : (b : Bracket) (o : Token) (es : Items) (e : Syntax) (t : Token) → Under (shut_bracket b o es e) (shut_bracket b o (with_item es e t) zero_leaf)
item_under grouped o none e t = into grouped o none e (shut_bracket grouped o (with_item none e t) zero_leaf) (omega arith) refl (λ h. cc)
item_under grouped o (more x c es) e t = into grouped o (more x c es) e (shut_bracket grouped o (with_item (more x c es) e t) zero_leaf) (omega (arith, height_with_item (more x c es) e t)) refl (λ h. cc)
item_under (called f) o none e t = into (called f) o none e (shut_bracket (called f) o (with_item none e t) zero_leaf) (omega arith) refl (λ h. h)
item_under (called f) o (more x c es) e t = into (called f) o (more x c es) e (shut_bracket (called f) o (with_item (more x c es) e t) zero_leaf) (omega (arith, height_with_item (more x c es) e t)) refl (λ h. h)
item_under itemed o none e t = into itemed o none e (shut_bracket itemed o (with_item none e t) zero_leaf) (omega arith) refl (λ h. cc)
item_under itemed o (more x c es) e t = into itemed o (more x c es) e (shut_bracket itemed o (with_item (more x c es) e t) zero_leaf) (omega (arith, height_with_item (more x c es) e t)) refl (λ h. cc)
item_under (indexed f) o es e t = into (indexed f) o es e (shut_bracket (indexed f) o (with_item es e t) zero_leaf) (omega (arith, height_with_item es e t)) refl (λ h. cc)

-- closed by the token that is there
same_bracket : (b : Bracket) (o : Token) (es : Items) (e : Syntax) (t : Token) → is_shape b es (just e) ≡ true → Under (shut_bracket b o es e) (bracket b o es (just e) t)
same_bracket grouped o none e t h = record { tall = omega arith; plain = λ h. refl; chain = λ h. refl; row = λ h. omega arith; few = λ h. omega arith; tight = λ h. cc }
same_bracket grouped o (more x c es) e t h = into grouped o (more x c es) e (bracket grouped o (more x c es) (just e) t) (omega arith) refl (λ h. cc)
same_bracket (called f) o none e t h = called_under f o e e (token CloseParen) t (same_under e)
same_bracket (called f) o (more x c es) e t h = into (called f) o (more x c es) e (bracket (called f) o (more x c es) (just e) t) (omega arith) refl (λ h. h)
same_bracket itemed o es e t h = into itemed o es e (bracket itemed o es (just e) t) (omega arith) refl (λ h. cc)
same_bracket (indexed f) o es e t h = into (indexed f) o es e (bracket (indexed f) o es (just e) t) (omega arith) refl (λ h. cc)

-- a row in brackets is no deeper than its atoms
row_matrix : (o : Token) (e : Syntax) (c : Token) → is_chain e ≡ true → is_full (cells_of e) ≡ true → height (shut_bracket itemed o none e) ≤ 1 + row_height e
row_matrix o e c h f = row_shut_row o e e (same_under e) h f

row_matrix_under : (o : Token) (e d : Syntax) → is_chain e ≡ true → is_full (cells_of e) ≡ true → 1 + row_height e ≤ height d → is_plain d ≡ true → is_chain d ≡ false → begins_tight d ≡ false → Under (shut_bracket itemed o none e) d
row_matrix_under o e d h f k p c t = flat_under (shut_bracket itemed o none e) d (omega (arith, row_matrix o e (token CloseBracket) h f)) (λ z. shut_plain itemed o none e) c t

begun_few : (cells : Cells) → are_begun cells ≡ true → count_cells cells + 1 ≤ 262144
begun_few cells h =
    let c = both (nat_le (last_width 1 cells) (first_width 1 cells)) (nat_le (count_cells cells + 1 + first_width 1 cells) (most_atoms + last_width 1 cells)) h in
    let l = le_of (last_width 1 cells) (first_width 1 cells) c.0 in
    let k : count_cells cells + 1 + first_width 1 cells ≤ 262144 + last_width 1 cells = le_of (count_cells cells + 1 + first_width 1 cells) (most_atoms + last_width 1 cells) c.1 in
    omega (arith, l, k)

goes_few : (cells : Cells) → may_go_on cells ≡ true → count_cells cells + 1 ≤ 262144
goes_few cells h =
    let k : count_cells cells + 1 + first_width 1 cells ≤ 262144 = le_of (count_cells cells + 1 + first_width 1 cells) most_atoms (both (nat_eq (last_width 1 cells) (first_width 1 cells)) (nat_le (count_cells cells + 1 + first_width 1 cells) most_atoms) h).1 in
    omega (arith, k)

-- one atom more behind a row
commit_needs : (n : ℕ) (o : Token) (e a : Syntax) (fs : List Frame) → n ≤ height (wrap fs (shut_bracket itemed o none e)) → is_chain e ≡ true → are_begun (with_cell (cells_of e) None a) ≡ true
    → n ≤ needs (await fs (atoms (rows o (first_of e) (with_cell (cells_of e) None a) None)))
commit_needs n o e a fs h c b =
    let f = single_full e (omega (arith, begun_few (with_cell (cells_of e) None a) b, count_with (cells_of e) None a)) in
    let g = grows fs (shut_bracket itemed o none e) (filled_rows o (first_of e) (with_cell (cells_of e) None a))
    (row_matrix_under o e (filled_rows o (first_of e) (with_cell (cells_of e) None a)) c f (omega (arith, height_rows o (first_of e) (with_cell (cells_of e) None a), height_with_cell (cells_of e) None a)) refl refl refl) in
    omega arith

second_needs : (n : ℕ) (b : Bracket) (o : Token) (es : Items) (t : Token) (fs : List Frame) (e : Syntax) → n ≤ height (wrap fs (shut_bracket b o es e)) → NoLess n (second_step b o es t fs e)
second_needs n itemed o none t fs e h = may_if n (await fs (atoms (rows o (first_of e) (with_cell (cells_of e) None (leaf t)) None))) ((t.spaced && is_chain e) && are_begun (with_cell (cells_of e) None (leaf t))) (λ g.
    let b = both (t.spaced && is_chain e) (are_begun (with_cell (cells_of e) None (leaf t))) g in commit_needs n o e (leaf t) fs h (both t.spaced (is_chain e) b.0).1 b.1)
second_needs n grouped o es t fs e h = tt
second_needs n (called f) o es t fs e h = tt
second_needs n itemed o (more _ _ _) t fs e h = tt
second_needs n (indexed f) o es t fs e h = tt

item_needs : (n : ℕ) (b : Bracket) (o : Token) (es : Items) (t : Token) (fs : List Frame) (e : Syntax) → n ≤ height (wrap fs (shut_bracket b o es e)) → NoLess n (item_step b o es t fs e)
item_needs n b o es t fs e h = may_if n (want (fixed (in_bracket b o (with_item es e t)) ∷ fs)) (is_separator b t.kind && touches e t) (λ k.
    let g = grows fs (shut_bracket b o es e) (shut_bracket b o (with_item es e t) zero_leaf) (item_under b o es e t) in omega arith)

semicolon_needs : (n : ℕ) (b : Bracket) (o : Token) (es : Items) (t : Token) (fs : List Frame) (e : Syntax) → n ≤ height (wrap fs (shut_bracket b o es e)) → NoLess n (semicolon_step b o es t fs e)
semicolon_needs n itemed o none t fs e h = may_if n (await fs (atoms (rows o (first_of e) (cells_of e) (Some t)))) (is_chain e && may_go_on (cells_of e)) (λ k.
    let c = both (is_chain e) (may_go_on (cells_of e)) k in
    let d = held (rows o (first_of e) (cells_of e) (Some t)) zero_leaf in
    let g = grows fs (shut_bracket itemed o none e) (held (rows o (first_of e) (cells_of e) (Some t)) zero_leaf)
    (row_matrix_under o e (held (rows o (first_of e) (cells_of e) (Some t)) zero_leaf) c.0 (single_full e (goes_few (cells_of e) c.1))
    (omega (arith, height_rows o (first_of e) (with_cell (cells_of e) (Some t) zero_leaf), height_with_cell (cells_of e) (Some t) zero_leaf)) refl refl refl) in
    omega arith)
semicolon_needs n grouped o es t fs e h = item_needs n grouped o es t fs e h
semicolon_needs n (called f) o es t fs e h = item_needs n (called f) o es t fs e h
semicolon_needs n itemed o (more x c es) t fs e h = item_needs n itemed o (more x c es) t fs e h
semicolon_needs n (indexed f) o es t fs e h = item_needs n (indexed f) o es t fs e h

row_end_needs : (n : ℕ) (o t : Token) (fs : List Frame) (e : Syntax) → is_row e ≡ true → n ≤ height (wrap fs (shut_bracket itemed o none e)) → NoLess n (row_end o t fs e)
row_end_needs n o t fs e r h = may_if n (have fs (matrix o (first_of e) (cells_of e) t)) (is_full (cells_of e)) (λ f.
    let g = grows fs (shut_bracket itemed o none e) (matrix o (first_of e) (cells_of e) t)
    (row_matrix_under o e (matrix o (first_of e) (cells_of e) t) (both (is_chain e) (is_long e) r).0 f (omega arith) refl refl refl) in omega arith)

row_of : (b : Bool) → not b ≡ false → b ≡ true
row_of true h = refl
row_of false h = cc

closer_needs : (n : ℕ) (b : Bracket) (o : Token) (es : Items) (t : Token) (fs : List Frame) (e : Syntax) → n ≤ height (wrap fs (shut_bracket b o es e)) → NoLess n (close_step b o es t fs e)
closer_needs n b o es t fs e h =
    elim (is_closer b t.kind && touches e t) as (λ x. NoLess n (if x then (if is_shape b es (just e) then Some (have fs (bracket b o es (just e) t)) else row_end o t fs e) else None)) [
      | true ↦ elim (is_shape b es (just e)) as (λ x. is_shape b es (just e) ≡ x → NoLess n (if x then Some (have fs (bracket b o es (just e) t)) else row_end o t fs e)) [
        | true ↦ λ s. (let g = grows fs (shut_bracket b o es e) (bracket b o es (just e) t) (same_bracket b o es e t s) in omega arith)
        | false ↦ λ s. at_row b es s h
      ] refl
      | false ↦ tt
    ]
  where
    at_row : (b : Bracket) (es : Items) → is_shape b es (just e) ≡ false → n ≤ height (wrap fs (shut_bracket b o es e)) → NoLess n (row_end o t fs e)
    at_row itemed none s h = row_end_needs n o t fs e (row_of (is_row e) s) h
    at_row grouped es s h = cc
    at_row (called f) es s h = cc
    at_row itemed (more _ _ _) s h = cc
    at_row (indexed f) es s h = cc

for_needs : (n : ℕ) (b : Bracket) (o : Token) (es : Items) (t : Token) (fs : List Frame) (e : Syntax) → n ≤ height (wrap fs (shut_bracket b o es e)) → NoLess n (for_step b o es t fs e)
for_needs n itemed o none t fs e h =
    let d = comprehension o e (with_generator no_more t a_name (token In) zero_leaf) (token CloseBracket) in
    let g = grows fs (shut_bracket itemed o none e) (comprehension o e (with_generator no_more t a_name (token In) zero_leaf) (token CloseBracket))
    (into itemed o none e (comprehension o e (with_generator no_more t a_name (token In) zero_leaf) (token CloseBracket)) (omega arith) refl (λ h. cc)) in omega arith
for_needs n grouped o es t fs e h = tt
for_needs n (called f) o es t fs e h = tt
for_needs n itemed o (more _ _ _) t fs e h = tt
for_needs n (indexed f) o es t fs e h = tt

bracket_needs : (n : ℕ) (b : Bracket) (o : Token) (es : Items) (k : Kind) (t : Token) (fs : List Frame) (e : Syntax) → n ≤ height (wrap fs (shut_bracket b o es e)) → NoLess n (bracket_step b o es k t fs e)
bracket_needs n b o es k t fs e h = elim k as (λ k. NoLess n (bracket_step b o es k t fs e)) [
  | Comma ↦ item_needs n b o es t fs e h
  | Semicolon ↦ semicolon_needs n b o es t fs e h
  | Number v ↦ second_needs n b o es t fs e h
  | Name v ↦ second_needs n b o es t fs e h
  | CloseParen ↦ closer_needs n b o es t fs e h
  | CloseBracket ↦ closer_needs n b o es t fs e h
  | For ↦ for_needs n b o es t fs e h
  | _ ↦ tt
]

-- nothing where an item could stand
empty_under : (b : Bracket) (o : Token) (es : Items) (t : Token) → Under (shut_bracket b o es zero_leaf) (bracket b o es nothing t)
empty_under grouped o none t = into grouped o none zero_leaf (bracket grouped o none nothing t) (omega arith) refl (λ h. cc)
empty_under grouped o (more x c es) t = into grouped o (more x c es) zero_leaf (bracket grouped o (more x c es) nothing t) (omega arith) refl (λ h. cc)
empty_under (called f) o none t = into (called f) o none zero_leaf (bracket (called f) o none nothing t) (omega arith) refl (λ h. h)
empty_under (called f) o (more x c es) t = into (called f) o (more x c es) zero_leaf (bracket (called f) o (more x c es) nothing t) (omega arith) refl (λ h. h)
empty_under itemed o none t = into itemed o none zero_leaf (bracket itemed o none nothing t) (omega arith) refl (λ h. cc)
empty_under itemed o (more x c es) t = into itemed o (more x c es) zero_leaf (bracket itemed o (more x c es) nothing t) (omega arith) refl (λ h. cc)
empty_under (indexed f) o es t = into (indexed f) o es zero_leaf (bracket (indexed f) o es nothing t) (omega arith) refl (λ h. cc)

-- ---- where an operand is wanted

wanted_le : (fs : List Frame) → needs (want fs) ≤ height (wrap fs zero_leaf)
wanted_le (open_end (unary s) ∷ (fixed (in_bracket (called f) o es) ∷ fs)) =
    let gs = open_end (unary s) ∷ (fixed (in_bracket (called f) o es) ∷ fs) in
    let c = is_argument s.kind && nat_le (depth_of (sign_ready f o es s fs)) (depth_of (zero_ready (open_end (unary s) ∷ (fixed (in_bracket (called f) o es) ∷ fs)))) in
    elim c as (λ b. c ≡ b → depth_of (if b then sign_ready f o es s fs else zero_ready gs) ≤ height (wrap gs zero_leaf)) [
      | true ↦ λ k. le_of (depth_of (sign_ready f o es s fs)) (depth_of (zero_ready (open_end (unary s) ∷ (fixed (in_bracket (called f) o es) ∷ fs)))) (both (is_argument s.kind) (nat_le (depth_of (sign_ready f o es s fs)) (depth_of (zero_ready (open_end (unary s) ∷ (fixed (in_bracket (called f) o es) ∷ fs))))) k).1
      | false ↦ λ k. omega arith
    ] refl
wanted_le _ = omega arith

-- an operand that stands there
operand_needs : (fs : List Frame) (e : Syntax) → needs (want fs) ≤ height (wrap fs e)
operand_needs fs e = omega (arith, wanted_le fs, grows fs zero_leaf e (zero_under e))

below_unary : (t : Token) (fs : List Frame) → height (wrap fs zero_leaf) ≤ needs (want (open_end (unary t) ∷ fs))
below_unary t (fixed (in_bracket (called f) o es) ∷ fs) =
    let gs = open_end (unary t) ∷ (fixed (in_bracket (called f) o es) ∷ fs) in
    let c = is_argument t.kind && nat_le (depth_of (sign_ready f o es t fs)) (depth_of (zero_ready (open_end (unary t) ∷ (fixed (in_bracket (called f) o es) ∷ fs)))) in
    elim c as (λ b. height (wrap (fixed (in_bracket (called f) o es) ∷ fs) zero_leaf) ≤ depth_of (if b then sign_ready f o es t fs else zero_ready gs)) [
      | true ↦ grows (fixed (in_bracket (called f) o es) ∷ fs) zero_leaf (sign t) (zero_under (sign t))
      | false ↦ grows (fixed (in_bracket (called f) o es) ∷ fs) zero_leaf (ending (unary t) zero_leaf) (zero_under (ending (unary t) zero_leaf))
    ]
below_unary t fs = grows fs zero_leaf (ending (unary t) zero_leaf) (zero_under (ending (unary t) zero_leaf))

unary_needs : (t : Token) (fs : List Frame) → needs (want fs) ≤ needs (want (open_end (unary t) ∷ fs))
unary_needs t fs = omega (arith, wanted_le fs, below_unary t fs)

operator_needs : (t : Token) (fs : List Frame) → NoLess (needs (want fs)) (operator_step t fs)
operator_needs t (fixed (in_bracket (called f) o es) ∷ fs) = operand_needs (fixed (in_bracket (called f) o es) ∷ fs) (sign t)
operator_needs t _ = tt

spawn_needs : (t : Token) (fs : List Frame) → NoLess (needs (want fs)) (spawn_step t fs)
spawn_needs t fs = may_if (needs (want fs)) (await fs (atoms (spawning t))) (nat_le (demand fs) 1) (λ h. operand_needs fs (ending (spawn t zero_leaf) zero_leaf))

wide_needs : (t : Token) (fs : List Frame) → NoLess (needs (want fs)) (wide_step t fs)
wide_needs t (open_end (binary l m) ∷ (fixed (in_bracket itemed o none) ∷ fs)) =
    may_if (height (wrap fs (shut_bracket itemed o none (ending (binary l m) zero_leaf)))) (await fs (atoms (rows o (first_of l) (with_cell (cells_of l) None (ending (unary m) (leaf t))) None)))
    (((is_minus m.kind && m.spaced) && (is_least t.kind t.spaced && is_chain l)) && are_begun (with_cell (cells_of l) None (ending (unary m) (leaf t)))) (λ h.
    let a = both ((is_minus m.kind && m.spaced) && (is_least t.kind t.spaced && is_chain l)) (are_begun (with_cell (cells_of l) None (ending (unary m) (leaf t)))) h in
    let b = both (is_minus m.kind && m.spaced) (is_least t.kind t.spaced && is_chain l) a.0 in
    let c = both (is_least t.kind t.spaced) (is_chain l) b.1 in
    difference_needs m l o (leaf t) fs b.0 c.1 a.1)
  where
    difference_needs : (m : Token) (l : Syntax) (o : Token) (x : Syntax) (fs : List Frame) → (is_minus m.kind && m.spaced) ≡ true → is_chain l ≡ true → are_begun (with_cell (cells_of l) None (ending (unary m) x)) ≡ true
        → height (wrap fs (shut_bracket itemed o none (ending (binary l m) zero_leaf))) ≤ needs (await fs (atoms (rows o (first_of l) (with_cell (cells_of l) None (ending (unary m) x)) None)))
    difference_needs m l o x fs z c b =
        let e = ending (binary l m) zero_leaf in
        let d = filled_rows o (first_of l) (with_cell (cells_of l) None (ending (unary m) x)) in
        let q : is_chain (ending (binary l m) zero_leaf) ≡ true = and_true (is_minus m.kind && m.spaced) ((true && true) && is_chain l) z c in
        let k = binary_row l m zero_leaf in
        let f = single_full (ending (binary l m) zero_leaf) (omega (arith, begun_few (with_cell (cells_of l) None (ending (unary m) x)) b, count_with (cells_of l) None (ending (unary m) x), binary_count l m zero_leaf)) in
        grows fs (shut_bracket itemed o none (ending (binary l m) zero_leaf)) (filled_rows o (first_of l) (with_cell (cells_of l) None (ending (unary m) x)))
        (row_matrix_under o (ending (binary l m) zero_leaf) (filled_rows o (first_of l) (with_cell (cells_of l) None (ending (unary m) x))) q f
        (omega (arith, k, height_rows o (first_of l) (with_cell (cells_of l) None (ending (unary m) x)), height_with_cell (cells_of l) None (ending (unary m) x))) refl refl refl)
wide_needs t fs = may_if (needs (want fs)) (have fs (leaf t)) (negated fs && is_least t.kind t.spaced) (λ h. operand_needs fs (leaf t))

end_needs : (k : Kind) (t : Token) (fs : List Frame) → NoLess (needs (want fs)) (want_end k t fs)
end_needs k t (fixed (in_bracket b o es) ∷ fs) = may_if (needs (want (fixed (in_bracket b o es) ∷ fs))) (have fs (bracket b o es nothing t)) (is_closer b t.kind && is_shape b es nothing)
    (λ h. grows fs (shut_bracket b o es zero_leaf) (bracket b o es nothing t) (empty_under b o es t))
end_needs k t (open_end (unary s) ∷ (fixed (in_bracket (called f) o es) ∷ fs)) =
    elim (is_argument s.kind) as (λ b. is_argument s.kind ≡ b → NoLess (needs (want gs)) (if b then bracket_step (called f) o es k t fs (sign s) else None)) [
      | true ↦ λ a. bracket_needs (needs (want gs)) (called f) o es k t fs (sign s) (sign_le a)
      | false ↦ λ a. tt
    ] refl
  where
    gs : List Frame
    gs = open_end (unary s) ∷ (fixed (in_bracket (called f) o es) ∷ fs)

    sign_le : is_argument s.kind ≡ true → needs (want gs) ≤ depth_of (sign_ready f o es s fs)
    sign_le a =
        elim (nat_le (depth_of (sign_ready f o es s fs)) (depth_of (zero_ready gs))) as (λ b. nat_le (depth_of (sign_ready f o es s fs)) (depth_of (zero_ready gs)) ≡ b → depth_of (if is_argument s.kind && b then sign_ready f o es s fs else zero_ready gs) ≤ depth_of (sign_ready f o es s fs)) [
          | true ↦ λ h. subst (λ x. depth_of (if x && true then sign_ready f o es s fs else zero_ready gs) ≤ depth_of (sign_ready f o es s fs)) (sym a) (omega arith)
          | false ↦ λ h. subst (λ x. depth_of (if x && false then sign_ready f o es s fs else zero_ready gs) ≤ depth_of (sign_ready f o es s fs)) (sym a) (not_le (depth_of (sign_ready f o es s fs)) (depth_of (zero_ready gs)) h)
        ] refl
end_needs k t _ = tt

want_needs : (k : Kind) (t : Token) (fs : List Frame) → NoLess (needs (want fs)) (want_step k t fs)
want_needs k t fs = elim k as (λ k. NoLess (needs (want fs)) (want_end k t fs) → NoLess (needs (want fs)) (want_step k t fs)) [
  | Number n ↦ λ z. a
  | Text n ↦ λ z. a
  | Name n ↦ λ z. a
  | True ↦ λ z. a
  | False ↦ λ z. a
  | Nothing ↦ λ z. a
  | Wide b ↦ λ z. wide_needs t fs
  | Plus ↦ λ z. unary_needs t fs
  | Minus ↦ λ z. unary_needs t fs
  | Not ↦ λ z. unary_needs t fs
  | Complement ↦ λ z. unary_needs t fs
  | Star ↦ λ z. operator_needs t fs
  | And ↦ λ z. operator_needs t fs
  | Or ↦ λ z. operator_needs t fs
  | Xor ↦ λ z. operator_needs t fs
  | OpenParen ↦ λ z. operand_needs fs (shut_bracket grouped t none zero_leaf)
  | OpenBracket ↦ λ z. operand_needs fs (shut_bracket itemed t none zero_leaf)
  | SpawnAt ↦ λ z. spawn_needs t fs
  | FetchFrom ↦ λ z. spawn_needs t fs
  | _ ↦ λ z. z
] (end_needs k t fs)
  where
    a : needs (want fs) ≤ height (wrap fs (leaf t))
    a = operand_needs fs (leaf t)

-- ---- behind an operand

filled_needs : (n : ℕ) (hold : Hold) (a b : Syntax) (fs : List Frame) → height a ≤ height b → n ≤ height (wrap fs (held hold a)) → n ≤ needs (filled hold b fs)
filled_needs n (spawning s) a b fs k h = let g = grows fs (held (spawning s) a) (held (spawning s) b) (held_under (spawning s) a b k) in omega arith
filled_needs n (rows o x cells q) a b fs k h = let g = grows fs (held (rows o x cells q) a) (held (rows o x cells q) b) (held_under (rows o x cells q) a b k) in omega arith

-- what is no row
flat_needs : (n : ℕ) (fs : List Frame) (e d : Syntax) → n ≤ height (wrap fs e) → height e ≤ height d → is_plain e ≡ true → is_chain d ≡ false → begins_tight d ≡ false → n ≤ height (wrap fs d)
flat_needs n fs e d h k p c t = let g = grows fs e d (flat_under e d k (λ z. p) c t) in omega arith

fixed_needs : (n : ℕ) (f : Fixed) (k : Kind) (t : Token) (fs : List Frame) (e : Syntax) → n ≤ height (wrap fs (shut f e)) → NoLess n (fixed_step f k t fs e)
fixed_needs n (in_bracket b o es) k t fs e h = bracket_needs n b o es k t fs e h
fixed_needs n (in_middle c q) k t fs e h = elim k as (λ k. NoLess n (middle_step c q k t fs e)) [
  | Colon ↦ flat_needs n fs (shut (in_middle c q) e) (ending (choice c q e t) zero_leaf) h (omega arith) refl refl refl
  | _ ↦ tt
]
fixed_needs n (in_group hold p) k t fs e h = elim k as (λ k. NoLess n (group_step hold p k t fs e)) [
  | CloseParen ↦ filled_needs n hold (bracket grouped p none (just e) (token CloseParen)) (bracket grouped p none (just e) t) fs (omega arith) h
  | _ ↦ tt
]
fixed_needs n (in_generator o x gens f v i) k t fs e h = elim k as (λ k. NoLess n (generator_step o x gens f v i k t fs e)) [
  | Comma ↦ may_if n (await fs (generator_name o x (with_generator gens f v i e) t)) (nat_le (count gens) 1) (λ c. further)
  | CloseBracket ↦ same
  | _ ↦ tt
]
  where
    d : Syntax
    d = comprehension o x (with_generator (with_generator gens f v i e) t a_name (token In) zero_leaf) (token CloseBracket)

    further : n ≤ height (wrap fs d)
    further = flat_needs n fs (shut (in_generator o x gens f v i) e) d h (omega (arith, height_with_generator (with_generator gens f v i e) t a_name (token In) zero_leaf)) refl refl refl

    same : n ≤ height (wrap fs (comprehension o x (with_generator gens f v i e) t))
    same = flat_needs n fs (shut (in_generator o x gens f v i) e) (comprehension o x (with_generator gens f v i e) t) h (omega arith) refl refl refl
fixed_needs n (in_size c type z o) k t fs e h = elim k as (λ k. NoLess n (size_step c type z o k t fs e)) [
  | CloseParen ↦ flat_needs n fs (shut (in_size c type z o) e) (a_remote c type z o e t) h (omega arith) refl refl refl
  | _ ↦ tt
]
fixed_needs n (in_place c type z o size p comma) k t fs e h = elim k as (λ k. NoLess n (place_step c type z o size p comma k t fs e)) [
  | CloseParen ↦ flat_needs n fs (shut (in_place c type z o size p comma) e) (remote c type z o size p comma e t) h (omega arith) refl refl refl
  | _ ↦ tt
]

at_end_needs : (n : ℕ) (k : Kind) (t : Token) (r : List Frame × Syntax) → n ≤ height (wrap r.0 r.1) → NoLess n (at_end k t r)
at_end_needs n k t ([], e) h = tt
at_end_needs n k t (open_end d ∷ fs, e) h = tt
at_end_needs n k t (fixed f ∷ fs, e) h = fixed_needs n f k t fs e h

closed_needs : (p : ℕ) (fs : List Frame) (e : Syntax) → height (wrap fs e) ≤ height (wrap (close p fs e).0 (close p fs e).1)
closed_needs p fs e = omega (arith, ap height (close_wrap p fs e))

-- a left operand is under its operator
binary_left : (t : Token) (e : Syntax) → is_plain e ≡ true → Under e (ending (binary e t) zero_leaf)
binary_left t e p = record {
  tall = omega arith;
  plain = λ h. p;
  chain = λ h. (parts h);
  row = λ h. omega (arith, binary_row e t zero_leaf);
  few = λ h. omega (arith, binary_count e t zero_leaf);
  tight = λ h. cc;
}
  where
    parts : is_chain (ending (binary e t) zero_leaf) ≡ true → is_chain e ≡ true
    parts h = (both (true && true) (is_chain e) (both (is_minus t.kind && t.spaced) ((true && true) && is_chain e) h).1).1

call_left : (t : Token) (e : Syntax) → is_plain e ≡ true → Under e (shut_bracket (called e) t none zero_leaf)
call_left t e p = record {
  tall = omega arith;
  plain = λ h. p;
  chain = λ h. (both (t.spaced && true) (is_chain e) h).1;
  row = λ h. omega (arith, called_row e t none (just zero_leaf) (token CloseParen));
  few = λ h. omega (arith, count_with (cells_of e) None (bracket grouped t none (just zero_leaf) (token CloseParen)));
  tight = λ h. h;
}

closed_plain : (p : ℕ) (gs : List Frame) (r : List Frame × Syntax) → IsClosed p gs r → 1 ≤ p → is_plain r.1 ≡ true
closed_plain p gs r c h = level_plain (ranges r.0) (negated r.0) c.level r.1 (omega (arith, c.bound, h)) c.operand

binary_needs : (n : ℕ) (gs : List Frame) (t : Token) (r : List Frame × Syntax) → n ≤ height (wrap r.0 r.1) → is_plain r.1 ≡ true → NoLess n (at_binary t r)
binary_needs n gs t (fs, e) h p = may_if n (want (open_end (binary e t) ∷ fs)) (nat_le (demand fs) (strength t.kind)) (λ k. let g = grows fs e (ending (binary e t) zero_leaf) (binary_left t e p) in omega arith)

question_needs : (n : ℕ) (t : Token) (r : List Frame × Syntax) → n ≤ height (wrap r.0 r.1) → is_plain r.1 ≡ true → NoLess n (at_question t r)
question_needs n t (fs, e) h p = may_if n (want (fixed (in_middle e t) ∷ fs)) (nat_le (demand fs) 2) (λ k. flat_needs n fs e (shut (in_middle e t) zero_leaf) h (omega arith) p refl refl)

arrow_needs : (t : Token) (fs : List Frame) (e : Syntax) → is_plain e ≡ true → NoLess (height (wrap fs e)) (at_arrow t fs e)
arrow_needs t fs e p = may_if (height (wrap fs e)) (want (open_end (lambda e t) ∷ fs)) (nat_le (demand fs) 1 && are_parameters e) (λ k. flat_needs (height (wrap fs e)) fs e (ending (lambda e t) zero_leaf) (omega arith) (omega arith) p refl refl)

keyword_needs : (t : Token) (fs : List Frame) (e : Syntax) → NoLess (height (wrap fs e)) (at_keyword t fs e)
keyword_needs t fs (leaf n) = may_if (height (wrap fs (leaf n))) (want (open_end (keyword n t) ∷ fs)) (nat_le (demand fs) 0 && is_name n.kind)
    (λ k. flat_needs (height (wrap fs (leaf n))) fs (leaf n) (ending (keyword n t) zero_leaf) (omega arith) (omega arith) refl refl refl)
keyword_needs t fs _ = tt

brace_needs : (t : Token) (fs : List Frame) (e : Syntax) → NoLess (height (wrap fs e)) (at_brace t fs e)
brace_needs t (open_end (lambda (bracket grouped l none nothing r) a) ∷ (fixed (in_bracket (called (leaf f)) o none) ∷ fs)) (leaf w) =
    may_if (height (wrap fs (shut_bracket (called (leaf f)) o none (ending (lambda (bracket grouped l none nothing r) a) (leaf w)))))
    (await fs (element_type (record { callee = f; opens = o; none_opens = l; none_closes = r; arrow = a; word = w; brace = t })))
    (is_word word.RemoteChannel f.kind && is_word word.Channel w.kind)
    (λ k. flat_needs (height (wrap fs (shut_bracket (called (leaf f)) o none (ending (lambda (bracket grouped l none nothing r) a) (leaf w))))) fs
    (shut_bracket (called (leaf f)) o none (ending (lambda (bracket grouped l none nothing r) a) (leaf w)))
    (a_remote (record { callee = f; opens = o; none_opens = l; none_closes = r; arrow = a; word = w; brace = t }) an_int (token CloseBrace) (token OpenParen) zero_leaf (token CloseParen)) (omega arith) (omega arith) refl refl refl)
brace_needs t _ _ = tt

more_needs : (k : Kind) (t : Token) (fs : List Frame) (e : Syntax) → IsState (have fs e) → is_plain e ≡ true → NoLess (height (wrap fs e)) (have_more k t fs e)
more_needs k t fs e w p = elim k as (λ k. NoLess (height (wrap fs e)) (at_end k t (close 0 fs e)) → NoLess (height (wrap fs e)) (have_more k t fs e)) [
  | OpenParen ↦ λ z. grows fs e (shut_bracket (called e) t none zero_leaf) (call_left t e p)
  | OpenBracket ↦ λ z. flat_bracket
  | OpenBrace ↦ λ z. brace_needs t fs e
  | Arrow ↦ λ z. arrow_needs t fs e p
  | Assign ↦ λ z. keyword_needs t fs e
  | Question ↦ λ z. question_needs (height (wrap fs e)) t (close 3 fs e) (closed_needs 3 fs e) (closed_plain 3 fs (close 3 fs e) (closed 3 fs e (omega arith) w) (omega arith))
  | _ ↦ λ z. z
] (at_end_needs (height (wrap fs e)) k t (close 0 fs e) (closed_needs 0 fs e))
  where
    flat_bracket : height (wrap fs e) ≤ height (wrap fs (shut_bracket (indexed e) t none zero_leaf))
    flat_bracket = flat_needs (height (wrap fs e)) fs e (shut_bracket (indexed e) t none zero_leaf) (omega arith) (omega arith) p refl refl

left_bounds : (k : Kind) → 1 ≤ strength k → (1 ≤ left k) × (left k ≤ 9)
left_bounds k h = (omega (arith, left_ge k h), omega (arith, left_le k))

have_needs : (t : Token) (fs : List Frame) (e : Syntax) → IsState (have fs e) → NoLess (height (wrap fs e)) (have_step t.kind t fs e)
have_needs t fs e w =
    let p = level_plain (ranges fs) (negated fs) 10 e (omega arith) w.now in
    elim (nat_le 1 (strength t.kind)) as (λ b. nat_le 1 (strength t.kind) ≡ b → NoLess (height (wrap fs e)) (if b then (if stands t.kind (ranges fs) then at_binary t (close (left t.kind) fs e) else at_end t.kind t (close 0 fs e)) else have_more t.kind t fs e)) [
      | true ↦ λ h. elim (stands t.kind (ranges fs)) as (λ b. NoLess (height (wrap fs e)) (if b then at_binary t (close (left t.kind) fs e) else at_end t.kind t (close 0 fs e))) [
        | true ↦ (let l = left_bounds t.kind (le_of 1 (strength t.kind) h) in
            binary_needs (height (wrap fs e)) fs t (close (left t.kind) fs e) (closed_needs (left t.kind) fs e) (closed_plain (left t.kind) fs (close (left t.kind) fs e) (closed (left t.kind) fs e l.1 w) l.0))
        | false ↦ at_end_needs (height (wrap fs e)) t.kind t (close 0 fs e) (closed_needs 0 fs e)
      ]
      | false ↦ λ h. more_needs t.kind t fs e w p
    ] refl

-- ---- a step

-- the atom that is wanted may be a number
held_zero : (hold : Hold) (fs : List Frame) → needs (await fs (atoms hold)) ≤ height (wrap fs (held hold zero_leaf))
held_zero (spawning s) fs = omega arith
held_zero (rows o x cells None) fs = grows fs (filled_rows o x cells) (held (rows o x cells None) zero_leaf)
    (flat_under (filled_rows o x cells) (held (rows o x cells None) zero_leaf)
    (omega (arith, height_rows o x cells, height_rows o x (with_cell cells None zero_leaf), height_with_cell cells None zero_leaf)) (λ h. refl) refl refl)
held_zero (rows o x cells (Some q)) fs = omega arith

any_atom : (hold : Hold) (a : Syntax) (fs : List Frame) → needs (await fs (atoms hold)) ≤ needs (filled hold a fs)
any_atom hold a fs = filled_needs (needs (await fs (atoms hold))) hold zero_leaf a fs (omega arith) (held_zero hold fs)

begun_atom : (hold : Hold) (a : Syntax) (fs : List Frame) → needs (await fs (atoms hold)) ≤ height (wrap fs (held hold a))
begun_atom hold a fs = let g = grows fs (held hold zero_leaf) (held hold a) (held_under hold zero_leaf a (omega arith)) in omega (arith, held_zero hold fs)

next_row_needs : (hold : Hold) (t : Token) (fs : List Frame) → NoLess (needs (await fs (atoms hold))) (next_row hold t fs)
next_row_needs (rows o x cells None) t fs = may_if (needs (await fs (atoms (rows o x cells None)))) (await fs (atoms (rows o x cells (Some t)))) (may_go_on cells) (λ h.
    grows fs (filled_rows o x cells) (held (rows o x cells (Some t)) zero_leaf)
    (flat_under (filled_rows o x cells) (held (rows o x cells (Some t)) zero_leaf)
    (omega (arith, height_rows o x cells, height_rows o x (with_cell cells (Some t) zero_leaf), height_with_cell cells (Some t) zero_leaf)) (λ h. refl) refl refl))
next_row_needs (rows o x cells (Some q)) t fs = tt
next_row_needs (spawning s) t fs = tt

rows_end_needs : (hold : Hold) (t : Token) (fs : List Frame) → NoLess (needs (await fs (atoms hold))) (rows_end hold t fs)
rows_end_needs (rows o x cells None) t fs = may_if (needs (await fs (atoms (rows o x cells None)))) (have fs (matrix o x cells t)) (is_full cells) (λ h.
    grows fs (filled_rows o x cells) (matrix o x cells t) (flat_under (filled_rows o x cells) (matrix o x cells t) (omega (arith, height_rows o x cells)) (λ h. refl) refl refl))
rows_end_needs (rows o x cells (Some q)) t fs = tt
rows_end_needs (spawning s) t fs = tt

atom_needs : (hold : Hold) (k : Kind) (t : Token) (fs : List Frame) → NoLess (needs (await fs (atoms hold))) (atom_step hold k t fs)
atom_needs hold k t fs = elim k as (λ k. NoLess (needs (await fs (atoms hold))) (atom_step hold k t fs)) [
  | Number n ↦ any_atom hold (leaf t) fs
  | Name n ↦ any_atom hold (leaf t) fs
  | Minus ↦ begun_atom hold (ending (unary t) zero_leaf) fs
  | OpenParen ↦ begun_atom hold (bracket grouped t none (just zero_leaf) (token CloseParen)) fs
  | _ ↦ tt
]

atoms_needs : (hold : Hold) (k : Kind) (t : Token) (fs : List Frame) → NoLess (needs (await fs (atoms hold))) (atoms_step hold k t fs)
atoms_needs hold k t fs = elim k as (λ k. NoLess (needs (await fs (atoms hold))) (if takes hold t then atom_step hold k t fs else None) → NoLess (needs (await fs (atoms hold))) (atoms_step hold k t fs)) [
  | Semicolon ↦ λ z. next_row_needs hold t fs
  | CloseBracket ↦ λ z. rows_end_needs hold t fs
  | _ ↦ λ z. z
] (elim (takes hold t) as (λ b. NoLess (needs (await fs (atoms hold))) (if b then atom_step hold k t fs else None)) [ true ↦ atom_needs hold k t fs | false ↦ tt ])

words_needs : (w : Words) (t : Token) (fs : List Frame) → NoLess (needs (await fs w)) (words_step w t fs)
words_needs (operator s) t fs = sign_needs s t fs
  where
    sign_needs : (s t : Token) (fs : List Frame) → NoLess (needs (await fs (operator s))) (words_step (operator s) t fs)
    sign_needs s t (fixed (in_bracket (called f) o es) ∷ fs) = bracket_needs (needs (await (fixed (in_bracket (called f) o es) ∷ fs) (operator s))) (called f) o es t.kind t fs (sign s) (omega arith)
    sign_needs s t _ = tt
words_needs (atoms hold) t fs = atoms_needs hold t.kind t fs
words_needs (minus hold m) t fs = may_if (needs (await fs (minus hold m))) (filled hold (ending (unary m) (leaf t)) fs) (is_tight t)
    (λ h. filled_needs (needs (await fs (minus hold m))) hold (ending (unary m) zero_leaf) (ending (unary m) (leaf t)) fs (omega arith) (omega arith))
words_needs (generator_name o x gens f) t fs = may_if (needs (await fs (generator_name o x gens f))) (await fs (generator_in o x gens f t)) (is_name t.kind) (λ h.
    flat_needs (needs (await fs (generator_name o x gens f))) fs (comprehension o x (with_generator gens f a_name (token In) zero_leaf) (token CloseBracket)) (comprehension o x (with_generator gens f t (token In) zero_leaf) (token CloseBracket))
    (omega arith) (omega (arith, height_with_generator gens f a_name (token In) zero_leaf, height_with_generator gens f t (token In) zero_leaf)) refl refl refl)
words_needs (generator_in o x gens f n) t fs = elim t.kind as (λ k. NoLess (needs (await fs (generator_in o x gens f n))) (generator_in_step o x gens f n k t fs)) [
  | In ↦ flat_needs (needs (await fs (generator_in o x gens f n))) fs (comprehension o x (with_generator gens f n (token In) zero_leaf) (token CloseBracket)) (comprehension o x (with_generator gens f n t zero_leaf) (token CloseBracket))
      (omega arith) (omega (arith, height_with_generator gens f n (token In) zero_leaf, height_with_generator gens f n t zero_leaf)) refl refl refl
  | _ ↦ tt
]
words_needs (element_type c) t fs = may_if (needs (await fs (element_type c))) (await fs (type_end c t)) (is_element_type t.kind)
    (λ h. flat_needs (needs (await fs (element_type c))) fs (a_remote c an_int (token CloseBrace) (token OpenParen) zero_leaf (token CloseParen)) (a_remote c t (token CloseBrace) (token OpenParen) zero_leaf (token CloseParen)) (omega arith) (omega arith) refl refl refl)
words_needs (type_end c type) t fs = elim t.kind as (λ k. NoLess (needs (await fs (type_end c type))) (type_end_step c type k t fs)) [
  | CloseBrace ↦ flat_needs (needs (await fs (type_end c type))) fs (a_remote c type (token CloseBrace) (token OpenParen) zero_leaf (token CloseParen)) (a_remote c type t (token OpenParen) zero_leaf (token CloseParen)) (omega arith) (omega arith) refl refl refl
  | _ ↦ tt
]
words_needs (size_begin c type z) t fs = elim t.kind as (λ k. NoLess (needs (await fs (size_begin c type z))) (size_begin_step c type z k t fs)) [
  | OpenParen ↦ flat_needs (needs (await fs (size_begin c type z))) fs (a_remote c type z (token OpenParen) zero_leaf (token CloseParen)) (shut (in_size c type z t) zero_leaf) (omega arith) (omega arith) refl refl refl
  | _ ↦ tt
]
words_needs (place_begin c type z o size p) t fs = elim t.kind as (λ k. NoLess (needs (await fs (place_begin c type z o size p))) (place_begin_step c type z o size p k t fs)) [
  | Comma ↦ flat_needs (needs (await fs (place_begin c type z o size p))) fs (a_remote c type z o size p) (shut (in_place c type z o size p t) zero_leaf) (omega arith) (omega arith) refl refl refl
  | _ ↦ tt
]

step_at_needs : (t : Token) (fs : List Frame) (n : Now) → IsState (record { frames = fs; now = n }) → NoLess (needs (record { frames = fs; now = n })) (step_at t fs n)
step_at_needs t fs wanted w = want_needs t.kind t fs
step_at_needs t fs (got e) w = have_needs t fs e w
step_at_needs t fs (pending x) w = words_needs x t fs

pub step_needs : (t : Token) (s : State) → IsState s → NoLess (needs s) (step t s)
step_needs t s w = step_at_needs t s.frames s.now w

-- One expression is under another where whatever stands round them nests the first no deeper than the second.
use Rattle.std.proofs.Common.{ℕ, zero, suc, ◌≡◌, ◌≤◌, ◌+◌, max, Bool, true, false, ◌&&◌, not, List, [], ◌∷◌, Option, Some, None, nat_le, nat_eq, if◌then◌else◌, refl, sym, ap, subst, ◌∙◌, arith}
use Rattle.jd_grammar.specs.declared.token.Token.{Token}
use Rattle.jd_grammar.specs.declared.token.Kind.TheVariants.{Comma, CloseParen, CloseBracket}
use Rattle.jd_grammar.specs.Kinds.{is_minus}
use Rattle.jd_grammar.specs.Grammar.{Syntax, leaf, ending, bracket, matrix, Head, unary, binary, choice, lambda, spawn, keyword, Bracket, grouped, called, itemed, indexed, Cells, no_cells, cell, row, Items, none, more, Maybe, nothing, just, Generators, no_more, generator, level, is_row, is_full}
use Rattle.jd_grammar.specs.Rows.{begins_tight, is_plain, is_chain, is_long, with_cell, joined, first_of, cells_of, count_cells, first_width, last_width, are_even, most_atoms}
use Rattle.jd_grammar.specs.Frames.{Hold, spawning, rows, Fixed, in_bracket, in_middle, in_group, in_generator, in_size, in_place, Frame, open_end, fixed}
use Rattle.jd_grammar.specs.Machine.{close, with_generator}
use Rattle.jd_grammar.specs.Depth.{height, height_cells, height_items, height_maybe, height_generators}
pub use Rattle.jd_grammar.specs.Profile.{row_height}
use Rattle.jd_grammar.specs.Shortest.{token, zero_leaf, zero_token, fill, missing, filled_rows, held, shut_row, shut_bracket, shut, wrap}
use Rattle.jd_grammar.proofs.RowFacts.{both, and_true, le_of, test_le, test_eq, count_with, count_joined, single_cells, single_even, single_width}
use Rattle.jd_grammar.proofs.Absurd.{no}

-- ---- heights of cells

pub height_with_cell : (cells : Cells) (q : Option Token) (a : Syntax) → height_cells (with_cell cells q a) ≡ max (height_cells cells) (height a)
height_with_cell no_cells None a = omega arith
height_with_cell no_cells (Some t) a = omega arith
height_with_cell (cell b cells) q a = omega (arith, height_with_cell cells q a)
height_with_cell (row t b cells) q a = omega (arith, height_with_cell cells q a)

height_joined : (cells ds : Cells) → height_cells (joined cells ds) ≡ max (height_cells cells) (height_cells ds)
height_joined no_cells ds = omega arith
height_joined (cell a cells) ds = omega (arith, height_joined cells ds)
height_joined (row t a cells) ds = omega (arith, height_joined cells ds)

height_fill : (n : ℕ) (cells : Cells) → height_cells (fill n cells) ≡ height_cells cells
height_fill zero cells = refl
height_fill (suc n) cells = omega (arith, height_fill n (with_cell cells None (leaf zero_token)), height_with_cell cells None (leaf zero_token))

pub height_rows : (o : Token) (x : Syntax) (cells : Cells) → height (filled_rows o x cells) ≡ 1 + max (height x) (height_cells cells)
height_rows o x cells = ap (λ h. 1 + max (height x) h) (height_fill (missing cells) cells)

pub height_with_generator : (gens : Generators) (t n i : Token) (e : Syntax) → height_generators (with_generator gens t n i e) ≡ max (height_generators gens) (height e)
height_with_generator no_more t n i e = omega arith
height_with_generator (generator s m j x gens) t n i e = omega (arith, height_with_generator gens t n i e)

-- ---- an expression as a row of atoms

pub tight_flat : (e : Syntax) → begins_tight e ≡ true → height (first_of e) ≡ 0
tight_flat (leaf t) h = refl
tight_flat (bracket (called f) o es last c) h = tight_flat f h
tight_flat (bracket grouped _ _ _ _) h = no h
tight_flat (bracket itemed _ _ _ _) h = no h
tight_flat (bracket (indexed _) _ _ _ _) h = no h
tight_flat _ h = no h

pub binary_row : (l : Syntax) (t : Token) (e : Syntax) → row_height (ending (binary l t) e) ≡ max (row_height l) (max (1 + height (first_of e)) (height_cells (cells_of e)))
binary_row l t e =
    let a = height_joined (with_cell (cells_of l) None (ending (unary t) (first_of e))) (cells_of e) in
    let b = height_with_cell (cells_of l) None (ending (unary t) (first_of e)) in omega (arith, a, b)

pub called_row : (f : Syntax) (o : Token) (es : Items) (last : Maybe) (c : Token) → row_height (bracket (called f) o es last c) ≡ max (row_height f) (1 + max (height_items es) (height_maybe last))
called_row f o es last c = let a = height_with_cell (cells_of f) None (bracket grouped o es last c) in omega (arith, a)

pub binary_count : (l : Syntax) (t : Token) (e : Syntax) → count_cells (cells_of (ending (binary l t) e)) ≡ count_cells (cells_of l) + 1 + count_cells (cells_of e)
binary_count l t e =
    let a = count_joined (with_cell (cells_of l) None (ending (unary t) (first_of e))) (cells_of e) in
    let b = count_with (cells_of l) None (ending (unary t) (first_of e)) in omega (arith, a, b)

-- atoms are no deeper than the expression
pub row_le : (e : Syntax) → is_chain e ≡ true → row_height e ≤ height e
row_le (leaf t) h = omega arith
row_le (ending (unary t) e) h =
    let a = both (is_minus t.kind) (begins_tight e && is_chain e) h in
    let b = both (begins_tight e) (is_chain e) a.1 in omega (arith, row_le e b.1, tight_flat e b.0)
row_le (ending (binary l t) e) h =
    let a = both (is_minus t.kind && t.spaced) ((begins_tight e && is_chain e) && is_chain l) h in
    let b = both (begins_tight e && is_chain e) (is_chain l) a.1 in
    let c = both (begins_tight e) (is_chain e) b.0 in omega (arith, binary_row l t e, row_le l b.1, row_le e c.1, tight_flat e c.0)
row_le (bracket grouped o none (just e) c) h = omega arith
row_le (bracket (called f) o none (just e) c) h =
    let a = both (o.spaced && is_plain e) (is_chain f) h in omega (arith, called_row f o none (just e) c, row_le f a.1)
row_le (bracket grouped o none nothing c) h = no h
row_le (bracket grouped o (more _ _ _) x c) h = no h
row_le (bracket (called f) o none nothing c) h = no h
row_le (bracket (called f) o (more _ _ _) x c) h = no h
row_le (bracket itemed o es x c) h = no h
row_le (bracket (indexed f) o es x c) h = no h
row_le (ending (choice _ _ _ _) e) h = no h
row_le (ending (lambda _ _) e) h = no h
row_le (ending (spawn _ _) e) h = no h
row_le (ending (keyword _ _) e) h = no h
row_le _ h = no h

-- one atom is no deeper than its row
short_row : (e : Syntax) → is_chain e ≡ true → is_long e ≡ false → height e ≤ row_height e
short_row (leaf t) h l = omega arith
short_row (ending (unary t) e) h l =
    let a = both (is_minus t.kind) (begins_tight e && is_chain e) h in
    let b = both (begins_tight e) (is_chain e) a.1 in omega (arith, short_tight e b.0 l)
  where
    short_tight : (e : Syntax) → begins_tight e ≡ true → is_long e ≡ false → height e ≡ 0
    short_tight (leaf t) h l = refl
    short_tight (bracket (called f) o es last c) h l = no (sym l)
    short_tight (bracket grouped _ _ _ _) h l = no h
    short_tight (bracket itemed _ _ _ _) h l = no h
    short_tight (bracket (indexed _) _ _ _ _) h l = no h
    short_tight _ h l = no h
short_row (ending (binary l t) e) h k = no (sym k)
short_row (bracket grouped o none (just e) c) h l = omega arith
short_row (bracket (called f) o es last c) h l = no (sym l)
short_row (bracket grouped o none nothing c) h l = no h
short_row (bracket grouped o (more _ _ _) x c) h l = no h
short_row (bracket itemed o es x c) h l = no h
short_row (bracket (indexed f) o es x c) h l = no h
short_row (ending (choice _ _ _ _) e) h l = no h
short_row (ending (lambda _ _) e) h l = no h
short_row (ending (spawn _ _) e) h l = no h
short_row (ending (keyword _ _) e) h l = no h
short_row _ h l = no h

-- a row of few atoms is a matrix
pub single_full : (e : Syntax) → count_cells (cells_of e) + 1 ≤ 262144 → is_full (cells_of e) ≡ true
single_full e h =
    let s = single_cells e in
    and_true (are_even (first_width 1 (cells_of e)) 1 (cells_of e)) (nat_eq (last_width 1 (cells_of e)) (first_width 1 (cells_of e)) && nat_le (count_cells (cells_of e) + 1) most_atoms)
    (single_even (first_width 1 (cells_of e)) 1 (cells_of e) s)
    (and_true (nat_eq (last_width 1 (cells_of e)) (first_width 1 (cells_of e))) (nat_le (count_cells (cells_of e) + 1) most_atoms)
    (test_eq (last_width 1 (cells_of e)) (first_width 1 (cells_of e)) (single_width 1 (cells_of e) s)) (test_le (count_cells (cells_of e) + 1) most_atoms h))

pub full_few : (cells : Cells) → is_full cells ≡ true → count_cells cells + 1 ≤ 262144
full_few cells h = le_of (count_cells cells + 1) most_atoms
    (both (nat_eq (last_width 1 cells) (first_width 1 cells)) (nat_le (count_cells cells + 1) most_atoms)
    (both (are_even (first_width 1 cells) 1 cells) (nat_eq (last_width 1 cells) (first_width 1 cells) && nat_le (count_cells cells + 1) most_atoms) h).1).1

-- ---- the order

pub record Under (e d : Syntax) : Type 0 where
  pub tall : height e ≤ height d
  pub plain : is_plain d ≡ true → is_plain e ≡ true
  pub chain : is_chain d ≡ true → is_chain e ≡ true
  pub row : is_chain d ≡ true → row_height e ≤ row_height d
  pub few : is_chain d ≡ true → count_cells (cells_of e) ≤ count_cells (cells_of d)
  pub tight : begins_tight d ≡ true → begins_tight e ≡ true

pub same_under : (e : Syntax) → Under e e
same_under e = record { tall = omega arith; plain = λ h. h; chain = λ h. h; row = λ h. omega arith; few = λ h. omega arith; tight = λ h. h }

pub under_under : (a b c : Syntax) → Under a b → Under b c → Under a c
under_under a b c p q = record {
  tall = omega (arith, p.tall, q.tall);
  plain = λ h. p.plain (q.plain h);
  chain = λ h. p.chain (q.chain h);
  row = λ h. omega (arith, p.row (q.chain h), q.row h);
  few = λ h. omega (arith, p.few (q.chain h), q.few h);
  tight = λ h. p.tight (q.tight h);
}

-- a number is under all
pub zero_under : (e : Syntax) → Under zero_leaf e
zero_under e = record { tall = omega arith; plain = λ h. refl; chain = λ h. refl; row = λ h. omega arith; few = λ h. omega arith; tight = λ h. refl }

-- what is no row
pub flat_under : (e d : Syntax) → height e ≤ height d → (is_plain d ≡ true → is_plain e ≡ true) → is_chain d ≡ false → begins_tight d ≡ false → Under e d
flat_under e d h p c t = record { tall = h; plain = p; chain = λ k. let z = sym c ∙ k in cc; row = λ k. let z = sym c ∙ k in cc; few = λ k. let z = sym c ∙ k in cc; tight = λ k. let z = sym t ∙ k in cc }

unary_under : (t : Token) (e d : Syntax) → Under e d → Under (ending (unary t) e) (ending (unary t) d)
unary_under t e d u = record {
  tall = omega (arith, u.tall);
  plain = λ h. refl;
  chain = λ h. let a = both (is_minus t.kind) (begins_tight d && is_chain d) h in let b = both (begins_tight d) (is_chain d) a.1 in
      and_true (is_minus t.kind) (begins_tight e && is_chain e) a.0 (and_true (begins_tight e) (is_chain e) (u.tight b.0) (u.chain b.1));
  row = λ h. let a = both (is_minus t.kind) (begins_tight d && is_chain d) h in let b = both (begins_tight d) (is_chain d) a.1 in
      omega (arith, u.row b.1, tight_flat d b.0, tight_flat e (u.tight b.0));
  few = λ h. let a = both (is_minus t.kind) (begins_tight d && is_chain d) h in u.few (both (begins_tight d) (is_chain d) a.1).1;
  tight = λ h. cc;
}

binary_under : (l : Syntax) (t : Token) (e d : Syntax) → Under e d → Under (ending (binary l t) e) (ending (binary l t) d)
binary_under l t e d u = record {
  tall = omega (arith, u.tall);
  plain = λ h. refl;
  chain = λ h. let c = parts h in and_true (is_minus t.kind && t.spaced) ((begins_tight e && is_chain e) && is_chain l) c.0
      (and_true (begins_tight e && is_chain e) (is_chain l) (and_true (begins_tight e) (is_chain e) (u.tight c.1) (u.chain c.2)) c.3);
  row = λ h. let c = parts h in omega (arith, binary_row l t e, binary_row l t d, u.row c.2, tight_flat d c.1, tight_flat e (u.tight c.1));
  few = λ h. let c = parts h in omega (arith, binary_count l t e, binary_count l t d, u.few c.2);
  tight = λ h. cc;
}
  where
    parts : is_chain (ending (binary l t) d) ≡ true → ((is_minus t.kind && t.spaced) ≡ true) × (begins_tight d ≡ true) × (is_chain d ≡ true) × (is_chain l ≡ true)
    parts h =
        let a = both (is_minus t.kind && t.spaced) ((begins_tight d && is_chain d) && is_chain l) h in
        let b = both (begins_tight d && is_chain d) (is_chain l) a.1 in
        let c = both (begins_tight d) (is_chain d) b.0 in
        (a.0, c.0, c.1, b.1)

pub ending_under : (h : Head) (e d : Syntax) → Under e d → Under (ending h e) (ending h d)
ending_under (unary t) e d u = unary_under t e d u
ending_under (binary l t) e d u = binary_under l t e d u
ending_under (choice c q x t) e d u = flat_under (ending (choice c q x t) e) (ending (choice c q x t) d) (omega (arith, u.tall)) (λ h. refl) refl refl
ending_under (lambda ns t) e d u = flat_under (ending (lambda ns t) e) (ending (lambda ns t) d) (omega (arith, u.tall)) (λ h. refl) refl refl
ending_under (spawn t a) e d u = flat_under (ending (spawn t a) e) (ending (spawn t a) d) (omega (arith, u.tall)) (λ h. refl) refl refl
ending_under (keyword n t) e d u = flat_under (ending (keyword n t) e) (ending (keyword n t) d) (omega (arith, u.tall)) (λ h. cc) refl refl

-- ---- brackets

pub called_under : (f : Syntax) (o : Token) (e d : Syntax) (c z : Token) → Under e d → Under (bracket (called f) o none (just e) c) (bracket (called f) o none (just d) z)
called_under f o e d c z u = record {
  tall = omega (arith, u.tall);
  plain = λ h. refl;
  chain = λ h. let a = both (o.spaced && is_plain d) (is_chain f) h in let b = both o.spaced (is_plain d) a.0 in and_true (o.spaced && is_plain e) (is_chain f) (and_true o.spaced (is_plain e) b.0 (u.plain b.1)) a.1;
  row = λ h. omega (arith, called_row f o none (just e) c, called_row f o none (just d) z, u.tall);
  few = λ h. omega (arith, count_with (cells_of f) None (bracket grouped o none (just e) c), count_with (cells_of f) None (bracket grouped o none (just d) z));
  tight = λ h. h;
}

grouped_under : (o : Token) (e d : Syntax) (c z : Token) → height e ≤ height d → Under (bracket grouped o none (just e) c) (bracket grouped o none (just d) z)
grouped_under o e d c z u = record { tall = omega arith; plain = λ h. refl; chain = λ h. refl; row = λ h. omega arith; few = λ h. omega arith; tight = λ h. cc }

-- a first element in brackets is at most as deep as its list
pub row_shut_le : (o : Token) (e : Syntax) → height (shut_bracket itemed o none e) ≤ 1 + height e
row_shut_le o e = elim (is_row e) as (λ x. is_row e ≡ x → height (if not x then bracket itemed o none (just e) (token CloseBracket) else shut_row o e) ≤ 1 + height e) [
  | true ↦ λ r. elim (is_full (cells_of e)) as (λ b. height (if b then matrix o (first_of e) (cells_of e) (token CloseBracket) else bracket itemed o (more e (token Comma) none) (just zero_leaf) (token CloseBracket)) ≤ 1 + height e) [
    | true ↦ omega (arith, row_le e (both (is_chain e) (is_long e) r).0)
    | false ↦ omega arith
  ]
  | false ↦ λ r. omega arith
] refl

-- and no deeper than the matrix of a row that it is under
pub row_shut_row : (o : Token) (e d : Syntax) → Under e d → is_chain d ≡ true → is_full (cells_of d) ≡ true → height (shut_bracket itemed o none e) ≤ 1 + row_height d
row_shut_row o e d u c f = elim (is_row e) as (λ x. is_row e ≡ x → height (if not x then bracket itemed o none (just e) (token CloseBracket) else shut_row o e) ≤ 1 + row_height d) [
  | true ↦ λ r. subst (λ b. height (if b then matrix o (first_of e) (cells_of e) (token CloseBracket) else bracket itemed o (more e (token Comma) none) (just zero_leaf) (token CloseBracket)) ≤ 1 + row_height d)
      (sym (single_full e (omega (arith, u.few c, full_few (cells_of d) f)))) (omega (arith, u.row c))
  | false ↦ λ r. omega (arith, short_row e (u.chain c) (short (is_chain e) (is_long e) (u.chain c) r), u.row c)
] refl
  where
    short : (a b : Bool) → a ≡ true → (a && b) ≡ false → b ≡ false
    short true b h k = k
    short false b h k = cc

pub row_shut_grows : (o : Token) (e d : Syntax) → Under e d → height (shut_bracket itemed o none e) ≤ height (shut_bracket itemed o none d)
row_shut_grows o e d u = elim (is_row d) as (λ x. is_row d ≡ x → height (shut_bracket itemed o none e) ≤ height (if not x then bracket itemed o none (just d) (token CloseBracket) else shut_row o d)) [
  | true ↦ λ r. elim (is_full (cells_of d)) as (λ b. is_full (cells_of d) ≡ b → height (shut_bracket itemed o none e) ≤ height (if b then matrix o (first_of d) (cells_of d) (token CloseBracket) else bracket itemed o (more d (token Comma) none) (just zero_leaf) (token CloseBracket))) [
    | true ↦ λ f. row_shut_row o e d u (both (is_chain d) (is_long d) r).0 f
    | false ↦ λ f. omega (arith, row_shut_le o e, u.tall)
  ] refl
  | false ↦ λ r. omega (arith, row_shut_le o e, u.tall)
] refl

-- what a first element becomes is no row, and an expression
pub row_shut_flat : (o : Token) (e : Syntax) → (is_chain (shut_bracket itemed o none e) ≡ false) × (begins_tight (shut_bracket itemed o none e) ≡ false) × (is_plain (shut_bracket itemed o none e) ≡ true)
row_shut_flat o e = elim (is_row e) as (λ x. let y = if not x then bracket itemed o none (just e) (token CloseBracket) else shut_row o e in (is_chain y ≡ false) × (begins_tight y ≡ false) × (is_plain y ≡ true)) [
  | true ↦ elim (is_full (cells_of e)) as (λ b. let y = if b then matrix o (first_of e) (cells_of e) (token CloseBracket) else bracket itemed o (more e (token Comma) none) (just zero_leaf) (token CloseBracket) in (is_chain y ≡ false) × (begins_tight y ≡ false) × (is_plain y ≡ true)) [
    | true ↦ (refl, refl, refl)
    | false ↦ (refl, refl, refl)
  ]
  | false ↦ (refl, refl, refl)
]

bracket_under : (b : Bracket) (o : Token) (es : Items) (e d : Syntax) → Under e d → Under (shut_bracket b o es e) (shut_bracket b o es d)
bracket_under (called f) o none e d u = called_under f o e d (token CloseParen) (token CloseParen) u
bracket_under (called f) o (more x c es) e d u = record { tall = omega (arith, u.tall); plain = λ h. refl; chain = λ h. cc; row = λ h. cc; few = λ h. cc; tight = λ h. h }
bracket_under grouped o none e d u = grouped_under o e d (token CloseParen) (token CloseParen) u.tall
bracket_under grouped o (more x c es) e d u = flat_under (shut_bracket grouped o (more x c es) e) (shut_bracket grouped o (more x c es) d) (omega (arith, u.tall)) (λ h. refl) refl refl
bracket_under itemed o none e d u = let f = row_shut_flat o d in flat_under (shut_bracket itemed o none e) (shut_bracket itemed o none d) (row_shut_grows o e d u) (λ h. (row_shut_flat o e).2) f.0 f.1
bracket_under itemed o (more x c es) e d u = flat_under (shut_bracket itemed o (more x c es) e) (shut_bracket itemed o (more x c es) d) (omega (arith, u.tall)) (λ h. refl) refl refl
bracket_under (indexed f) o es e d u = flat_under (shut_bracket (indexed f) o es e) (shut_bracket (indexed f) o es d) (omega (arith, u.tall)) (λ h. refl) refl refl

pub held_under : (hold : Hold) (a b : Syntax) → height a ≤ height b → Under (held hold a) (held hold b)
held_under (spawning s) a b h = flat_under (held (spawning s) a) (held (spawning s) b) (omega arith) (λ k. refl) refl refl
held_under (rows o x cells q) a b h = flat_under (held (rows o x cells q) a) (held (rows o x cells q) b)
    (omega (arith, height_rows o x (with_cell cells q a), height_rows o x (with_cell cells q b), height_with_cell cells q a, height_with_cell cells q b)) (λ k. refl) refl refl

pub shut_under : (f : Fixed) (e d : Syntax) → Under e d → Under (shut f e) (shut f d)
shut_under (in_bracket b o es) e d u = bracket_under b o es e d u
shut_under (in_middle c q) e d u = flat_under (shut (in_middle c q) e) (shut (in_middle c q) d) (omega (arith, u.tall)) (λ h. refl) refl refl
shut_under (in_group hold p) e d u = held_under hold (bracket grouped p none (just e) (token CloseParen)) (bracket grouped p none (just d) (token CloseParen)) (omega (arith, u.tall))
shut_under (in_generator o x gens t n i) e d u = flat_under (shut (in_generator o x gens t n i) e) (shut (in_generator o x gens t n i) d)
    (omega (arith, u.tall, height_with_generator gens t n i e, height_with_generator gens t n i d)) (λ h. refl) refl refl
shut_under (in_size c type z o) e d u = flat_under (shut (in_size c type z o) e) (shut (in_size c type z o) d) (omega (arith, u.tall)) (λ h. refl) refl refl
shut_under (in_place c type z o size p comma) e d u = flat_under (shut (in_place c type z o size p comma) e) (shut (in_place c type z o size p comma) d) (omega (arith, u.tall)) (λ h. refl) refl refl

-- ---- whatever stands round them

pub grows : (fs : List Frame) (e d : Syntax) → Under e d → height (wrap fs e) ≤ height (wrap fs d)
grows [] e d u = u.tall
grows (open_end h ∷ fs) e d u = grows fs (ending h e) (ending h d) (ending_under h e d u)
grows (fixed f ∷ fs) e d u = grows fs (shut f e) (shut f d) (shut_under f e d u)

pub close_wrap : (p : ℕ) (fs : List Frame) (e : Syntax) → wrap (close p fs e).0 (close p fs e).1 ≡ wrap fs e
close_wrap p [] e = refl
close_wrap p (open_end h ∷ fs) e = elim (nat_le p (level h)) as (λ b. let r = if b then close p fs (ending h e) else (open_end h ∷ fs, e) in wrap r.0 r.1 ≡ wrap fs (ending h e)) [ true ↦ close_wrap p fs (ending h e) | false ↦ refl ]
close_wrap p (fixed f ∷ fs) e = refl

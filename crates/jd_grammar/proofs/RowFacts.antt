-- How the numbers of atoms in rows change with each cell.
use Rattle.std.proofs.Common.{ℕ, zero, suc, ◌≡◌, ◌≤◌, ◌+◌, Bool, true, false, ◌&&◌, IsTrue, Option, Some, None, nat_le, nat_eq, refl, sym, ap, ◌∙◌, arith}
use Rattle.std.proofs.lemmas.Bool.Decides.{nat_tests}
use Rattle.jd_grammar.specs.declared.token.Token.{Token}
use Rattle.jd_grammar.specs.Trees.{Syntax, leaf, ending, bracket, unary, binary, grouped, called, Cells, no_cells, cell, row}
use Rattle.jd_grammar.specs.Rows.{with_cell, joined, first_of, cells_of, are_many, most_atoms, count_cells, first_width, last_width, are_even, is_full, are_begun, may_go_on}
use Rattle.jd_grammar.specs.Shortest.{zero_token, fill, missing}

pub both : (a b : Bool) → (a && b) ≡ true → (a ≡ true) × (b ≡ true)
both true b h = (refl, h)
both false b h = cc

pub and_true : (a b : Bool) → a ≡ true → b ≡ true → (a && b) ≡ true
and_true a b h k = ap (λ x. x && b) h ∙ k

pub eq_of : (a b : ℕ) → nat_eq a b ≡ true → a ≡ b
eq_of a b h = grind (arith, nat_tests)

pub test_eq : (a b : ℕ) → a ≡ b → nat_eq a b ≡ true
test_eq a b h = grind (arith, nat_tests)

pub le_of : (a b : ℕ) → nat_le a b ≡ true → a ≤ b
le_of a b h = grind (arith, nat_tests)

pub not_le : (a b : ℕ) → nat_le a b ≡ false → b ≤ a
not_le a b h = grind (arith, nat_tests)

pub test_le : (a b : ℕ) → a ≤ b → nat_le a b ≡ true
test_le a b h = grind (arith, nat_tests)

-- ---- one cell more

pub count_with : (cells : Cells) (q : Option Token) (a : Syntax) → count_cells (with_cell cells q a) ≡ count_cells cells + 1
count_with no_cells None a = refl
count_with no_cells (Some t) a = refl
count_with (cell b cells) q a = ap (λ n. n + 1) (count_with cells q a)
count_with (row t b cells) q a = ap (λ n. n + 1) (count_with cells q a)

pub keep_even : (w n : ℕ) (cells : Cells) (a : Syntax) → are_even w n (with_cell cells None a) ≡ are_even w n cells
keep_even w n no_cells a = refl
keep_even w n (cell b cells) a = keep_even w (n + 1) cells a
keep_even w n (row t b cells) a = ap (λ x. nat_eq n w && x) (keep_even w 1 cells a)

pub even_cell : (n : ℕ) (cells : Cells) (a : Syntax) → are_even (first_width n cells) n cells ≡ true → are_even (first_width n (with_cell cells None a)) n (with_cell cells None a) ≡ true
even_cell n no_cells a h = refl
even_cell n (cell b cells) a h = even_cell (n + 1) cells a h
even_cell n (row t b cells) a h = ap (λ x. nat_eq n n && x) (keep_even n 1 cells a) ∙ h

pub first_row : (n : ℕ) (cells : Cells) (t : Token) (a : Syntax) → first_width n (with_cell cells (Some t) a) ≡ first_width n cells
first_row n no_cells t a = refl
first_row n (cell b cells) t a = first_row (n + 1) cells t a
first_row n (row u b cells) t a = refl

pub last_row : (n : ℕ) (cells : Cells) (t : Token) (a : Syntax) → last_width n (with_cell cells (Some t) a) ≡ 1
last_row n no_cells t a = refl
last_row n (cell b cells) t a = last_row (n + 1) cells t a
last_row n (row u b cells) t a = last_row 1 cells t a

pub last_cell : (n : ℕ) (cells : Cells) (a : Syntax) → last_width n (with_cell cells None a) ≡ last_width n cells + 1
last_cell n no_cells a = refl
last_cell n (cell b cells) a = last_cell (n + 1) cells a
last_cell n (row u b cells) a = last_cell 1 cells a

pub even_row : (w n : ℕ) (cells : Cells) (t : Token) (a : Syntax) → are_even w n cells ≡ true → last_width n cells ≡ w → are_even w n (with_cell cells (Some t) a) ≡ true
even_row w n no_cells t a h k = and_true (nat_eq n w) true (test_eq n w k) refl
even_row w n (cell b cells) t a h k = even_row w (n + 1) cells t a h k
even_row w n (row u b cells) t a h k = let c = both (nat_eq n w) (are_even w 1 cells) h in and_true (nat_eq n w) (are_even w 1 (with_cell cells (Some t) a)) c.0 (even_row w 1 cells t a c.1 k)

same_first : (n : ℕ) (cells : Cells) (q : Option Token) (a b : Syntax) → first_width n (with_cell cells q a) ≡ first_width n (with_cell cells q b)
same_first n no_cells None a b = refl
same_first n no_cells (Some t) a b = refl
same_first n (cell x cells) q a b = same_first (n + 1) cells q a b
same_first n (row t x cells) q a b = refl

same_last : (n : ℕ) (cells : Cells) (q : Option Token) (a b : Syntax) → last_width n (with_cell cells q a) ≡ last_width n (with_cell cells q b)
same_last n no_cells None a b = refl
same_last n no_cells (Some t) a b = refl
same_last n (cell x cells) q a b = same_last (n + 1) cells q a b
same_last n (row t x cells) q a b = same_last 1 cells q a b

-- which atom it is doesn't matter
pub same_begun : (cells : Cells) (q : Option Token) (a b : Syntax) → are_begun (with_cell cells q a) ≡ are_begun (with_cell cells q b)
same_begun cells q a b =
    ap (λ f. nat_le (last_width 1 (with_cell cells q a)) f && nat_le (count_cells (with_cell cells q a) + 1 + f) (most_atoms + last_width 1 (with_cell cells q a))) (same_first 1 cells q a b)
    ∙ ap (λ l. nat_le l (first_width 1 (with_cell cells q b)) && nat_le (count_cells (with_cell cells q a) + 1 + first_width 1 (with_cell cells q b)) (most_atoms + l)) (same_last 1 cells q a b)
    ∙ ap (λ c. nat_le (last_width 1 (with_cell cells q b)) (first_width 1 (with_cell cells q b)) && nat_le (c + 1 + first_width 1 (with_cell cells q b)) (most_atoms + last_width 1 (with_cell cells q b)))
    (count_with cells q a ∙ sym (count_with cells q b))

pub go_begun : (cells : Cells) → may_go_on cells ≡ true → are_begun cells ≡ true
go_begun cells h =
    let c = both (nat_eq (last_width 1 cells) (first_width 1 cells)) (nat_le (count_cells cells + 1 + first_width 1 cells) most_atoms) h in
    let e : last_width 1 cells ≡ first_width 1 cells = eq_of (last_width 1 cells) (first_width 1 cells) c.0 in
    let l : count_cells cells + 1 + first_width 1 cells ≤ 262144 = le_of (count_cells cells + 1 + first_width 1 cells) most_atoms c.1 in
    and_true (nat_le (last_width 1 cells) (first_width 1 cells)) (nat_le (count_cells cells + 1 + first_width 1 cells) (most_atoms + last_width 1 cells))
    (test_le (last_width 1 cells) (first_width 1 cells) (omega (arith, e)))
    (test_le (count_cells cells + 1 + first_width 1 cells) (most_atoms + last_width 1 cells) (omega (arith, l)))

-- ---- an expression is one row

pub are_single : Cells → Bool
are_single no_cells = true
are_single (cell a cells) = are_single cells
are_single (row t a cells) = false

single_with : (cells : Cells) (a : Syntax) → are_single cells ≡ true → are_single (with_cell cells None a) ≡ true
unfolding are_single
single_with no_cells a h = refl
single_with (cell b cells) a h = single_with cells a h
single_with (row t b cells) a h = cc

single_joined : (cells more : Cells) → are_single cells ≡ true → are_single more ≡ true → are_single (joined cells more) ≡ true
unfolding are_single
single_joined no_cells more h k = k
single_joined (cell b cells) more h k = single_joined cells more h k
single_joined (row t b cells) more h k = cc

pub single_cells : (e : Syntax) → are_single (cells_of e) ≡ true
unfolding are_single
single_cells (ending (unary t) e) = single_cells e
single_cells (ending (binary l t) e) =
    single_joined (with_cell (cells_of l) None (ending (unary t) (first_of e))) (cells_of e) (single_with (cells_of l) (ending (unary t) (first_of e)) (single_cells l)) (single_cells e)
single_cells (bracket (called f) o es last c) = single_with (cells_of f) (bracket grouped o es last c) (single_cells f)
single_cells _ = refl

pub single_even : (w n : ℕ) (cells : Cells) → are_single cells ≡ true → are_even w n cells ≡ true
unfolding are_single
single_even w n no_cells h = refl
single_even w n (cell a cells) h = single_even w (n + 1) cells h
single_even w n (row t a cells) h = cc

pub single_width : (n : ℕ) (cells : Cells) → are_single cells ≡ true → last_width n cells ≡ first_width n cells
unfolding are_single
single_width n no_cells h = refl
single_width n (cell a cells) h = single_width (n + 1) cells h
single_width n (row t a cells) h = cc

pub many_with_cell : (cells : Cells) (q : Option Token) (a : Syntax) → IsTrue (are_many (with_cell cells q a))
many_with_cell no_cells None a = refl
many_with_cell no_cells (Some t) a = refl
many_with_cell (cell b cells) q a = refl
many_with_cell (row t b cells) q a = refl

pub many_joined : (cells more : Cells) → IsTrue (are_many cells) → IsTrue (are_many (joined cells more))
many_joined no_cells more h = cc
many_joined (cell a cells) more h = refl
many_joined (row t a cells) more h = refl

-- ---- what stands before some cells of a whole matrix

even_joined : (w n : ℕ) (cells ds : Cells) → are_even w n (joined cells ds) ≡ true → are_even w (last_width n cells) ds ≡ true
even_joined w n no_cells ds h = h
even_joined w n (cell a cells) ds h = even_joined w (n + 1) cells ds h
even_joined w n (row t a cells) ds h = even_joined w 1 cells ds (both (nat_eq n w) (are_even w 1 (joined cells ds)) h).1

last_joined : (n : ℕ) (cells ds : Cells) → last_width n (joined cells ds) ≡ last_width (last_width n cells) ds
last_joined n no_cells ds = refl
last_joined n (cell a cells) ds = last_joined (n + 1) cells ds
last_joined n (row t a cells) ds = last_joined 1 cells ds

pub count_joined : (cells ds : Cells) → count_cells (joined cells ds) ≡ count_cells cells + count_cells ds
count_joined no_cells ds = omega arith
count_joined (cell a cells) ds = omega (arith, count_joined cells ds)
count_joined (row t a cells) ds = omega (arith, count_joined cells ds)

first_joined : (n : ℕ) (cells ds : Cells) → are_single cells ≡ false → first_width n (joined cells ds) ≡ first_width n cells
unfolding are_single
first_joined n no_cells ds h = cc
first_joined n (cell a cells) ds h = first_joined (n + 1) cells ds h
first_joined n (row t a cells) ds h = refl

first_single : (n : ℕ) (cells ds : Cells) → are_single cells ≡ true → first_width n (joined cells ds) ≡ first_width (first_width n cells) ds
unfolding are_single
first_single n no_cells ds h = refl
first_single n (cell a cells) ds h = first_single (n + 1) cells ds h
first_single n (row t a cells) ds h = cc

-- the atoms that are left fill the row
fill_le : (w n : ℕ) (ds : Cells) → are_even w n ds ≡ true → last_width n ds ≡ w → n ≤ w
fill_le w n no_cells h l = omega (arith, l)
fill_le w n (cell a ds) h l = omega (arith, fill_le w (n + 1) ds h l)
fill_le w n (row t a ds) h l = omega (arith, eq_of n w (both (nat_eq n w) (are_even w 1 ds) h).0)

fill_ge : (w n : ℕ) (ds : Cells) → are_even w n ds ≡ true → last_width n ds ≡ w → w ≤ n + count_cells ds
fill_ge w n no_cells h l = omega (arith, l)
fill_ge w n (cell a ds) h l = omega (arith, fill_ge w (n + 1) ds h l)
fill_ge w n (row t a ds) h l = omega (arith, eq_of n w (both (nat_eq n w) (are_even w 1 ds) h).0)

record IsWhole (cells : Cells) : Type 0 where
  even : are_even (first_width 1 cells) 1 cells ≡ true
  last : last_width 1 cells ≡ first_width 1 cells
  few : count_cells cells + 1 ≤ 262144

whole_of : (cells : Cells) → is_full cells ≡ true → IsWhole cells
whole_of cells h =
    let a = both (are_even (first_width 1 cells) 1 cells) (nat_eq (last_width 1 cells) (first_width 1 cells) && nat_le (count_cells cells + 1) most_atoms) h in
    let b = both (nat_eq (last_width 1 cells) (first_width 1 cells)) (nat_le (count_cells cells + 1) most_atoms) a.1 in
    record { even = a.0; last = eq_of (last_width 1 cells) (first_width 1 cells) b.0; few = le_of (count_cells cells + 1) most_atoms b.1 }

begun_of : (cells : Cells) → last_width 1 cells ≤ first_width 1 cells → count_cells cells + 1 + first_width 1 cells ≤ 262144 + last_width 1 cells → are_begun cells ≡ true
begun_of cells h k = and_true (nat_le (last_width 1 cells) (first_width 1 cells)) (nat_le (count_cells cells + 1 + first_width 1 cells) (most_atoms + last_width 1 cells))
    (test_le (last_width 1 cells) (first_width 1 cells) h) (test_le (count_cells cells + 1 + first_width 1 cells) (most_atoms + last_width 1 cells) k)

pub prefix_begun : (cells ds : Cells) → is_full (joined cells ds) ≡ true → are_begun cells ≡ true
prefix_begun cells ds h = elim (are_single cells) as (λ b. are_single cells ≡ b → are_begun cells ≡ true) [
  | true ↦ λ s. (let e = single_width 1 cells s in begun_of cells (omega (arith, e)) (omega (arith, e, (whole_of (joined cells ds) h).few, count_joined cells ds)))
  | false ↦ λ s. (
      let w = whole_of (joined cells ds) h in
      let f = first_joined 1 cells ds s in
      let e = even_joined (first_width 1 (joined cells ds)) 1 cells ds w.even in
      let l : last_width (last_width 1 cells) ds ≡ first_width 1 (joined cells ds) = sym (last_joined 1 cells ds) ∙ w.last in
      let a = fill_le (first_width 1 (joined cells ds)) (last_width 1 cells) ds e l in
      let b = fill_ge (first_width 1 (joined cells ds)) (last_width 1 cells) ds e l in
      let c = count_joined cells ds in
      begun_of cells (omega (arith, a, f)) (omega (arith, b, c, f, w.few)))
] refl

first_before : (cells : Cells) (t : Token) (x : Syntax) (ds : Cells) → first_width 1 (joined cells (row t x ds)) ≡ first_width 1 cells
first_before cells t x ds = elim (are_single cells) as (λ b. are_single cells ≡ b → first_width 1 (joined cells (row t x ds)) ≡ first_width 1 cells) [
  | true ↦ λ s. first_single 1 cells (row t x ds) s
  | false ↦ λ s. first_joined 1 cells (row t x ds) s
] refl

pub prefix_goes : (cells : Cells) (t : Token) (x : Syntax) (ds : Cells) → is_full (joined cells (row t x ds)) ≡ true → may_go_on cells ≡ true
prefix_goes cells t x ds h =
    let w = whole_of (joined cells (row t x ds)) h in
    let f = first_before cells t x ds in
    let v = first_width 1 (joined cells (row t x ds)) in
    let e = both (nat_eq (last_width 1 cells) (first_width 1 (joined cells (row t x ds)))) (are_even (first_width 1 (joined cells (row t x ds))) 1 ds) (even_joined (first_width 1 (joined cells (row t x ds))) 1 cells (row t x ds) w.even) in
    let q = eq_of (last_width 1 cells) (first_width 1 (joined cells (row t x ds))) e.0 in
    let l : last_width 1 ds ≡ first_width 1 (joined cells (row t x ds)) = sym (last_joined 1 cells (row t x ds)) ∙ w.last in
    let b = fill_ge (first_width 1 (joined cells (row t x ds))) 1 ds e.1 l in
    let c = count_joined cells (row t x ds) in
    and_true (nat_eq (last_width 1 cells) (first_width 1 cells)) (nat_le (count_cells cells + 1 + first_width 1 cells) most_atoms)
    (test_eq (last_width 1 cells) (first_width 1 cells) (omega (arith, q, f)))
    (test_le (count_cells cells + 1 + first_width 1 cells) most_atoms (omega (arith, b, c, f, w.few)))

-- ---- rows that are filled

first_later : (n : ℕ) (cells : Cells) (a : Syntax) → are_single cells ≡ false → first_width n (with_cell cells None a) ≡ first_width n cells
unfolding are_single
first_later n no_cells a h = cc
first_later n (cell b cells) a h = first_later (n + 1) cells a h
first_later n (row t b cells) a h = refl

single_later : (cells : Cells) (a : Syntax) → are_single (with_cell cells None a) ≡ are_single cells
unfolding are_single
single_later no_cells a = refl
single_later (cell b cells) a = single_later cells a
single_later (row t b cells) a = refl

full_of : (cells : Cells) → are_even (first_width 1 cells) 1 cells ≡ true → last_width 1 cells ≡ first_width 1 cells → count_cells cells + 1 ≤ 262144 → is_full cells ≡ true
full_of cells e l c = and_true (are_even (first_width 1 cells) 1 cells) (nat_eq (last_width 1 cells) (first_width 1 cells) && nat_le (count_cells cells + 1) most_atoms) e
    (and_true (nat_eq (last_width 1 cells) (first_width 1 cells)) (nat_le (count_cells cells + 1) most_atoms) (test_eq (last_width 1 cells) (first_width 1 cells) l) (test_le (count_cells cells + 1) most_atoms c))

wants_row : (n : ℕ) (cells : Cells) → last_width 1 cells + (n + 1) ≡ first_width 1 cells → are_single cells ≡ false
wants_row n cells h = elim (are_single cells) as (λ b. are_single cells ≡ b → b ≡ false) [
  | true ↦ λ s. absurd (omega (arith, h, single_width 1 cells s))
  | false ↦ λ s. refl
] refl

fill_by : (n : ℕ) (cells : Cells) → are_even (first_width 1 cells) 1 cells ≡ true → last_width 1 cells + n ≡ first_width 1 cells → count_cells cells + 1 + n ≤ 262144 → is_full (fill n cells) ≡ true
fill_by zero cells e l c = full_of cells e (omega (arith, l)) (omega (arith, c))
fill_by (suc n) cells e l c =
    let s = wants_row n cells (omega (arith, l)) in
    let f = first_later 1 cells (leaf zero_token) s in
    fill_by n (with_cell cells None (leaf zero_token))
    (ap (λ w. are_even w 1 (with_cell cells None (leaf zero_token))) f ∙ keep_even (first_width 1 cells) 1 cells (leaf zero_token) ∙ e)
    (omega (arith, f, l, last_cell 1 cells (leaf zero_token))) (omega (arith, c, count_with cells None (leaf zero_token)))

pub fill_full : (cells : Cells) → are_even (first_width 1 cells) 1 cells ≡ true → are_begun cells ≡ true → is_full (fill (missing cells) cells) ≡ true
fill_full cells e b =
    let c = both (nat_le (last_width 1 cells) (first_width 1 cells)) (nat_le (count_cells cells + 1 + first_width 1 cells) (most_atoms + last_width 1 cells)) b in
    let l = le_of (last_width 1 cells) (first_width 1 cells) c.0 in
    let k : count_cells cells + 1 + first_width 1 cells ≤ 262144 + last_width 1 cells = le_of (count_cells cells + 1 + first_width 1 cells) (most_atoms + last_width 1 cells) c.1 in
    fill_by (missing cells) cells e (omega (arith, l)) (omega (arith, l, k))

-- one atom more in a further row
pub go_on_begun : (cells : Cells) (t : Token) (a : Syntax) → may_go_on cells ≡ true → are_begun (with_cell cells (Some t) a) ≡ true
go_on_begun cells t a h =
    let c = both (nat_eq (last_width 1 cells) (first_width 1 cells)) (nat_le (count_cells cells + 1 + first_width 1 cells) most_atoms) h in
    let k : count_cells cells + 1 + first_width 1 cells ≤ 262144 = le_of (count_cells cells + 1 + first_width 1 cells) most_atoms c.1 in
    let f = first_row 1 cells t a in
    let l = last_row 1 cells t a in
    let n = count_with cells (Some t) a in
    let p = first_ge 1 cells in
    begun_of (with_cell cells (Some t) a) (omega (arith, f, l, p)) (omega (arith, f, l, n, k))
  where
    first_ge : (n : ℕ) (cells : Cells) → n ≤ first_width n cells
    first_ge n no_cells = omega arith
    first_ge n (cell b cells) = omega (arith, first_ge (n + 1) cells)
    first_ge n (row u b cells) = omega arith

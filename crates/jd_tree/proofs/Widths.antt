-- What the rows of a matrix are like with one atom more.
use Rattle.std.proofs.Common.{ℕ, ◌≡◌, ◌≤◌, ◌+◌, ◌-◌, min, length, Bool, true, false, ◌&&◌, nat_eq, nat_le, nat_lt, if◌then◌else◌, List, [], ◌∷◌, map, Option, Some, None, refl, sym, ap, ◌∙◌, arith}
use Rattle.std.proofs.lemmas.Bool.Decides.{nat_tests}
use Rattle.jd_grammar.specs.declared.token.Token.{Token}
use Rattle.jd_grammar.specs.Trees.{Syntax, Cells, no_cells, cell, row}
use Rattle.jd_grammar.specs.Rows.{with_cell, count_cells, first_width, last_width, are_even, is_full, are_begun, may_go_on, most_atoms}
use Rattle.jd_grammar.proofs.RowFacts.{keep_even, count_with, first_row}
use Rattle.jd_tree.specs.declared.tree.Cell.{Cell}
use Rattle.jd_tree.specs.Measures.{are_single}
use Rattle.jd_tree.specs.Plain.{plain_cell, cells_at, one_cell}

pub single_cell : (cells : Cells) (a : Syntax) → are_single (with_cell cells None a) ≡ are_single cells
single_cell no_cells a = refl
single_cell (cell b cells) a = single_cell cells a
single_cell (row t b cells) a = refl

pub single_row : (cells : Cells) (t : Token) (a : Syntax) → are_single (with_cell cells (Some t) a) ≡ false
single_row no_cells t a = refl
single_row (cell b cells) t a = single_row cells t a
single_row (row u b cells) t a = refl

-- one row is as wide as it has atoms
pub first_of_single : (n : ℕ) (cells : Cells) → are_single cells ≡ true → first_width n cells ≡ n + count_cells cells
first_of_single n no_cells h = omega arith
first_of_single n (cell a cells) h = omega (arith, first_of_single (n + 1) cells h)
first_of_single n (row t a cells) h = cc

pub last_of_single : (n : ℕ) (cells : Cells) → are_single cells ≡ true → last_width n cells ≡ n + count_cells cells
last_of_single n no_cells h = omega arith
last_of_single n (cell a cells) h = omega (arith, last_of_single (n + 1) cells h)
last_of_single n (row t a cells) h = cc

pub first_of_several : (n : ℕ) (cells : Cells) (a : Syntax) → are_single cells ≡ false → first_width n (with_cell cells None a) ≡ first_width n cells
first_of_several n no_cells a h = cc
first_of_several n (cell b cells) a h = first_of_several (n + 1) cells a h
first_of_several n (row t b cells) a h = refl

pub even_of_single : (w n : ℕ) (cells : Cells) → are_single cells ≡ true → are_even w n cells ≡ true
even_of_single w n no_cells h = refl
even_of_single w n (cell a cells) h = even_of_single w (n + 1) cells h
even_of_single w n (row t a cells) h = cc

pub even_cell : (cells : Cells) (a : Syntax) → are_even (first_width 1 (with_cell cells None a)) 1 (with_cell cells None a) ≡ are_even (first_width 1 cells) 1 cells
even_cell cells a = elim (are_single cells) as (λ b. are_single cells ≡ b → are_even (first_width 1 (with_cell cells None a)) 1 (with_cell cells None a) ≡ are_even (first_width 1 cells) 1 cells) [
  | true ↦ λ h. (even_of_single (first_width 1 (with_cell cells None a)) 1 (with_cell cells None a) (single_cell cells a ∙ h) ∙ sym (even_of_single (first_width 1 cells) 1 cells h))
  | false ↦ λ h. (ap (λ w. are_even w 1 (with_cell cells None a)) (first_of_several 1 cells a h) ∙ keep_even (first_width 1 cells) 1 cells a)
] refl

and_swap : (a b : Bool) → (a && b) ≡ (b && a)
and_swap true true = refl
and_swap true false = refl
and_swap false true = refl
and_swap false false = refl

and_in : (a b c : Bool) → (a && (b && c)) ≡ ((a && b) && c)
and_in true b c = refl
and_in false b c = refl

pub even_row : (w n : ℕ) (cells : Cells) (t : Token) (a : Syntax) → are_even w n (with_cell cells (Some t) a) ≡ (are_even w n cells && nat_eq (last_width n cells) w)
even_row w n no_cells t a = and_swap (nat_eq n w) true
even_row w n (cell b cells) t a = even_row w (n + 1) cells t a
even_row w n (row u b cells) t a = ap (λ x. nat_eq n w && x) (even_row w 1 cells t a) ∙ and_in (nat_eq n w) (are_even w 1 cells) (nat_eq (last_width 1 cells) w)

-- rows are no wider than there are atoms
pub first_le : (n : ℕ) (cells : Cells) → first_width n cells ≤ n + count_cells cells
first_le n no_cells = omega arith
first_le n (cell a cells) = omega (arith, first_le (n + 1) cells)
first_le n (row t a cells) = omega arith

pub last_le : (n : ℕ) (cells : Cells) → last_width n cells ≤ n + count_cells cells
last_le n no_cells = omega arith
last_le n (cell a cells) = omega (arith, last_le (n + 1) cells)
last_le n (row t a cells) = omega (arith, last_le 1 cells)

one_count : (q : Option Token) (a : Syntax) (cells : Cells) → count_cells (one_cell q a cells) ≡ count_cells cells + 1
one_count None a cells = refl
one_count (Some t) a cells = refl

pub count_length : (cs : List Cell) → count_cells (cells_at (map plain_cell cs)) ≡ length cs
count_length [] = refl
count_length (c ∷ cs) = omega (arith, one_count (plain_cell c).0 (plain_cell c).1 (cells_at (map plain_cell cs)), count_length cs)

-- ---- questions, answered from the counters

lt_le : (n m : ℕ) → nat_lt n m ≡ nat_le (n + 1) m
lt_le n m = grind (arith, nat_tests)

le_same : (a b c d : ℕ) → (a ≤ b → c ≤ d) → (c ≤ d → a ≤ b) → nat_le a b ≡ nat_le c d
le_same a b c d f g = grind (arith, nat_tests)

pub full_of : (cells : Cells) (n first last : ℕ) (even : Bool) → even ≡ true → even ≡ are_even (first_width 1 cells) 1 cells → first_width 1 cells ≡ first + 1 → last_width 1 cells ≡ last + 1
    → last ≡ first → n ≡ count_cells cells → nat_lt n 262144 ≡ is_full cells
full_of cells n first last even h e f l s c =
    let w : nat_eq (last_width 1 cells) (first_width 1 cells) ≡ true = same_eq (last_width 1 cells) (first_width 1 cells) (omega arith) in
    lt_le n 262144 ∙ ap (λ x. nat_le (x + 1) 262144) c
    ∙ ap (λ b. b && nat_le (count_cells cells + 1) most_atoms) (sym w)
    ∙ ap (λ b. b && (nat_eq (last_width 1 cells) (first_width 1 cells) && nat_le (count_cells cells + 1) most_atoms)) (sym h ∙ e)
  where
    same_eq : (a b : ℕ) → a ≡ b → nat_eq a b ≡ true
    same_eq a b h = grind (arith, nat_tests)

le_test : (a b : ℕ) → a ≤ b → nat_le a b ≡ true
le_test a b h = grind (arith, nat_tests)

eq_test : (a b : ℕ) → a ≡ b → nat_eq a b ≡ true
eq_test a b h = grind (arith, nat_tests)

pub begun_of : (cells : Cells) (n first last k : ℕ) → first_width 1 cells ≡ first + 1 → last_width 1 cells ≡ last + 1 → last ≤ first → n ≡ count_cells cells
    → k ≡ min (n + (first - last)) 18446744073709551615 → nat_lt k 262144 ≡ are_begun cells
begun_of cells n first last k f l h c e =
    lt_le k 262144 ∙ le_same (k + 1) 262144 (count_cells cells + 1 + first_width 1 cells) (most_atoms + last_width 1 cells) (λ d. omega arith) (λ d. omega arith)
    ∙ ap (λ b. b && nat_le (count_cells cells + 1 + first_width 1 cells) (most_atoms + last_width 1 cells)) (sym (le_test (last_width 1 cells) (first_width 1 cells) (omega arith)))

pub go_of : (cells : Cells) (n first last k : ℕ) → first_width 1 cells ≡ first + 1 → last_width 1 cells ≡ last + 1 → last ≡ first → n ≡ count_cells cells
    → k ≡ min (min (n + 1) 18446744073709551615 + first) 18446744073709551615 → nat_lt k 262144 ≡ may_go_on cells
go_of cells n first last k f l h c e =
    lt_le k 262144 ∙ le_same (k + 1) 262144 (count_cells cells + 1 + first_width 1 cells) most_atoms (λ d. omega arith) (λ d. omega arith)
    ∙ ap (λ b. b && nat_le (count_cells cells + 1 + first_width 1 cells) most_atoms) (sym (eq_test (last_width 1 cells) (first_width 1 cells) (omega arith)))

-- ---- counters with one atom more

pub first_more : (cells : Cells) (a : Syntax) (single : Bool) (count first more : ℕ) → single ≡ are_single cells → first_width 1 cells ≡ first + 1 → count ≡ count_cells cells + 1
    → more ≡ (if single then count else first) → first_width 1 (with_cell cells None a) ≡ more + 1
first_more cells a true count first more s f c m = first_of_single 1 (with_cell cells None a) (single_cell cells a ∙ sym s) ∙ omega (arith, count_with cells None a)
first_more cells a false count first more s f c m = first_of_several 1 cells a (sym s) ∙ omega arith

eq_suc : (a b : ℕ) → nat_eq a b ≡ nat_eq (a + 1) (b + 1)
eq_suc a b = grind (arith, nat_tests)

pub even_more : (cells : Cells) (t : Token) (a : Syntax) (even new : Bool) (first last : ℕ) → first_width 1 cells ≡ first + 1 → last_width 1 cells ≡ last + 1
    → even ≡ are_even (first_width 1 cells) 1 cells → new ≡ (even && nat_eq last first)
    → new ≡ are_even (first_width 1 (with_cell cells (Some t) a)) 1 (with_cell cells (Some t) a)
even_more cells t a even new first last f l e n =
    n ∙ ap (λ b. b && nat_eq last first) e
    ∙ ap (λ b. are_even (first_width 1 cells) 1 cells && b) (eq_suc last first ∙ ap (λ x. nat_eq x (first + 1)) (sym l) ∙ ap (nat_eq (last_width 1 cells)) (sym f))
    ∙ sym (even_row (first_width 1 cells) 1 cells t a)
    ∙ ap (λ w. are_even w 1 (with_cell cells (Some t) a)) (sym (first_row 1 cells t a))

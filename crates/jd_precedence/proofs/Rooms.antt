-- Whether rows have room for one atom more.
use Rattle.std.proofs.Common.{ℕ, ◌≡◌, ◌≤◌, ◌<◌, ◌+◌, Bool, true, false, Some, None, nat_le, refl, sym, ◌∙◌, arith}
use Rattle.jd_grammar.specs.declared.token.Token.{Token}
use Rattle.jd_grammar.specs.Grammar.{Syntax, Cells}
use Rattle.jd_grammar.specs.Rows.{with_cell, count_cells, first_width, last_width, are_begun, most_atoms}
use Rattle.jd_grammar.proofs.RowFacts.{both, and_true, le_of, test_le, count_with, first_row, last_row, last_cell}
use Rattle.jd_tree.specs.Measures.{are_single}
use Rattle.jd_tree.proofs.Widths.{single_cell, first_of_single, last_of_single, first_of_several}

same_test : (a b : Bool) → (a ≡ true → b ≡ true) → (b ≡ true → a ≡ true) → a ≡ b
same_test true true f g = refl
same_test true false f g = sym (f refl)
same_test false true f g = g refl
same_test false false f g = refl

record IsBegun (cells : Cells) : Type 0 where
  width : last_width 1 cells ≤ first_width 1 cells
  few : count_cells cells + 1 + first_width 1 cells ≤ 262144 + last_width 1 cells

begun_gives : (cells : Cells) → are_begun cells ≡ true → IsBegun cells
begun_gives cells h =
    let p = both (nat_le (last_width 1 cells) (first_width 1 cells)) (nat_le (count_cells cells + 1 + first_width 1 cells) (most_atoms + last_width 1 cells)) h in
    record { width = le_of (last_width 1 cells) (first_width 1 cells) p.0; few = le_of (count_cells cells + 1 + first_width 1 cells) (most_atoms + last_width 1 cells) p.1 }

begun_of : (cells : Cells) → IsBegun cells → are_begun cells ≡ true
begun_of cells b = and_true (nat_le (last_width 1 cells) (first_width 1 cells)) (nat_le (count_cells cells + 1 + first_width 1 cells) (most_atoms + last_width 1 cells))
    (test_le (last_width 1 cells) (first_width 1 cells) b.width) (test_le (count_cells cells + 1 + first_width 1 cells) (most_atoms + last_width 1 cells) b.few)

-- behind a `;`
pub room_behind : (cells : Cells) (t : Token) (a : Syntax) (n f : ℕ) (r : Bool) → count_cells cells ≡ n → first_width 1 cells ≡ f + 1 → (r ≡ true → n + 1 + f < 262144) → (n + 1 + f < 262144 → r ≡ true) →
    r ≡ are_begun (with_cell cells (Some t) a)
room_behind cells t a n f r c w g h = same_test r (are_begun (with_cell cells (Some t) a))
    (λ e. let k = g e in begun_of (with_cell cells (Some t) a) (record {
      width = omega (arith, first_row 1 cells t a, last_row 1 cells t a);
      few = omega (arith, first_row 1 cells t a, last_row 1 cells t a, count_with cells (Some t) a);
    }))
    (λ e. let b = begun_gives (with_cell cells (Some t) a) e in h (omega (arith, b.few, first_row 1 cells t a, last_row 1 cells t a, count_with cells (Some t) a)))

-- in the only row
pub room_single : (cells : Cells) (a : Syntax) (n : ℕ) (r : Bool) → are_single cells ≡ true → count_cells cells ≡ n → (r ≡ true → n + 1 < 262144) → (n + 1 < 262144 → r ≡ true) → r ≡ are_begun (with_cell cells None a)
room_single cells a n r s c g h = same_test r (are_begun (with_cell cells None a))
    (λ e. let k = g e in begun_of (with_cell cells None a) (record {
      width = omega (arith, first_of_single 1 (with_cell cells None a) (single_cell cells a ∙ s), last_of_single 1 (with_cell cells None a) (single_cell cells a ∙ s));
      few = omega (arith, first_of_single 1 (with_cell cells None a) (single_cell cells a ∙ s), last_of_single 1 (with_cell cells None a) (single_cell cells a ∙ s), count_with cells None a);
    }))
    (λ e. let b = begun_gives (with_cell cells None a) e in h (omega (arith, b.few, first_of_single 1 (with_cell cells None a) (single_cell cells a ∙ s), last_of_single 1 (with_cell cells None a) (single_cell cells a ∙ s), count_with cells None a)))

-- in a later row
pub room_later : (cells : Cells) (a : Syntax) (n f l : ℕ) (r : Bool) → are_single cells ≡ false → count_cells cells ≡ n → first_width 1 cells ≡ f + 1 → last_width 1 cells ≡ l + 1 → (r ≡ true → (l < f) × (n + 1 + f ≤ 262144 + l)) →
    (l < f → n + 1 + f ≤ 262144 + l → r ≡ true) → r ≡ are_begun (with_cell cells None a)
room_later cells a n f l r s c w v g h = same_test r (are_begun (with_cell cells None a))
    (λ e. let k = g e in begun_of (with_cell cells None a) (record {
      width = omega (arith, k.0, first_of_several 1 cells a s, last_cell 1 cells a);
      few = omega (arith, k.1, first_of_several 1 cells a s, last_cell 1 cells a, count_with cells None a);
    }))
    (λ e. let b = begun_gives (with_cell cells None a) e in h (omega (arith, b.width, first_of_several 1 cells a s, last_cell 1 cells a)) (omega (arith, b.few, first_of_several 1 cells a s, last_cell 1 cells a, count_with cells None a)))

-- Values that are the numbers of a range, one by one.
use Rattle.std.proofs.Common.{◌≡◌, ◌≢◌, ℕ, zero, suc, ◌+◌, ℤ, pos, ◌+ℤ◌, Bool, true, false, ◌&&◌, List, [], ◌∷◌, length, map, refl, sym, ap, subst, ◌∙◌}
use Rattle.std.specs.List.{range_with_len}
use Rattle.std.specs.Ordering.{int_eq}
use Rattle.std.proofs.Math.IntN.{+ℤ_idr}
use Rattle.std.proofs.lemmas.Bool.Decides.{Decides-int_eq}
use Rattle.std.proofs.lemmas.Cmp.{int_eq_equiv}
use Rattle.std.proofs.lemmas.List.{length-map}
use Rattle.std.proofs.lemmas.List.FromFn.{length-map-range_with_len}
use Rattle.jd_value.specs.Span.{Ends, span_items, span_length}
use Rattle.jd_value.specs.declared.value.Value.{Value, out-Value, map-Value, fold_out-Value}
use Rattle.jd_value.specs.declared.value.Value.TheVariants.{Int}
use Rattle.jd_value.specs.declared.value.Value.TheOpen as v
use Rattle.jd_value.specs.declared.value.Value.TheOpen.{Value-F}
use Rattle.jd_expr.specs.Comparing.{is_number, each_passes, number_tests, equal, equal_at}

-- k numbers, from the one that is i behind the first on
abbrev pub numbers : ℤ → ℕ → ℕ → List ℤ
numbers first i k = map (λ n. first +ℤ pos n) (range_with_len i k)

-- for each of them the test of being it
abbrev pub tests : ℤ → ℕ → ℕ → List (Value → Bool)
tests first i k = map (λ n value. is_number n (out-Value value)) (numbers first i k)

both_false : (a b : Bool) → b ≡ false → (a && b) ≡ false
both_false true b h = h
both_false false b h = refl

-- lists of other lengths
pub other_length : (passing : List (Value → Bool)) (items : List Value) → (length passing ≢ length items) → each_passes passing items ≡ false
other_length [] [] n = absurd (n refl)
other_length [] (y ∷ ys) n = refl
other_length (x ∷ xs) [] n = refl
other_length (x ∷ xs) (y ∷ ys) n = both_false (x y) (each_passes xs ys) (other_length xs ys (λ e. n (ap suc e)))

pub length_tests : (ends : Ends) → length (number_tests ends) ≡ span_length ends
length_tests ends = length-map (span_items ends) (λ n value. is_number n (out-Value value)) ∙ length-map-range_with_len (λ n. ends.first +ℤ pos n) 0 (span_length ends)

pub length_numbers : (ends : Ends) → length (map Int (span_items ends)) ≡ span_length ends
length_numbers ends = length-map (span_items ends) Int ∙ length-map-range_with_len (λ n. ends.first +ℤ pos n) 0 (span_length ends)

number_out : (n : ℤ) → out-Value (Int n) ≡ v.Int n
unfolding out-Value denote.Hole.Carrier.out
number_out n = refl

one_number : (n m : ℤ) → is_number n (out-Value (Int m)) ≡ int_eq n m
one_number n m = ap (is_number n) (number_out m)

-- the same numbers
pub own_numbers : (first : ℤ) (i k : ℕ) → each_passes (tests first i k) (map Int (numbers first i k)) ≡ true
own_numbers first i zero = refl
own_numbers first i (suc k) =
    ap (λ b. b && each_passes (tests first (i + 1) k) (map Int (numbers first (i + 1) k))) (one_number (first +ℤ pos i) (first +ℤ pos i) ∙ int_eq_equiv.refl (first +ℤ pos i))
    ∙ own_numbers first (i + 1) k

-- other numbers from the first on
other_numbers : (first other : ℤ) (k : ℕ) → int_eq first other ≡ false → each_passes (tests first 0 (suc k)) (map Int (numbers other 0 (suc k))) ≡ false
other_numbers first other k h =
    ap (λ b. b && each_passes (tests first 1 k) (map Int (numbers other 1 k)))
    (one_number (first +ℤ pos 0) (other +ℤ pos 0) ∙ ap (λ n. int_eq n (other +ℤ pos 0)) (+ℤ_idr first) ∙ ap (int_eq first) (+ℤ_idr other) ∙ h)

as_many : (first other : ℤ) (k : ℕ) → (k ≢ 0) → int_eq first other ≡ each_passes (tests first 0 k) (map Int (numbers other 0 k))
as_many first other zero n = absurd (n refl)
as_many first other (suc k) n =
    elim (int_eq first other) as (λ b. int_eq first other ≡ b → b ≡ each_passes (tests first 0 (suc k)) (map Int (numbers other 0 (suc k)))) [
      | true ↦ λ h. let same : first ≡ other = (Decides-int_eq first other).0 h in
          subst (λ z. true ≡ each_passes (tests first 0 (suc k)) (map Int (numbers z 0 (suc k)))) same (sym (own_numbers first 0 (suc k)))
      | false ↦ λ h. sym (other_numbers first other k h)
    ] refl

-- ranges of as many numbers
pub begins_as : (a b : Ends) → span_length a ≡ span_length b → (span_length a ≢ 0) → int_eq a.first b.first ≡ each_passes (number_tests a) (map Int (span_items b))
begins_as a b e n = as_many a.first b.first (span_length a) n ∙ ap (λ k. each_passes (number_tests a) (map Int (numbers b.first 0 k))) e

-- ranges of more or fewer numbers
pub other_span : (a b : Ends) → (span_length a ≢ span_length b) → each_passes (number_tests a) (map Int (span_items b)) ≡ false
other_span a b n = other_length (number_tests a) (map Int (span_items b)) (λ e. n (sym (length_tests a) ∙ e ∙ length_numbers b))

-- whether a value is a number, asked from the other side
layer_equals : (n : ℤ) (layer : Value-F Value) → equal_at (map-Value Value (Value → Bool) equal layer) (v.Int n) ≡ is_number n layer
layer_equals n (v.Int m) = int_eq_equiv.symm m n
layer_equals n v.True = int_eq_equiv.symm (pos 1) n
layer_equals n v.False = int_eq_equiv.symm (pos 0) n
layer_equals n v.Nothing = refl
layer_equals n (v.Text text) = refl
layer_equals n (v.Range ends) = refl
layer_equals n (v.List items) = refl
layer_equals n (v.Tuple items) = refl
layer_equals n (v.Grid array) = refl
layer_equals n (v.Exception fault) = refl
layer_equals n (v.Future reference) = refl

pub equals_number : (x : Value) (n : ℤ) → equal x (Int n) ≡ is_number n (out-Value x)
equals_number x n =
    ap (λ test. test (Int n)) (fold_out-Value (Value → Bool) (λ value other. equal_at value (out-Value other)) x)
    ∙ ap (equal_at (map-Value Value (Value → Bool) equal (out-Value x))) (number_out n)
    ∙ layer_equals n (out-Value x)

pub passed_numbers : (items : List Value) (ns : List ℤ) → each_passes (map equal items) (map Int ns) ≡ each_passes (map (λ n value. is_number n (out-Value value)) ns) items
passed_numbers [] [] = refl
passed_numbers [] (n ∷ ns) = refl
passed_numbers (x ∷ xs) [] = refl
passed_numbers (x ∷ xs) (n ∷ ns) =
    ap (λ b. b && each_passes (map equal xs) (map Int ns)) (equals_number x n)
    ∙ ap (λ b. is_number n (out-Value x) && b) (passed_numbers xs ns)

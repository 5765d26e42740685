-- Folds of the numbers of a range.
use Rattle.std.proofs.Common.{◌≡◌, ℕ, suc, ◌+◌, ℤ, pos, ◌+ℤ◌, List, [], ◌∷◌, map, fold, Some, ap, ◌∙◌, arith}
use Rattle.std.specs.List.{range_with_len}
use Rattle.std.proofs.lemmas.Int.{ints}
use Rattle.std.proofs.lemmas.List.Sums.{fold-append}
use Rattle.std.proofs.lemmas.List.FromFn.{map-range_with_len_more}
use Rattle.jd_value.specs.Span.{Ends, span_length, span_items}
use Rattle.jd_array.specs.Fold.{combined, folded, identity_of}
use Rattle.jd_array.specs.declared.fold.Reducer.{Reducer}
use Rattle.jd_expr.proofs.Spanned.{numbers, shifted}

-- so many numbers behind the first
unfoldable pub numbers_after : ℤ → ℕ → List ℤ
numbers_after first n = map (λ k. first +ℤ pos (k + 1)) (range_with_len 0 n)

pub folded_none : (op : Reducer) (ends : Ends) → span_length ends ≡ 0 → folded op (span_items ends) ≡ identity_of op
folded_none op ends none = ap (λ (n : ℕ). folded op (numbers ends.first n)) none

pub folded_some : (op : Reducer) (ends : Ends) (n : ℕ) → span_length ends ≡ n + 1 → folded op (span_items ends) ≡ Some (fold (combined op) ends.first (numbers_after ends.first n))
unfolding numbers_after
folded_some op ends n some =
    let count : span_length ends ≡ suc n = omega (arith, some) in
    let front : ends.first +ℤ pos 0 ≡ ends.first = omega (arith, ints) in
    let rest : map (λ k. ends.first +ℤ pos k) (range_with_len 1 n) ≡ map (λ k. ends.first +ℤ pos (k + 1)) (range_with_len 0 n) =
    shifted (λ k. ends.first +ℤ pos k) (λ k. ends.first +ℤ pos (k + 1)) 1 0 n (λ j. ap (λ (k : ℕ). ends.first +ℤ pos k) (omega arith)) in
    ap (λ (k : ℕ). folded op (numbers ends.first k)) count
    ∙ ap (λ (z : ℤ). Some (fold (combined op) z (map (λ k. ends.first +ℤ pos k) (range_with_len 1 n)))) front
    ∙ ap (λ (xs : List ℤ). Some (fold (combined op) ends.first xs)) rest

pub folded_more : (op : Reducer) (first start : ℤ) (n : ℕ)
    → fold (combined op) start (numbers_after first (n + 1)) ≡ combined op (fold (combined op) start (numbers_after first n)) (first +ℤ pos (n + 1))
unfolding numbers_after
folded_more op first start n =
    ap (λ (xs : List ℤ). fold (combined op) start xs) (map-range_with_len_more (λ k. first +ℤ pos (k + 1)) 0 n n (omega arith))
    ∙ fold-append (combined op) start (map (λ k. first +ℤ pos (k + 1)) (range_with_len 0 n)) ((first +ℤ pos (n + 1)) ∷ [])

-- Elements of collections of numbers.
use Rattle.std.proofs.Common.{◌≡◌, ℕ, suc, ◌+◌, ◌<◌, ◌≤◌, ℤ, pos, ◌+ℤ◌, List, [], ◌∷◌, length, drop, get_or, map, refl, sym, ap, ◌∙◌, arith}
use Rattle.std.proofs.Math.Seq.{drop-cons}
use Rattle.std.proofs.lemmas.List.{get_or-map, length-map, drop_all}
use Rattle.std.proofs.lemmas.List.FromFn.{get_or-map-range_with_len, length-map-range_with_len}
use Rattle.jd_value.specs.Span.{Ends, span_items, span_length}
use Rattle.jd_value.specs.declared.value.Value.{Value}
use Rattle.jd_value.specs.declared.value.Value.TheVariants.{Int}

pub at_numbers : (xs : List ℤ) (at : ℕ) → at < length xs → drop at (map Int xs) ≡ Int (get_or xs at (pos 0)) ∷ drop (at + 1) (map Int xs)
at_numbers xs at h =
    let inside : at < length (map Int xs) = omega (arith, h, length-map xs Int) in
    let more : suc at ≡ at + 1 = omega arith in
    drop-cons (map Int xs) at (Int (pos 0)) inside
    ∙ ap (λ (v : Value). v ∷ drop (suc at) (map Int xs)) (get_or-map Int xs at (pos 0) (Int (pos 0)) h)
    ∙ ap (λ (k : ℕ). Int (get_or xs at (pos 0)) ∷ drop k (map Int xs)) more

pub behind_numbers : (xs : List ℤ) (at : ℕ) → length xs ≤ at → drop at (map Int xs) ≡ []
behind_numbers xs at h = drop_all at (map Int xs) (omega (arith, h, length-map xs Int))

pub in_span : (ends : Ends) (at : ℕ) → at < span_length ends → drop at (map Int (span_items ends)) ≡ Int (ends.first +ℤ pos at) ∷ drop (at + 1) (map Int (span_items ends))
in_span ends at h =
    at_numbers (span_items ends) at (omega (arith, h, length-map-range_with_len (λ k. ends.first +ℤ pos k) 0 (span_length ends)))
    ∙ ap (λ (n : ℤ). Int n ∷ drop (at + 1) (map Int (span_items ends))) (get_or-map-range_with_len (λ k. ends.first +ℤ pos k) 0 (span_length ends) at at (pos 0) h (omega arith))

pub behind_span : (ends : Ends) (at : ℕ) → span_length ends ≤ at → drop at (map Int (span_items ends)) ≡ []
behind_span ends at h = behind_numbers (span_items ends) at (omega (arith, h, length-map-range_with_len (λ k. ends.first +ℤ pos k) 0 (span_length ends)))

-- The numbers of a range.
use Rattle.std.proofs.Common.{ℕ, zero, suc, ◌-◌, ◌<◌, ◌≤◌, ◌≡◌, ℤ, pos, ◌+ℤ◌, ◌≤ℤ◌, length, get_or, All, refl, Bool, true, false, arith}
use Rattle.std.proofs.lemmas.Bool.{both_ways}
use Rattle.std.proofs.lemmas.Int.{ints}
use Rattle.std.proofs.lemmas.List.FromFn.{get_or-map-range_with_len, length-map-range_with_len}
use Rattle.jd_value.specs.Span.{Ends, IsSpan, span_length, span_items}

pub length-span_items : (span : Ends) → length (span_items span) ≡ span_length span
length-span_items span = length-map-range_with_len (λ n. span.first +ℤ pos n) 0 (span_length span)

pub item_at : (span : Ends) (k : ℕ) (d : ℤ) → k < span_length span → get_or (span_items span) k d ≡ span.first +ℤ pos k
item_at span k d below = get_or-map-range_with_len (λ n. span.first +ℤ pos n) 0 (span_length span) k k d below (omega arith)

-- an empty range has no number outside
pub none_outside : (P : ℤ → Type 0) (span : Ends) → span_length span ≡ 0 → All P (span_items span)
none_outside P span none = λ k d below. absurd (omega (arith, length-span_items span))

-- a range is inside where both ends are
pub inside_by_ends : (span : Ends) (size : ℕ) → IsSpan span → pos 1 ≤ℤ span.first → span.last ≤ℤ pos size → All (λ i. (pos 1 ≤ℤ i) × (i ≤ℤ pos size)) (span_items span)
inside_by_ends span size ordered from to = λ k d below.
    let inside : k < span_length span = omega (arith, length-span_items span) in
    let order = ordered.ordered in
    rw (item_at span k d inside) (omega (arith, ints), omega (arith, ints))

pub ends_inside : (span : Ends) (size : ℕ) → IsSpan span → 1 ≤ span_length span → All (λ i. (pos 1 ≤ℤ i) × (i ≤ℤ pos size)) (span_items span) →
    ((pos 1 ≤ℤ span.first) × (span.first ≤ℤ pos size)) × ((pos 1 ≤ℤ span.last) × (span.last ≤ℤ pos size))
ends_inside span size ordered some inside =
    let count = length-span_items span in
    let order = ordered.ordered in
    let front = inside 0 (pos 0) (omega arith) in
    let back = inside (span_length span - 1) (pos 0) (omega arith) in
    let at_front = item_at span 0 (pos 0) (omega arith) in
    let at_back = item_at span (span_length span - 1) (pos 0) (omega arith) in
    ((omega (arith, ints, front.0), omega (arith, ints, front.1)), (omega (arith, ints, back.0), omega (arith, ints, back.1)))

pub some_from_test : (n : ℕ) (b : Bool) → (n ≡ 0 → b ≡ true) → b ≡ false → 1 ≤ n
some_from_test zero b test failed = absurd (both_ways b failed (test refl))
some_from_test (suc n) b test failed = omega arith

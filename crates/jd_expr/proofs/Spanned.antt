-- The numbers of a range as values.
use Rattle.std.proofs.Common.{◌≡◌, ℕ, zero, suc, ◌+◌, ◌-◌, ◌<◌, ◌≤◌, ℤ, pos, ◌+ℤ◌, ◌≤ℤ◌, List, [], ◌∷◌, ◌++◌, map, take, drop, length, Some, None, Option, refl, ap, sym, ◌∙◌, arith}
use Rattle.std.specs.Prelude.{slice_get, option_map}
use Rattle.std.specs.List.{range_with_len}
use Rattle.std.proofs.lemmas.Int.{ints}
use Rattle.std.proofs.lemmas.List.{length-map, map-append}
use Rattle.std.proofs.lemmas.List.FromFn.{length-map-range_with_len, get_or-map-range_with_len, take-map-range_with_len, map-range_with_len_more}
use Rattle.std.proofs.lemmas.Option.{slice_get-map, slice_get-get_or, slice_get_past}
use Rattle.jd_value.specs.Array.{offset}
use Rattle.jd_value.specs.Span.{Ends, IsSpan, span_length, span_items}
use Rattle.jd_value.specs.declared.value.Value.{Value}
use Rattle.jd_value.specs.declared.value.Value.TheVariants.{Int}
use Rattle.jd_expr.specs.Ranges.{range_items}

-- the numbers from one on, so many
abbrev pub numbers : ℤ → ℕ → List ℤ
numbers first n = map (λ k. first +ℤ pos k) (range_with_len 0 n)

pub length_items : (ends : Ends) → length (range_items ends) ≡ span_length ends
unfolding range_items
length_items ends = length-map (span_items ends) Int ∙ length-map-range_with_len (λ k. ends.first +ℤ pos k) 0 (span_length ends)

-- one number more
pub number_more : (first : ℤ) (n : ℕ) → map Int (numbers first (n + 1)) ≡ map Int (numbers first n) ++ Int (first +ℤ pos n) ∷ []
number_more first n =
    ap (λ (xs : List ℤ). map Int xs) (map-range_with_len_more (λ k. first +ℤ pos k) 0 n n (omega arith))
    ∙ map-append Int (numbers first n) ((first +ℤ pos n) ∷ [])

-- the number at a place, from 0
pub number_in : (ends : Ends) (k : ℕ) → k < span_length ends → slice_get (range_items ends) k ≡ Some (Int (ends.first +ℤ pos k))
unfolding range_items
number_in ends k below =
    let inside : k < length (span_items ends) = omega (arith, below, length-map-range_with_len (λ j. ends.first +ℤ pos j) 0 (span_length ends)) in
    slice_get-map Int (span_items ends) k
    ∙ ap (λ (x : Option ℤ). option_map Int x) (slice_get-get_or (span_items ends) k (pos 0) inside)
    ∙ ap (λ (z : ℤ). Some (Int z)) (get_or-map-range_with_len (λ j. ends.first +ℤ pos j) 0 (span_length ends) k k (pos 0) below (omega arith))

pub none_in : (ends : Ends) (k : ℕ) → span_length ends ≤ k → slice_get (range_items ends) k ≡ None
unfolding range_items
none_in ends k past = slice_get_past (range_items ends) k (omega (arith, past, length_items ends))

drop_numbers : {X : Type 0} (f : ℕ → X) (m a n b k : ℕ) → a + m ≡ b → n ≡ m + k → drop m (map f (range_with_len a n)) ≡ map f (range_with_len b k)
drop_numbers f zero a n b k from count =
    let here : a ≡ b = omega arith in
    let all : n ≡ k = omega arith in
    ap (λ (x : ℕ). map f (range_with_len x n)) here ∙ ap (λ (x : ℕ). map f (range_with_len b x)) all
drop_numbers f (suc m) a zero b k from count = absurd (omega arith)
drop_numbers f (suc m) a (suc n) b k from count = drop_numbers f m (a + 1) n b k (omega arith) (omega arith)

pub shifted : {X : Type 0} (f g : ℕ → X) (m a k : ℕ) → ((j : ℕ) → f (m + j) ≡ g j) → map f (range_with_len (m + a) k) ≡ map g (range_with_len a k)
shifted f g m a zero same = refl
shifted f g m a (suc k) same =
    let next : m + a + 1 ≡ m + (a + 1) = omega arith in
    ap (λ x. x ∷ map f (range_with_len (m + a + 1) k)) (same a)
    ∙ ap (λ (start : ℕ). g a ∷ map f (range_with_len start k)) next
    ∙ ap (λ xs. g a ∷ xs) (shifted f g m (a + 1) k same)

drop_mapped : {A B : Type 0} (f : A → B) (m : ℕ) (xs : List A) → drop m (map f xs) ≡ map f (drop m xs)
drop_mapped f zero xs = refl
drop_mapped f (suc m) [] = refl
drop_mapped f (suc m) (x ∷ xs) = drop_mapped f m xs

take_mapped : {A B : Type 0} (f : A → B) (m : ℕ) (xs : List A) → take m (map f xs) ≡ map f (take m xs)
take_mapped f zero xs = refl
take_mapped f (suc m) [] = refl
take_mapped f (suc m) (x ∷ xs) = ap (λ ys. f x ∷ ys) (take_mapped f m xs)

-- a part of a range is a range
pub part_of_range : (ends : Ends) (m n : ℕ) (first : ℤ) → m + n ≤ span_length ends → first ≡ ends.first +ℤ pos m
    → take n (drop m (range_items ends)) ≡ map Int (numbers first n)
unfolding range_items
part_of_range ends m n first within is =
    let f : ℕ → ℤ = λ k. ends.first +ℤ pos k in
    let count : span_length ends ≡ m + (span_length ends - m) = omega (arith, within) in
    let left : n ≤ span_length ends - m = omega (arith, within) in
    let start : m ≡ m + 0 = omega arith in
    ap (λ (xs : List Value). take n xs) (drop_mapped Int m (span_items ends))
    ∙ take_mapped Int n (drop m (span_items ends))
    ∙ ap (λ (xs : List ℤ). map Int (take n xs)) (drop_numbers f m 0 (span_length ends) (m + 0) (span_length ends - m) (omega arith) count)
    ∙ ap (λ (xs : List ℤ). map Int xs)
    (take-map-range_with_len f (m + 0) (span_length ends - m) n left
    ∙ shifted f (λ k. first +ℤ pos k) m 0 n (λ j. omega (arith, ints, is)))

-- the part of a range as a range of its own
pub range_part : (part ends new : Ends) → offset part.first + span_length part ≤ span_length ends → new.first ≡ ends.first +ℤ pos (offset part.first)
    → span_length new ≡ span_length part → range_items new ≡ take (span_length part) (drop (offset part.first) (range_items ends))
unfolding range_items
range_part part ends new within first count =
    ap (λ (n : ℕ). map Int (numbers new.first n)) count
    ∙ sym (part_of_range ends (offset part.first) (span_length part) new.first within first)

pub same_count : (part new : Ends) (base : ℤ) → pos 1 ≤ℤ part.first → 1 ≤ span_length part → IsSpan part
    → new.first ≡ base +ℤ pos (offset part.first) → new.last ≡ base +ℤ pos (offset part.last) → span_length new ≡ span_length part
same_count part new base from some ordered first last = let order = ordered.ordered in omega (arith, ints)

pub empty_part : (part ends new : Ends) → span_length part ≡ 0 → span_length new ≡ 0
    → range_items new ≡ take (span_length part) (drop (offset part.first) (range_items ends))
unfolding range_items
empty_part part ends new none empty =
    ap (λ (n : ℕ). map Int (numbers new.first n)) empty
    ∙ ap (λ (n : ℕ). take n (drop (offset part.first) (range_items ends))) (sym none)

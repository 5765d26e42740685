-- The ranges of a part, in their places.
use Rattle.std.proofs.Common.{ℕ, suc, ◌-◌, ◌/◌, ◌≤◌, ◌≡◌, List, [], ◌∷◌, ◌++◌, length, take, replicate, refl, sym, subst, ap, ◌∙◌, arith}
use Rattle.std.proofs.lemmas.List.{take_all, take_at}
use Rattle.jd_value.specs.Span.{Ends}
use Rattle.jd_layout.specs.Blocks.{part_ranges}
use Rattle.jd_layout.specs.Places.{empty_range, LieIn}

pub ranges_length : (dims dist : List ℕ) (part : ℕ) → length dist ≡ length dims → length (part_ranges dims dist part) ≡ length dims
ranges_length [] dist part same = refl
ranges_length (size ∷ dims) [] part same = absurd (omega arith)
ranges_length (size ∷ dims) (pieces ∷ dist) part same = ap (λ (n : ℕ). suc n) (ranges_length dims dist (part / pieces) (omega arith))

lie_in : (ranges spans : List Ends) → 1 ≤ length ranges → length ranges ≤ 3 → spans ≡ ranges ++ replicate (3 - length ranges) empty_range → LieIn spans (length ranges)
lie_in [] spans some few e = absurd (omega (arith, some))
lie_in (a ∷ []) spans some few e = subst (λ (s : List Ends). LieIn s 1) (sym e) (record { some = some; few = few; padding = refl; counted = refl })
lie_in (a ∷ b ∷ []) spans some few e = subst (λ (s : List Ends). LieIn s 2) (sym e) (record { some = some; few = few; padding = refl; counted = refl })
lie_in (a ∷ b ∷ c ∷ []) spans some few e = subst (λ (s : List Ends). LieIn s 3) (sym e) (record { some = some; few = few; padding = refl; counted = refl })
lie_in (a ∷ b ∷ c ∷ d ∷ rest) spans some few e = absurd (omega (arith, few))

-- all ranges are in their places
pub lie_in_whole : (ranges spans : List Ends) (n i : ℕ) → length ranges ≡ n → i ≡ n → 1 ≤ n → n ≤ 3 → spans ≡ take i ranges ++ replicate (3 - i) empty_range → LieIn spans n
lie_in_whole ranges spans n i is end some few e =
    subst (λ (k : ℕ). LieIn spans k) is
    (lie_in ranges spans (omega arith) (omega arith)
    (e ∙ ap (λ (r : List Ends). r ++ replicate (3 - i) empty_range) (take_all i ranges (omega arith))
    ∙ ap (λ (k : ℕ). ranges ++ replicate (3 - k) empty_range) (omega arith)))

pub taken_whole : (ranges spans : List Ends) (n i : ℕ) → length ranges ≡ n → i ≡ n → spans ≡ take i ranges ++ replicate (3 - i) empty_range → take n spans ≡ ranges
taken_whole ranges spans n i is end e =
    ap (λ (s : List Ends). take n s) (e ∙ ap (λ (r : List Ends). r ++ replicate (3 - i) empty_range) (take_all i ranges (omega arith)))
    ∙ take_at ranges (replicate (3 - i) empty_range) n is

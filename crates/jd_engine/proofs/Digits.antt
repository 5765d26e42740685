-- Digits behind a number that is too large.
use Rattle.std.proofs.Common.{arith, ◌≡◌, ℕ, ◌+◌, ◌-◌, ◌*◌, ◌<◌, ◌≤◌, List, [], ◌∷◌, Bool, true, false, Option, Some, None, refl, ◌∙◌, sym, if◌then◌else◌}
use Rattle.std.specs.Prelude.{nat_le}
use Rattle.std.proofs.lemmas.Bool.Decides.{nat_tests}
use Rattle.jd_engine.specs.Words.{is_digit, digits_from, at_most, number_of}

-- what is too large stays so
pub too_large : (most n : ℕ) (cs : List ℕ) → most < n → at_most most (digits_from n cs) ≡ None
too_large most n [] h = grind (arith, nat_tests, h)
too_large most n (c ∷ cs) h = by_digit (is_digit c) (too_large most (n * 10 + (c - 48)) cs (omega arith))
  where
    by_digit : (b : Bool) → at_most most (digits_from (n * 10 + (c - 48)) cs) ≡ None → at_most most (if b then digits_from (n * 10 + (c - 48)) cs else None) ≡ None
    by_digit true e = e
    by_digit false e = refl

-- a number that is too large needs no more digits
pub still_too_large : (most n c : ℕ) (cs : List ℕ) → most < n → at_most most (digits_from n (c ∷ cs)) ≡ at_most most (digits_from n cs)
still_too_large most n c cs h = too_large most n (c ∷ cs) h ∙ sym (too_large most n cs h)

-- How one to three ranges lie in three places.
use Rattle.std.specs.Prelude.{ℕ, ◌≤◌, ◌≡◌, pos, List, [], ◌∷◌, ◌++◌, length, take}
use Rattle.jd_value.specs.Span.{Ends}

abbrev pub empty_range : Ends
empty_range = record { first = pos 1; last = pos 0 }

-- the places behind the ranges hold an empty range
abbrev pub padded : List Ends → List Ends
padded ranges = take 3 (ranges ++ empty_range ∷ empty_range ∷ empty_range ∷ [])

pub record LieIn (spans : List Ends) (count : ℕ) : Type 0 where
  pub some : 1 ≤ length (take count spans)
  pub few : length (take count spans) ≤ 3
  pub padding : padded (take count spans) ≡ spans
  pub counted : length (take count spans) ≡ count

-- The places of the cells that picks take, as they are walked.
use Rattle.std.specs.Prelude.{ℕ, ◌+◌, ◌*◌, ◌≤◌, ℤ, pos, ◌≤ℤ◌, List, [], ◌∷◌}
use Rattle.std.specs.List.{flat_map, range_with_len}
use Rattle.jd_value.specs.Span.{span_length}
use Rattle.jd_value.specs.Array.{offset}
use Rattle.jd_array.specs.declared.slices.Pick.{Pick}
use Rattle.jd_array.specs.declared.slices.Pick.TheVariants.{One, Many}

-- the first number that a pick takes, and how many it takes
abbrev pub pick_first : Pick → ℤ
pick_first (One i) = i
pick_first (Many span) = span.first

abbrev pub pick_length : Pick → ℕ
pick_length (One i) = 1
pick_length (Many span) = span_length span

-- a pick that takes a number at least, and numbers of the dimension alone
pub record IsWindow (size : ℕ) (pick : Pick) : Type 0 where
  pub from : pos 1 ≤ℤ pick_first pick
  pub some : 1 ≤ pick_length pick
  pub within : offset (pick_first pick) + pick_length pick ≤ size

abbrev pub AreWindows : List ℕ → List Pick → Type 0
AreWindows [] [] = Unit {0}
AreWindows (size ∷ dims) (pick ∷ picks) = IsWindow size pick × AreWindows dims picks
AreWindows _ _ = ⊥

-- the places that a pick of a dimension gives for a place of the dimensions behind it
abbrev pub places_along : ℕ → Pick → ℕ → List ℕ
places_along size pick place = range_with_len (place * size + offset (pick_first pick)) (pick_length pick)

-- the places of the picked cells, where the dimensions behind these have the places `behind`
abbrev pub places : List ℕ → List Pick → List ℕ → List ℕ
places (size ∷ dims) (pick ∷ picks) behind = flat_map (places_along size pick) (places dims picks behind)
places _ _ behind = behind

-- How the indexes of an array lie in the parts of a layout.
use Rattle.std.specs.Prelude.{ℕ, ◌+◌, ◌*◌, ◌/◌, ◌%◌, ◌<◌, ◌≤◌, ◌^◌, ◌≡◌, ◌≢◌, pos, ◌-ℤ◌, ◌≤ℤ◌, List, [], ◌∷◌, length, unsigned_abs, All, AllPairs, Contains}
use Rattle.jd_value.specs.Span.{Ends, span_length}
use Rattle.jd_value.specs.Array.{IsDims, product}
use Rattle.jd_array.specs.Cut.{piece_length, piece_start}

-- a layout: the lengths of the dimensions, how many pieces each is cut into, and the process of each part
pub record Blocks : Type 0 where
  pub dims : List ℕ
  pub dist : List ℕ
  pub procs : List ℕ

-- an index has one number for each dimension, from 1 to the length of the dimension
abbrev pub IsIndex : List ℕ → List ℕ → Type 0
IsIndex [] [] = Unit {0}
IsIndex (size ∷ dims) (i ∷ index) = (1 ≤ i) × (i ≤ size) × IsIndex dims index
IsIndex _ _ = ⊥

-- the indexes of a piece, which count from 1
abbrev pub piece_range : ℕ → ℕ → ℕ → Ends
piece_range size pieces piece =
    record { first = pos (piece_start size pieces piece + 1); last = pos (piece_start size pieces piece + piece_length size pieces piece) }

-- The ranges of a part: of each dimension the piece at the part's coordinate there. Parts are numbered from 0 and
-- column-major, so the coordinate in the first dimension runs fastest.
abbrev pub part_ranges : List ℕ → List ℕ → ℕ → List Ends
part_ranges (size ∷ dims) (pieces ∷ dist) part = piece_range size pieces (part % pieces) ∷ part_ranges dims dist (part / pieces)
part_ranges _ _ _ = []

-- each number of an index is in the range of its dimension
abbrev pub LiesIn : List Ends → List ℕ → Type 0
LiesIn [] [] = Unit {0}
LiesIn (range ∷ ranges) (i ∷ index) = (range.first ≤ℤ pos i) × (pos i ≤ℤ range.last) × LiesIn ranges index
LiesIn _ _ = ⊥

-- where the cell of an index stands among the cells in these ranges, from 0 and column-major
abbrev pub place_within : List Ends → List ℕ → ℕ
place_within (range ∷ ranges) (i ∷ index) = unsigned_abs (pos i -ℤ range.first) + span_length range * place_within ranges index
place_within _ _ = 0

-- an index lies in this part, at this place
pub record IsLocated (dims dist index : List ℕ) (part place : ℕ) : Type 0 where
  pub is_part : part < product dist
  pub held : LiesIn (part_ranges dims dist part) index
  pub at : place ≡ place_within (part_ranges dims dist part) index

-- an index of the array, with the part and the place that were found for it
pub record IsFound (blocks : Blocks) (index : List ℕ) (part place : ℕ) : Type 0 where
  pub valid : IsIndex blocks.dims index
  pub located : IsLocated blocks.dims blocks.dist index part place

-- an index of the array, with the part that was found for it
pub record IsPartOf (blocks : Blocks) (index : List ℕ) (part : ℕ) : Type 0 where
  pub valid : IsIndex blocks.dims index
  pub is_part : part < product blocks.dist
  pub held : LiesIn (part_ranges blocks.dims blocks.dist part) index

-- the lengths of an array that may be laid out
pub record IsSize (dims : List ℕ) : Type 0 where
  pub shape : IsDims dims
  pub cells : product dims ≤ 262144

-- there is a process for each part, and a part at least
pub record IsDist (dims dist procs : List ℕ) : Type 0 where
  pub lengths : length dist ≡ length dims
  pub counts : All (λ pieces. 1 ≤ pieces) dist
  pub parts : product dist ≡ length procs

-- each process is known, and none stands twice
pub record AreProcs (procs known : List ℕ) : Type 0 where
  pub all_known : All (Contains known) procs
  pub apart : AllPairs (λ p q. p ≢ q) procs

-- what holds of every layout
pub record IsLayout (blocks : Blocks) : Type 0 where
  pub size : IsSize blocks.dims
  pub dist : IsDist blocks.dims blocks.dist blocks.procs
  pub apart : AllPairs (λ p q. p ≢ q) blocks.procs
  pub few : product blocks.dist ≤ 2 ^ 32

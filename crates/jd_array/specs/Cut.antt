-- How a dimension is cut into pieces that follow one another.
use Rattle.std.specs.Prelude.{ℕ, zero, suc, ◌+◌, ◌/◌, ◌%◌, ◌<◌, ◌≤◌, ◌≡◌, nat_lt, cond}

-- how many indexes a piece holds: an even share, and one more for each of the first `size % pieces` pieces
abbrev pub piece_length : ℕ → ℕ → ℕ → ℕ
piece_length size pieces piece = size / pieces + cond (nat_lt piece (size % pieces)) 1 0

-- how many indexes lie before a piece: it starts where the pieces before it end
abbrev pub piece_start : ℕ → ℕ → ℕ → ℕ
piece_start size pieces zero = 0
piece_start size pieces (suc piece) = piece_start size pieces piece + piece_length size pieces piece

-- a piece holds an index, which counts from 0
pub record HoldsIndex (size pieces piece index : ℕ) : Type 0 where
  pub from : piece_start size pieces piece ≤ index
  pub below : index < piece_start size pieces piece + piece_length size pieces piece

-- The pieces of a cut: together they are the whole, they differ by one at most with the longer ones in front, and
-- each index lies in exactly one of them.
pub record IsCut (size pieces : ℕ) : Type 0 where
  pub whole : piece_start size pieces pieces ≡ size
  pub longer_first : (i j : ℕ) → i ≤ j → piece_length size pieces j ≤ piece_length size pieces i
  pub even : (i j : ℕ) → piece_length size pieces i ≤ piece_length size pieces j + 1
  pub held : (index : ℕ) → index < size → (piece : ℕ) × (piece < pieces) × HoldsIndex size pieces piece index
  pub once : (i j index : ℕ) → HoldsIndex size pieces i index → HoldsIndex size pieces j index → i ≡ j

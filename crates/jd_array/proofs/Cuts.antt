-- The pieces of a cut, by the share and the number of longer pieces.
use Rattle.std.proofs.Common.{ℕ, zero, suc, ◌+◌, ◌*◌, ◌/◌, ◌%◌, ◌-◌, ◌<◌, ◌≤◌, ◌≡◌, min, arith, sym, ap, ◌∙◌, inl, inr}
use Rattle.std.proofs.lemmas.Bool.Decides.{nat_tests}
use Rattle.std.proofs.lemmas.Bool.{cases_order, cases_lt}
use Rattle.std.proofs.Math.Nat.{div-add-mod, mod-lt, mul-le-mul_right, lt-div-mul-add, div-mul-le_self, add-mul}
use Rattle.std.proofs.lemmas.Nat.{div_below}
use Rattle.jd_array.specs.Cut.{piece_length, piece_start, HoldsIndex, IsCut}

-- the number of indexes before a piece, in closed form
pub start_is : (size pieces piece : ℕ) → piece_start size pieces piece ≡ piece * (size / pieces) + min piece (size % pieces)
start_is size pieces zero = omega arith
start_is size pieces (suc piece) = let before = start_is size pieces piece in grind (arith, nat_tests)

pub length_is : (size pieces piece : ℕ) → piece_length size pieces piece + min piece (size % pieces) ≡ size / pieces + min (suc piece) (size % pieces)
length_is size pieces piece = grind (arith, nat_tests)

pub whole_is : (size pieces : ℕ) → 0 < pieces → piece_start size pieces pieces ≡ size
whole_is size pieces some = omega (arith, start_is size pieces pieces, div-add-mod size pieces, mod-lt size some)

-- a later piece starts where an earlier one ends, or behind that
pub follows : (size pieces i j : ℕ) → i < j → piece_start size pieces i + piece_length size pieces i ≤ piece_start size pieces j
follows size pieces i j before =
    omega (arith, start_is size pieces i, start_is size pieces j, length_is size pieces i, mul-le-mul_right {m = suc i} {n = j} (size / pieces) (omega arith))

pub within : (size pieces piece : ℕ) → piece < pieces → piece_start size pieces piece + piece_length size pieces piece ≤ size
within size pieces piece below = omega (arith, follows size pieces piece pieces below, whole_is size pieces (omega arith))

-- an index below the end of the longer pieces lies in the piece of its quotient
pub held_by_longer : (share longer index : ℕ) → index < longer * share + longer → index / (share + 1) < longer
held_by_longer share longer index below = div_below index (share + 1) longer (omega arith) (omega arith)

-- behind the longer pieces the others share what is left, and none of them is empty
pub share_is_some : (pieces share longer index : ℕ) → index < pieces * share + longer → longer * share + longer ≤ index → 0 < share
share_is_some pieces zero longer index below behind = omega arith
share_is_some pieces (suc share) longer index below behind = omega arith

-- an index behind the longer pieces lies in the piece of its quotient there
pub held_by_shorter : (pieces share longer index : ℕ) → index < pieces * share + longer → longer < pieces → longer * share + longer ≤ index →
    longer + (index - (longer * share + longer)) / share < pieces
held_by_shorter pieces share longer index below some behind =
    let full = share_is_some pieces share longer index below behind in
    let whole : (pieces - longer) * share + longer * share ≡ pieces * share = sym (add-mul (pieces - longer) longer share) ∙ ap (λ n. n * share) (omega arith) in
    omega (arith, div_below (index - (longer * share + longer)) share (pieces - longer) full (omega arith))

pub later_piece_below : (size pieces index : ℕ) → index < size → 0 < pieces → (size % pieces) * (size / pieces) + size % pieces ≤ index →
    size % pieces + (index - ((size % pieces) * (size / pieces) + size % pieces)) / (size / pieces) < pieces
later_piece_below size pieces index below some behind =
    let whole = div-add-mod size pieces in
    held_by_shorter pieces (size / pieces) (size % pieces) index (omega arith) (mod-lt size some) behind

pub holds_longer : (size pieces index : ℕ) → index < (size % pieces) * (size / pieces) + size % pieces → HoldsIndex size pieces (index / (size / pieces + 1)) index
holds_longer size pieces index below =
    let piece = index / (size / pieces + 1) in
    let early = held_by_longer (size / pieces) (size % pieces) index below in
    let start = start_is size pieces piece in
    let size_is = length_is size pieces piece in
    let floor = div-mul-le_self index (size / pieces + 1) in
    let ceiling = lt-div-mul-add {a = index} {b = size / pieces + 1} (omega arith) in
    record { from = omega arith; below = omega arith }

pub holds_shorter : (size pieces index : ℕ) → index < size → 0 < pieces → (size % pieces) * (size / pieces) + size % pieces ≤ index →
    HoldsIndex size pieces (size % pieces + (index - ((size % pieces) * (size / pieces) + size % pieces)) / (size / pieces)) index
holds_shorter size pieces index below some behind =
    let rest = index - ((size % pieces) * (size / pieces) + size % pieces) in
    let piece = size % pieces + rest / (size / pieces) in
    let whole = div-add-mod size pieces in
    let full = share_is_some pieces (size / pieces) (size % pieces) index (omega arith) behind in
    let start = start_is size pieces piece in
    let size_is = length_is size pieces piece in
    let floor = div-mul-le_self rest (size / pieces) in
    let ceiling = lt-div-mul-add {a = rest} {b = size / pieces} full in
    record { from = omega arith; below = omega arith }

-- two pieces that hold one index are the same
pub held_once : (size pieces i j index : ℕ) → HoldsIndex size pieces i index → HoldsIndex size pieces j index → i ≡ j
held_once size pieces i j index held again = elim (cases_order i j) [
  | inl same ↦ same
  | inr apart ↦ elim apart [
    | inl before ↦ omega (arith, follows size pieces i j before, held.below, again.from)
    | inr behind ↦ omega (arith, follows size pieces j i behind, held.from, again.below)
  ]
]

-- what piece holds an index
pub some_piece_holds : (size pieces index : ℕ) → 0 < pieces → index < size → (piece : ℕ) × (piece < pieces) × HoldsIndex size pieces piece index
some_piece_holds size pieces index some below =
    let small = mod-lt size some in
    elim (cases_lt index ((size % pieces) * (size / pieces) + size % pieces)) [
      | inl early ↦ (index / (size / pieces + 1), omega (arith, held_by_longer (size / pieces) (size % pieces) index early), holds_longer size pieces index early)
      | inr late ↦ (_, later_piece_below size pieces index below some late, holds_shorter size pieces index below some late)
    ]

pub is_cut : (size pieces : ℕ) → 0 < pieces → IsCut size pieces
is_cut size pieces some = record {
  whole = whole_is size pieces some;
  longer_first = λ i j order. omega (arith, length_is size pieces i, length_is size pieces j);
  even = λ i j. omega (arith, length_is size pieces i, length_is size pieces j);
  held = λ index below. some_piece_holds size pieces index some below;
  once = held_once size pieces;
}

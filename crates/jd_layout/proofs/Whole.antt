-- Each index lies in exactly one part.
use Rattle.std.proofs.Common.{ℕ, ◌+◌, ◌-◌, ◌*◌, ◌/◌, ◌%◌, ◌<◌, ◌≤◌, ◌≡◌, pos, ◌≤ℤ◌, List, [], ◌∷◌, length, All, refl, sym, ap, ◌∙◌, arith}
use Rattle.std.proofs.Math.Nat.{mod-lt, div-add-mod}
use Rattle.std.proofs.lemmas.Int.{ints}
use Rattle.std.proofs.lemmas.Nat.{div_below}
use Rattle.std.proofs.lemmas.List.Elements.{All-head, All-tail}
use Rattle.jd_value.specs.Array.{product}
use Rattle.jd_array.specs.Cut.{piece_length, piece_start, HoldsIndex}
use Rattle.jd_array.proofs.Cuts.{is_cut, within}
use Rattle.jd_layout.specs.Blocks.{IsIndex, LiesIn, IsLocated, part_ranges, piece_range}
use Rattle.jd_layout.specs.Partition.{IsPartition}
use Rattle.jd_layout.proofs.Located.{located_more}

-- where an index lies
pub some_located : (dims dist index : List ℕ) → length dist ≡ length dims → All (λ n. 1 ≤ n) dist → IsIndex dims index → (part : ℕ) × (place : ℕ) × IsLocated dims dist index part place
some_located [] [] [] same counts valid = (0, 0, record { is_part = omega arith; held = tt; at = refl })
some_located [] [] (i ∷ index) same counts valid = absurd valid
some_located [] (k ∷ dist) index same counts valid = absurd (omega arith)
some_located (d ∷ dims) [] index same counts valid = absurd (omega arith)
some_located (d ∷ dims) (k ∷ dist) [] same counts valid = absurd valid
some_located (d ∷ dims) (k ∷ dist) (i ∷ index) same counts valid =
    let some = All-head (λ n. 1 ≤ n) k dist counts in
    let found = (is_cut d k (omega arith)).held (i - 1) (omega arith) in
    let rest = some_located dims dist index (omega arith) (All-tail (λ n. 1 ≤ n) k dist counts) valid.2 in
    let from = found.2.from in
    let below = found.2.below in (
      rest.0 * k + found.0,
      rest.1 * piece_length d k found.0 + (i - 1 - piece_start d k found.0),
      located_more d k i dims dist index found.0 (i - 1 - piece_start d k found.0) rest.0 rest.1 found.1 (omega arith) (omega arith) rest.2,
    )

-- a number in the range of a piece is held by the piece
lies_holds : (size pieces piece i : ℕ) → (piece_range size pieces piece).first ≤ℤ pos i → pos i ≤ℤ (piece_range size pieces piece).last → HoldsIndex size pieces piece (i - 1)
lies_holds size pieces piece i from to = record { from = omega (arith, ints); below = omega (arith, ints) }

part_above : (part pieces parts : ℕ) → 1 ≤ pieces → part < pieces * parts → part / pieces < parts
part_above part pieces parts some below = div_below part pieces parts (omega arith) (omega arith)

pub lies_once : (dims dist index : List ℕ) (p q : ℕ) → length dist ≡ length dims → All (λ n. 1 ≤ n) dist → p < product dist → q < product dist →
    LiesIn (part_ranges dims dist p) index → LiesIn (part_ranges dims dist q) index → p ≡ q
lies_once [] [] index p q same counts in_p in_q held again = omega arith
lies_once [] (k ∷ dist) index p q same counts in_p in_q held again = absurd (omega arith)
lies_once (d ∷ dims) [] index p q same counts in_p in_q held again = absurd (omega arith)
lies_once (d ∷ dims) (k ∷ dist) [] p q same counts in_p in_q held again = absurd held
lies_once (d ∷ dims) (k ∷ dist) (i ∷ index) p q same counts in_p in_q held again =
    let some = All-head (λ n. 1 ≤ n) k dist counts in
    let piece : p % k ≡ q % k = (is_cut d k (omega arith)).once (p % k) (q % k) (i - 1) (lies_holds d k (p % k) i held.0 held.1) (lies_holds d k (q % k) i again.0 again.1) in
    let rest : p / k ≡ q / k = lies_once dims dist index (p / k) (q / k) (omega arith) (All-tail (λ n. 1 ≤ n) k dist counts)
    (part_above p k (product dist) some in_p) (part_above q k (product dist) some in_q) held.2 again.2 in
    sym (div-add-mod p k) ∙ ap (λ (n : ℕ). k * n + p % k) rest ∙ ap (λ (n : ℕ). k * (q / k) + n) piece ∙ div-add-mod q k

pub lies_within : (dims dist index : List ℕ) (p : ℕ) → length dist ≡ length dims → All (λ n. 1 ≤ n) dist → p < product dist → LiesIn (part_ranges dims dist p) index → IsIndex dims index
lies_within [] [] [] p same counts below held = tt
lies_within [] [] (i ∷ index) p same counts below held = absurd held
lies_within [] (k ∷ dist) index p same counts below held = absurd (omega arith)
lies_within (d ∷ dims) [] index p same counts below held = absurd (omega arith)
lies_within (d ∷ dims) (k ∷ dist) [] p same counts below held = absurd held
lies_within (d ∷ dims) (k ∷ dist) (i ∷ index) p same counts below held =
    let some = All-head (λ n. 1 ≤ n) k dist counts in
    let inside = within d k (p % k) (mod-lt p (omega arith)) in
    let from = held.0 in
    let to = held.1 in (
      omega (arith, ints),
      omega (arith, ints),
      lies_within dims dist index (p / k) (omega arith) (All-tail (λ n. 1 ≤ n) k dist counts) (part_above p k (product dist) some below) held.2,
    )

pub is_partition : (dims dist : List ℕ) → length dist ≡ length dims → All (λ n. 1 ≤ n) dist → IsPartition dims dist
is_partition dims dist same counts = record {
  held = λ index valid. let found = some_located dims dist index same counts valid in (found.0, found.2.is_part, found.2.held);
  once = λ index p q. lies_once dims dist index p q same counts;
  within = λ index p. lies_within dims dist index p same counts;
}

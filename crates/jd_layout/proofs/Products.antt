-- The number of parts, one count after the other.
use Rattle.std.proofs.Common.{ℕ, ◌+◌, ◌*◌, ◌<◌, ◌≤◌, ◌≡◌, ◌^◌, List, length, drop, get_or, sym, ap, ◌∙◌, arith}
use Rattle.std.proofs.lemmas.List.{drop_more}
use Rattle.std.proofs.lemmas.Nat.{mul-le, pow-add}
use Rattle.std.proofs.Math.Nat.{mul_assoc, pow-le-pow_right}
use Rattle.jd_value.specs.Array.{product}

pub left_more : (dist : List ℕ) (k parts : ℕ) → k < length dist → parts * product (drop k dist) ≡ product dist → parts * get_or dist k 0 * product (drop (k + 1) dist) ≡ product dist
left_more dist k parts below left =
    mul_assoc parts (get_or dist k 0) (product (drop (k + 1) dist)) ∙ ap (λ (ps : List ℕ). parts * product ps) (sym (drop_more dist k 0 below)) ∙ left

pub fits_more : (w k parts pieces : ℕ) → parts ≤ 2 ^ (w * k) → pieces ≤ 2 ^ w → parts * pieces ≤ 2 ^ (w * (k + 1))
fits_more w k parts pieces fits small =
    let power : 2 ^ (w * (k + 1)) ≡ 2 ^ (w * k) * 2 ^ w = ap (λ (n : ℕ). 2 ^ n) (omega arith) ∙ pow-add 2 (w * k) w in
    omega (arith, power, mul-le parts pieces (2 ^ (w * k)) (2 ^ w) fits small)

-- three dimensions have few cells
pub few_cells : (k cells : ℕ) → k ≤ 3 → cells ≤ 2 ^ (18 * k) → cells < 2 ^ 64
few_cells k cells few fits = omega (arith, pow-le-pow_right {n = 2} (omega arith) {i = 18 * k} {j = 54} (omega arith))

-- Indexes of an array.
use Rattle.std.proofs.Common.{ℕ, zero, suc, ◌+◌, ◌<◌, ◌≤◌, ◌≡◌, ◌≢◌, List, [], ◌∷◌, length, drop, get_or, refl, subst, ap, arith}
use Rattle.std.proofs.Math.Nat.{mul-le-mul_right}
use Rattle.std.proofs.lemmas.List.{drop_more}
use Rattle.jd_value.specs.Array.{product}
use Rattle.jd_layout.specs.Blocks.{IsIndex}

pub index_length : (dims index : List ℕ) → IsIndex dims index → length dims ≡ length index
index_length [] [] valid = refl
index_length (size ∷ dims) (i ∷ index) valid = ap (λ (n : ℕ). suc n) (index_length dims index valid.2)
index_length [] (i ∷ index) valid = absurd valid
index_length (size ∷ dims) [] valid = absurd valid

pub other_length : (dims index : List ℕ) → length dims ≢ length index → IsIndex dims index → ⊥
other_length dims index other valid = other (index_length dims index valid)

pub index_drop : (dims index : List ℕ) (k : ℕ) → IsIndex dims index → IsIndex (drop k dims) (drop k index)
index_drop dims index zero valid = valid
index_drop [] [] (suc k) valid = valid
index_drop (size ∷ dims) (i ∷ index) (suc k) valid = index_drop dims index k valid.2
index_drop [] (i ∷ index) (suc k) valid = absurd valid
index_drop (size ∷ dims) [] (suc k) valid = absurd valid

-- the numbers at an axis, and behind it
pub index_more : (dims index : List ℕ) (k : ℕ) → k < length dims → k < length index → IsIndex (drop k dims) (drop k index) →
    IsIndex (get_or dims k 0 ∷ drop (k + 1) dims) (get_or index k 0 ∷ drop (k + 1) index)
index_more dims index k below short valid =
    subst (λ (t : List ℕ). IsIndex (get_or dims k 0 ∷ drop (k + 1) dims) t) (drop_more index k 0 short)
    (subst (λ (d : List ℕ). IsIndex d (drop k index)) (drop_more dims k 0 below) valid)

pub index_at : (dims index : List ℕ) (k : ℕ) → k < length dims → IsIndex dims index → (1 ≤ get_or index k 0) × (get_or index k 0 ≤ get_or dims k 0)
index_at dims index k below valid =
    let here = index_more dims index k below (omega (arith, index_length dims index valid)) (index_drop dims index k valid) in
    (here.0, here.1)

-- an array with an index has one at least behind each axis
pub product_drop : (dims index : List ℕ) (k : ℕ) → IsIndex dims index → product (drop k dims) ≤ product dims
product_drop dims index zero valid = omega arith
product_drop [] [] (suc k) valid = omega arith
product_drop (size ∷ dims) (i ∷ index) (suc k) valid =
    omega (arith, product_drop dims index k valid.2, mul-le-mul_right {m = 1} {n = size} (product dims) (omega arith))
product_drop [] (i ∷ index) (suc k) valid = absurd valid
product_drop (size ∷ dims) [] (suc k) valid = absurd valid

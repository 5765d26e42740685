-- The seven operations, in any order and grouping.
use Rattle.std.proofs.Common.{ℕ, zero, suc, ◌<◌, ◌^◌, ◌≡◌, max, ℤ, pos, negsuc, neg_ℤ, ◌+ℤ◌, ◌*ℤ◌, sym, ap, ◌∙◌, bit_and, bit_or, FitsSigned, arith}
use Rattle.std.specs.Int.{w64, int_wrap, cast_signed, cast_unsigned}
use Rattle.std.specs.Prelude.{bit_xor}
use Rattle.std.specs.Int.Bits.{xor_assoc}
use Rattle.std.proofs.Math.IntN.{+ℤ_comm, +ℤ_assoc, *ℤ_comm, *ℤ-zero, *ℤ-negsuc, neg_ℤ-neg_ℤ}
use Rattle.std.proofs.Math.Nat.{mul_assoc}
use Rattle.std.specs.Int.{bit_at}
use Rattle.std.proofs.lemmas.Nat.Bits.{bit_at_or, same_from_bits}
use Rattle.std.proofs.lemmas.Int.{ints, clamps, of_z-to_z, int_wrap_fits, SFits-int_wrap, int_wrap-add_left, int_wrap-add_right, int_wrap-mul_left, int_wrap-mul_right}
use Rattle.std.proofs.lemmas.Nat.{and_comm, or_comm, xor_comm, and_assoc, and_le_l, or_lt, xor_lt}
use Rattle.jd_array.specs.declared.fold.Reducer.{Reducer}
use Rattle.jd_array.specs.declared.fold.Reducer.TheVariants.{Add, Mul, Min, Max, And, Or, Xor}
use Rattle.jd_array.specs.Fold.{combined, IsCommutative}

-- the bits of a number, and an operation on the bits of two
bits_of : ℤ → ℕ
bits_of a = cast_unsigned w64 (int_wrap w64 a)

on_bits : (ℕ → ℕ → ℕ) → ℤ → ℤ → ℤ
unfolding bits_of
on_bits g a b = cast_signed w64 (g (bits_of a) (bits_of b))

bits_below : (a : ℤ) → bits_of a < 2 ^ 64
unfolding bits_of
bits_below a = let fits = SFits-int_wrap w64 a in omega (arith, ints)

-- the bits of a number of 64 bits
bits_of_signed : (n : ℕ) → n < 2 ^ 64 → bits_of (cast_signed w64 n) ≡ n
unfolding bits_of
bits_of_signed n below =
    let fits : FitsSigned w64 (cast_signed w64 n) = omega (arith, ints) in
    ap (λ (z : ℤ). cast_unsigned w64 z) (int_wrap_fits w64 (cast_signed w64 n) fits) ∙ of_z-to_z w64 n below

-- an operation that keeps to 64 bits is as commutative on numbers as it is on bits
on_bits_commutes : (g : ℕ → ℕ → ℕ) → ((x y : ℕ) → x < 2 ^ 64 → y < 2 ^ 64 → g x y < 2 ^ 64) → ((x y : ℕ) → g x y ≡ g y x) → ((x y z : ℕ) → g (g x y) z ≡ g x (g y z)) →
    IsCommutative (on_bits g)
unfolding on_bits
on_bits_commutes g keeps swapped grouped = record {
  swapped = λ a b. ap (λ (n : ℕ). cast_signed w64 n) (swapped (bits_of a) (bits_of b));
  grouped = λ a b c. ap (λ (n : ℕ). cast_signed w64 n)
      (ap (λ (n : ℕ). g n (bits_of c)) (bits_of_signed (g (bits_of a) (bits_of b)) (keeps _ _ (bits_below a) (bits_below b)))
      ∙ grouped (bits_of a) (bits_of b) (bits_of c)
      ∙ ap (λ (n : ℕ). g (bits_of a) n) (sym (bits_of_signed (g (bits_of b) (bits_of c)) (keeps _ _ (bits_below b) (bits_below c)))));
}

max_assoc : (x y z : ℕ) → max (max x y) z ≡ max x (max y z)
max_assoc x y z = omega arith

or_assoc : (a b c : ℕ) → bit_or (bit_or a b) c ≡ bit_or a (bit_or b c)
or_assoc a b c = same_from_bits _ _ (λ i.
    bit_at_or (bit_or a b) c i ∙ ap (λ (x : ℕ). max x (bit_at c i)) (bit_at_or a b i) ∙ max_assoc (bit_at a i) (bit_at b i) (bit_at c i)
    ∙ sym (bit_at_or a (bit_or b c) i ∙ ap (λ (x : ℕ). max (bit_at a i) x) (bit_at_or b c i)))

times_negative : (m : ℤ) (n : ℕ) → m *ℤ neg_ℤ (pos n) ≡ neg_ℤ (m *ℤ pos n)
times_negative m zero = *ℤ-zero m ∙ sym (ap neg_ℤ (*ℤ-zero m))
times_negative m (suc n) = *ℤ-negsuc m n

times_neg : (m k : ℤ) → m *ℤ neg_ℤ k ≡ neg_ℤ (m *ℤ k)
times_neg m (pos n) = times_negative m n
times_neg m (negsuc n) = sym (neg_ℤ-neg_ℤ (m *ℤ pos (suc n))) ∙ ap neg_ℤ (sym (*ℤ-negsuc m n))

neg_times : (m k : ℤ) → neg_ℤ m *ℤ k ≡ neg_ℤ (m *ℤ k)
neg_times m k = *ℤ_comm (neg_ℤ m) k ∙ times_neg k m ∙ ap neg_ℤ (*ℤ_comm k m)

assoc_first : (a : ℤ) (b c : ℕ) → (a *ℤ pos b) *ℤ pos c ≡ a *ℤ (pos b *ℤ pos c)
assoc_first (pos a) b c = ap pos (mul_assoc a b c)
assoc_first (negsuc a) b c =
    ap (λ (z : ℤ). z *ℤ pos c) (neg_times (pos (suc a)) (pos b)) ∙ neg_times (pos (suc a) *ℤ pos b) (pos c)
    ∙ ap (λ (n : ℕ). neg_ℤ (pos n)) (mul_assoc (suc a) b c) ∙ sym (neg_times (pos (suc a)) (pos b *ℤ pos c))

assoc_second : (a b : ℤ) (c : ℕ) → (a *ℤ b) *ℤ pos c ≡ a *ℤ (b *ℤ pos c)
assoc_second a (pos b) c = assoc_first a b c
assoc_second a (negsuc b) c =
    ap (λ (z : ℤ). z *ℤ pos c) (times_neg a (pos (suc b))) ∙ neg_times (a *ℤ pos (suc b)) (pos c) ∙ ap neg_ℤ (assoc_first a (suc b) c)
    ∙ sym (times_neg a (pos (suc b) *ℤ pos c)) ∙ ap (λ (z : ℤ). a *ℤ z) (sym (neg_times (pos (suc b)) (pos c)))

mul_assoc_ℤ : (a b c : ℤ) → (a *ℤ b) *ℤ c ≡ a *ℤ (b *ℤ c)
mul_assoc_ℤ a b (pos c) = assoc_second a b c
mul_assoc_ℤ a b (negsuc c) =
    times_neg (a *ℤ b) (pos (suc c)) ∙ ap neg_ℤ (assoc_second a b (suc c)) ∙ sym (times_neg a (b *ℤ pos (suc c)))
    ∙ ap (λ (z : ℤ). a *ℤ z) (sym (times_neg b (pos (suc c))))

add_commutes : IsCommutative (combined Add)
add_commutes = record {
  swapped = λ a b. ap (λ (z : ℤ). int_wrap w64 z) (+ℤ_comm a b);
  grouped = λ a b c. int_wrap-add_left w64 (a +ℤ b) c ∙ ap (λ (z : ℤ). int_wrap w64 z) (+ℤ_assoc a b c) ∙ sym (int_wrap-add_right w64 a (b +ℤ c));
}

mul_commutes : IsCommutative (combined Mul)
mul_commutes = record {
  swapped = λ a b. ap (λ (z : ℤ). int_wrap w64 z) (*ℤ_comm a b);
  grouped = λ a b c. int_wrap-mul_left w64 (a *ℤ b) c ∙ ap (λ (z : ℤ). int_wrap w64 z) (mul_assoc_ℤ a b c) ∙ sym (int_wrap-mul_right w64 a (b *ℤ c));
}

min_commutes : IsCommutative (combined Min)
min_commutes = record {
  swapped = λ a b. omega (arith, ints, clamps);
  grouped = λ a b c. omega (arith, ints, clamps);
}

max_commutes : IsCommutative (combined Max)
max_commutes = record {
  swapped = λ a b. omega (arith, ints, clamps);
  grouped = λ a b c. omega (arith, ints, clamps);
}

pub commutes : (op : Reducer) → IsCommutative (combined op)
unfolding on_bits bits_of
commutes Add = add_commutes
commutes Mul = mul_commutes
commutes Min = min_commutes
commutes Max = max_commutes
commutes And = on_bits_commutes bit_and (λ x y below _. omega (arith, and_le_l x y)) and_comm (λ x y z. and_assoc z x y)
commutes Or = on_bits_commutes bit_or (λ x y below too. or_lt 64 x y below too) or_comm or_assoc
commutes Xor = on_bits_commutes bit_xor (λ x y below too. xor_lt 64 x y below too) xor_comm xor_assoc

-- Builtin functions of whole numbers of 64 bits and of truth values, and equality.
use Rattle.std.specs.Prelude.{ℤ, pos, negsuc, ◌+ℤ◌, Bool, true, false, not, ◌&&◌, ◌||◌, List, [], ◌∷◌, Result, Ok, Err, if◌then◌else◌, int_lt, int_le, int_div, int_rem}
use Rattle.std.specs.Int.{w64, int_wrapping_add, int_wrapping_sub, int_wrapping_mul, int_wrapping_neg, int_bit_and, int_bit_or, int_bit_xor, int_bit_not, int_min, int_max}
use Rattle.std.specs.Ordering.{int_eq}
use Rattle.std.proofs.Math.Bool.{beq}
use Rattle.jd_value.specs.declared.value.Value.{Value}
use Rattle.jd_value.specs.declared.value.Value.TheVariants.{Int, True, False}
use Rattle.jd_value.specs.declared.fault.Fault.{Fault}
use Rattle.jd_value.specs.declared.fault.Fault.TheVariants.{Divide, BadType}
use Rattle.jd_value.specs.declared.builtin.Builtin.{Builtin}
use Rattle.jd_value.specs.declared.builtin.Builtin.TheVariants as b
use Rattle.jd_expr.specs.Comparing.{equal}

abbrev pub least : ℤ
least = negsuc 9223372036854775807

-- The remainder with the sign of the dividend; that of the least number by -1 is 0.
abbrev pub remainder_of : ℤ → ℤ → ℤ
remainder_of a b = if int_eq b (negsuc 0) then pos 0 else int_rem a b

-- The remainder with the sign of the divisor.
abbrev pub modulo_of : ℤ → ℤ → ℤ
modulo_of a b = let r = remainder_of a b in
    if int_eq r (pos 0) || beq (int_lt r (pos 0)) (int_lt b (pos 0)) then r else r +ℤ b

-- The quotient of the least number by -1 is beyond the greatest.
abbrev pub has_no_quotient : ℤ → ℤ → Bool
has_no_quotient a b = int_eq b (pos 0) || (int_eq a least && int_eq b (negsuc 0))

-- The distance from 0; that of the least number wraps.
abbrev pub absolute : ℤ → ℤ
absolute a = if int_lt a (pos 0) then int_wrapping_neg w64 a else a

abbrev pub is_even : ℤ → Bool
is_even a = int_eq (int_rem a (pos 2)) (pos 0)

-- A truth value.
abbrev pub truth : Bool → Value
truth true = True
truth false = False

-- What `÷`, `%` and `mod` give: no quotient by 0, and none beyond the greatest number.
abbrev pub divided : ℤ → ℤ → Result Value Fault
divided x y = if has_no_quotient x y then Err Divide else Ok (Int (int_div x y))

abbrev pub remaining : ℤ → ℤ → Result Value Fault
remaining x y = if int_eq y (pos 0) then Err Divide else Ok (Int (remainder_of x y))

abbrev pub reduced : ℤ → ℤ → Result Value Fault
reduced x y = if int_eq y (pos 0) then Err Divide else Ok (Int (modulo_of x y))

abbrev pub of_number : Builtin → ℤ → Result Value Fault
of_number b.Add a = Ok (Int a)
of_number b.Negate a = Ok (Int (int_wrapping_neg w64 a))
of_number b.Complement a = Ok (Int (int_bit_not w64 a))
of_number b.Abs a = Ok (Int (absolute a))
of_number b.IsEven a = Ok (truth (is_even a))
of_number b.IsOdd a = Ok (truth (not (is_even a)))
of_number _ a = Err BadType

abbrev pub of_numbers : Builtin → ℤ → ℤ → Result Value Fault
of_numbers b.Add x y = Ok (Int (int_wrapping_add w64 x y))
of_numbers b.Subtract x y = Ok (Int (int_wrapping_sub w64 x y))
of_numbers b.Multiply x y = Ok (Int (int_wrapping_mul w64 x y))
of_numbers b.Divide x y = divided x y
of_numbers b.Remainder x y = remaining x y
of_numbers b.Modulo x y = reduced x y
of_numbers b.And x y = Ok (Int (int_bit_and w64 x y))
of_numbers b.Or x y = Ok (Int (int_bit_or w64 x y))
of_numbers b.Xor x y = Ok (Int (int_bit_xor w64 x y))
of_numbers b.Less x y = Ok (truth (int_lt x y))
of_numbers b.AtMost x y = Ok (truth (int_le x y))
of_numbers b.Greater x y = Ok (truth (int_lt y x))
of_numbers b.AtLeast x y = Ok (truth (int_le y x))
of_numbers b.Min x y = Ok (Int (int_min x y))
of_numbers b.Max x y = Ok (Int (int_max x y))
of_numbers _ x y = Err BadType

abbrev pub of_truth : Builtin → Bool → Result Value Fault
of_truth b.Not p = Ok (truth (not p))
of_truth _ p = Err BadType

abbrev pub of_truths : Builtin → Bool → Bool → Result Value Fault
of_truths b.And p q = Ok (truth (p && q))
of_truths b.Or p q = Ok (truth (p || q))
of_truths b.Xor p q = Ok (truth (not (beq p q)))
of_truths _ p q = Err BadType

-- One number or truth value.
abbrev pub of_one : Builtin → Value → Result Value Fault
of_one f (Int a) = of_number f a
of_one f True = of_truth f true
of_one f False = of_truth f false
of_one f _ = Err BadType

-- Two numbers, or two truth values.
abbrev pub of_two : Builtin → Value → Value → Result Value Fault
of_two f (Int x) (Int y) = of_numbers f x y
of_two f True True = of_truths f true true
of_two f True False = of_truths f true false
of_two f False True = of_truths f false true
of_two f False False = of_truths f false false
of_two f _ _ = Err BadType

-- Equality takes two values of any kind.
abbrev pub of_pair : Builtin → Value → Value → Result Value Fault
of_pair b.Equal x y = Ok (truth (equal x y))
of_pair b.NotEqual x y = Ok (truth (not (equal x y)))
of_pair f x y = of_two f x y

abbrev pub plain : Builtin → List Value → Result Value Fault
plain f (x ∷ []) = of_one f x
plain f (x ∷ y ∷ []) = of_pair f x y
plain f _ = Err BadType

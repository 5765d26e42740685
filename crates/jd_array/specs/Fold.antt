-- Folds of cells by the seven reducing operations.
use Rattle.std.specs.Prelude.{◌≡◌, ℤ, pos, ◌+ℤ◌, ◌*ℤ◌, List, [], ◌∷◌, fold, Option, Some, None}
use Rattle.std.specs.Int.{w64, int_wrap, int_min, int_max, int_bit_and, int_bit_or, int_bit_xor}
use Rattle.jd_array.specs.declared.fold.Reducer.{Reducer}
use Rattle.jd_array.specs.declared.fold.Reducer.TheVariants.{Add, Mul, Min, Max, And, Or, Xor}

-- What an operation makes of two cells. A sum and a product keep the lower 64 bits, and the last three work on the 64
-- bits of each cell.
abbrev pub combined : Reducer → ℤ → ℤ → ℤ
combined Add a b = int_wrap w64 (a +ℤ b)
combined Mul a b = int_wrap w64 (a *ℤ b)
combined Min a b = int_min a b
combined Max a b = int_max a b
combined And a b = int_bit_and w64 (int_wrap w64 a) (int_wrap w64 b)
combined Or a b = int_bit_or w64 (int_wrap w64 a) (int_wrap w64 b)
combined Xor a b = int_bit_xor w64 (int_wrap w64 a) (int_wrap w64 b)

-- what it makes of no cells
abbrev pub identity_of : Reducer → Option ℤ
identity_of Add = Some (pos 0)
identity_of Mul = Some (pos 1)
identity_of _ = None

-- the cells from the first one on, each combined with what is made of those before it
abbrev pub reduced : (ℤ → ℤ → ℤ) → List ℤ → Option ℤ
reduced f [] = None
reduced f (x ∷ xs) = Some (fold f x xs)

abbrev pub folded : Reducer → List ℤ → Option ℤ
folded op [] = identity_of op
folded op (x ∷ xs) = reduced (combined op) (x ∷ xs)

-- an operation for which neither the order nor the grouping of what it combines matters
pub record IsCommutative (f : ℤ → ℤ → ℤ) : Type 0 where
  pub swapped : (a b : ℤ) → f a b ≡ f b a
  pub grouped : (a b c : ℤ) → f (f a b) c ≡ f a (f b c)

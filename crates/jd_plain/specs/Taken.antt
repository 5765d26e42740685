-- Marks that aren't taken.
use Rattle.std.specs.Prelude.{ℕ, Result, Ok, Err}
use Rattle.jd_model.specs.declared.mark.Effect.{Effect}
use Rattle.jd_model.specs.declared.mark.Effect.TheVariants.{Ran, Started, Took, Returned, Local, Printed}
use Rattle.jd_plain.specs.declared.not_taken.NotTaken.{NotTaken}
use Rattle.jd_plain.specs.declared.not_taken.NotTaken.TheVariants.{NotLegal, OutOfMemory}

-- The row of the table of marks that an effect has.
abbrev pub row_of : Effect → ℕ
row_of (Ran t) = 1
row_of (Started t) = 2
row_of (Took a) = 3
row_of (Returned t) = 4
row_of (Local t) = 5
row_of Printed = 13

-- The fact holds of the row that is named, where a mark wasn't legal.
abbrev pub IfNotLegal : Result (Unit {0}) NotTaken → (ℕ → Type 0) → Type 0
IfNotLegal (Err (NotLegal clause)) P = P clause
IfNotLegal _ P = Unit {0}

-- Actions over a state: they give a value or a fault, and leave a state.
use Rattle.std.specs.Prelude.{◌≡◌, ℕ, ◌-◌, ◌==◌, nat_lt, if◌then◌else◌, Result, Ok, Err}
use Rattle.jd_value.specs.declared.fault.Fault.{Fault}
use Rattle.jd_value.specs.declared.fault.Fault.TheVariants as fault
use Rattle.jd_expr.specs.declared.stop.Stop.{Stop}
use Rattle.jd_expr.specs.declared.stop.Stop.TheVariants.{Faulted, OutOfMemory}

-- What an action gave, and the state that it left.
pub data Ran (S A : Type 0) : Type 0 where
  Done : A → S → Ran S A
  Failed : Fault → S → Ran S A

abbrev pub Action : Type 0 → Type 0 → Type 0
Action S A = S → Ran S A

abbrev pub and_then : {S A B : Type 0} → Ran S A → (A → Action S B) → Ran S B
and_then (Done a s) f = f a s
and_then (Failed e s) f = Failed e s

-- First p, then, where it gave a value, what f makes of that.
infixl 10 ◌>>=◌
abbrev pub ◌>>=◌ : {S A B : Type 0} → Action S A → (A → Action S B) → Action S B
p >>= f = λ s. and_then (p s) f

infixl 10 ◌>>◌
abbrev pub ◌>>◌ : {S A B : Type 0} → Action S A → Action S B → Action S B
p >> q = p >>= (λ _. q)

abbrev pub pure : {S A : Type 0} → A → Action S A
pure a = λ s. Done a s

abbrev pub fail : {S A : Type 0} → Fault → Action S A
fail e = λ s. Failed e s

abbrev pub lift_to : {S A : Type 0} → S → Result A Fault → Ran S A
lift_to s (Ok a) = Done a s
lift_to s (Err e) = Failed e s

abbrev pub lift : {S A : Type 0} → Result A Fault → Action S A
lift r = λ s. lift_to s r

-- One unit is spent. Where none is left, that is the fault of the step.
abbrev pub unit : Action ℕ (Unit {0})
unit = λ n. if n == 0 then Failed fault.Budget n else Done tt (n - 1)

-- So many units are spent at once. Where fewer are left, they are gone, and that is the fault of the step.
abbrev pub units : ℕ → Action ℕ (Unit {0})
units k = λ n. if nat_lt n k then Failed fault.Budget 0 else Done tt (n - k)

-- A function's answer, with the state that it left, is what the action gives, unless memory ran out.
abbrev pub Gives : {S A : Type 0} → Ran S A → Result A Stop → S → Type 0
Gives ran (Ok a) s = ran ≡ Done a s
Gives ran (Err (Faulted e)) s = ran ≡ Failed e s
Gives ran (Err OutOfMemory) s = Unit {0}

-- Steps, which number variables and bodies and write statements, or find that the program can't run the script.
use Rattle.std.specs.Prelude.{◌≡◌, ℕ, ◌+◌, List, [], ◌∷◌, ◌++◌, Option, Some, None, Result, Ok, Err, decimal}
use Rattle.jd_value.specs.declared.tree.Stmt.{Stmt}
use Rattle.jd_lower.specs.declared.draft.Draft.{Draft}
use Rattle.jd_lower.specs.declared.fault.LowerFault.{LowerFault}
use Rattle.jd_lower.specs.declared.fault.LowerFault.TheVariants.{NotBuilt, OutOfMemory}

-- From what is written so far, a value and what is written then; or none, where the program can't run it.
abbrev pub Step : Type 0 → Type 0
Step A = Draft → Option (A × Draft)

abbrev pub and_then : {A B : Type 0} → Option (A × Draft) → (A → Step B) → Option (B × Draft)
and_then None f = None
and_then (Some ran) f = f ran.0 ran.1

infixl 10 ◌>>=◌
abbrev pub ◌>>=◌ : {A B : Type 0} → Step A → (A → Step B) → Step B
p >>= f = λ s. and_then (p s) f

infixl 10 ◌>>◌
abbrev pub ◌>>◌ : {A B : Type 0} → Step A → Step B → Step B
p >> q = p >>= (λ _. q)

abbrev pub pure : {A : Type 0} → A → Step A
pure a = λ s. Some (a, s)

abbrev pub refuse : {A : Type 0} → Step A
refuse = λ s. None

-- a part by which nothing is written
abbrev pub give : {A : Type 0} → Option A → Step A
give None = refuse
give (Some a) = pure a

-- the next variable for the answer of an effect: `%1`, `%2` and so on
abbrev pub variable : Step (List ℕ)
variable = λ s. Some (37 ∷ decimal (s.effects + 1), record s { effects = s.effects + 1 })

-- the next number of a body, from 1
abbrev pub body_number : Step ℕ
body_number = λ s. Some (s.bodies + 1, record s { bodies = s.bodies + 1 })

-- a statement behind the others
abbrev pub write : Stmt → Step (Unit {0})
write x = λ s. Some (tt, record s { stmts = s.stmts ++ x ∷ [] })

abbrev pub nothing_written : Draft
nothing_written = record { effects = 0; bodies = 0; stmts = [] }

-- What a function gives is that of the step, unless memory ran out.
abbrev pub Gives : {A : Type 0} → Option (A × Draft) → Result A LowerFault → Draft → Type 0
Gives ran (Ok a) s = ran ≡ Some (a, s)
Gives ran (Err NotBuilt) s = ran ≡ None
Gives ran (Err OutOfMemory) s = Unit {0}

-- The same of a function that writes nothing.
abbrev pub Lowers : {A : Type 0} → Option A → Result A LowerFault → Type 0
Lowers o (Ok a) = o ≡ Some a
Lowers o (Err NotBuilt) = o ≡ None
Lowers o (Err OutOfMemory) = Unit {0}

-- Tables as functions, and the parts of lists that pass a test.
use Rattle.std.specs.Prelude.{ℕ, ◌+◌, ◌==◌, ◌&&◌, List, [], ◌∷◌, Bool, true, false, if◌then◌else◌}

-- The table with v at k.
abbrev pub put : {A : Type 0} → (ℕ → A) → ℕ → A → ℕ → A
put f k v x = if x == k then v else f x

-- The table of two numbers with v at k, n.
abbrev pub put2 : {A : Type 0} → (ℕ → ℕ → A) → ℕ → ℕ → A → ℕ → ℕ → A
put2 f k n v x y = if x == k && y == n then v else f x y

-- The table of three numbers with v at k, n, m.
abbrev pub put3 : {A : Type 0} → (ℕ → ℕ → ℕ → A) → ℕ → ℕ → ℕ → A → ℕ → ℕ → ℕ → A
put3 f k n m v x y z = if x == k && (y == n && z == m) then v else f x y z

-- 1 where the test holds.
abbrev pub one : Bool → ℕ
one true = 1
one false = 0

-- How many pass the test.
abbrev pub count : {X : Type 0} → (X → Bool) → List X → ℕ
count p [] = 0
count p (x ∷ xs) = one (p x) + count p xs

-- Those that pass the test.
abbrev pub only : {X : Type 0} → (X → Bool) → List X → List X
only p [] = []
only p (x ∷ xs) = if p x then x ∷ only p xs else only p xs

-- All have the property.
abbrev pub All : {X : Type 0} → (X → Type 0) → List X → Type 0
All P [] = Unit {0}
All P (x ∷ xs) = P x × All P xs

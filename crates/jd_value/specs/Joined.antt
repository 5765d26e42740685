-- Pieces of text with a separator between them.
use Rattle.std.specs.Prelude.{ℕ, List, [], ◌∷◌, ◌++◌, ◌==◌, if◌then◌else◌, flat_map}

abbrev pub joined : List ℕ → List (List ℕ) → List ℕ
joined between [] = []
joined between (first ∷ others) = first ++ flat_map (λ piece. between ++ piece) others

-- what stands before the piece of this number, from 0
abbrev pub separator : List ℕ → ℕ → List ℕ
separator between number = if number == 0 then [] else between

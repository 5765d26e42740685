-- What the lines of a state leave on a sink.
use Rattle.std.specs.Prelude.{◌≡◌, ℕ, ◌<◌, List, [], ◌∷◌, ◌++◌, take, length, Option}
use Rattle.std.specs.Io.KnownBytes.{Appends}
use Rattle.jd_model.specs.Machine.{text_of_lines}

-- The text of these lines was written.
abbrev pub WroteLines : Option (List ℕ) → Option (List ℕ) → List (List ℕ) → Type 0
WroteLines old new lines = Appends old new (text_of_lines lines)

-- All lines but the last were written, and of the last one a front part, not all of it.
pub record WroteButLast (old new : Option (List ℕ)) (lines : List (List ℕ)) : Type 0 where
  pub before : List (List ℕ)
  pub last : List ℕ
  pub all : lines ≡ before ++ last ∷ []
  pub part : ℕ
  pub short : part < length (last ++ 10 ∷ [])
  pub wrote : Appends old new (text_of_lines before ++ take part (last ++ 10 ∷ []))

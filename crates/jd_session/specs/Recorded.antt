-- Effects of process 1 in the record.
use Rattle.std.specs.Prelude.{◌≡◌, ℕ, ◌+◌, ◌*◌, List, [], ◌∷◌, ◌++◌, length, map}
use Rattle.jd_model.specs.declared.mark.Effect.{Effect}
use Rattle.jd_model.specs.World.{Told, marked}
use Rattle.jd_session.specs.Headline.{left_in}

-- These effects of process 1 stand at the end of the record.
abbrev pub recorded : Told → List Effect → Told
recorded t effects = record t { marks = t.marks ++ map (marked 1) effects }

-- They stand there, and each had room.
pub record Records (effects : List Effect) (t u : Told) : Type 0 where
  pub after : u ≡ recorded t effects
  pub left : left_in u + 3 * length effects ≡ left_in t

-- The first of these effects stand there; no more is said.
pub record RecordsPart (effects : List Effect) (t u : Told) : Type 0 where
  pub told : List Effect
  pub rest : List Effect
  pub all : effects ≡ told ++ rest
  pub marks : u.marks ≡ t.marks ++ map (marked 1) told

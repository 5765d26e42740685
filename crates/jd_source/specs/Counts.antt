-- Counts that never fall, and what a call says of them.
use Rattle.std.specs.Prelude.{◌≡◌, ℕ, ◌+◌, ◌-◌, ◌^◌, ◌<◌, ◌≤◌, min, List, length, Option, Some, None, Result, OnErr, MatchResult, ⊤}

-- A count rose where it is greater than before, or stands at its type's end.
abbrev pub Rose : ℕ → ℕ → Type 0
Rose before now = min (before + 1) (2 ^ 64 - 1) ≤ now

-- The count hasn't fallen, and the call failed only where it rose.
pub record HasCause {T E : Type 0} (before now : ℕ) (result : Result T E) : Type 0 where
  pub later : before ≤ now
  pub failed : OnErr result (Rose before now)

-- The count of ends hasn't fallen. A read with room that gave nothing raised it; one that gave bytes or failed left it.
abbrev pub EndsOnly : {E : Type 0} → ℕ → ℕ → Result ℕ E → List ℕ → Type 0
EndsOnly before now r buf =
    (before ≤ now) × MatchResult r (λ n. (0 < n → now ≡ before) × (n ≡ 0 → 0 < length buf → Rose before now)) (λ _. now ≡ before)

-- Where the seconds that were asked for are told, so many were added, up to the type's end.
abbrev pub Pauses : Option ℕ → Option ℕ → ℕ → Type 0
Pauses None None seconds = ⊤
Pauses (Some before) (Some now) seconds = now ≡ min (before + seconds) (2 ^ 64 - 1)
Pauses _ _ seconds = ⊥

-- How runs end: the status of each ending, and its line on standard error.
use Rattle.std.specs.Prelude.{◌≡◌, ◌⊎◌, ℕ, ◌≤◌, List, [], ◌∷◌, ◌++◌, Option, codes, decimal, ⊤}
use Rattle.std.specs.Io.KnownBytes.{Appends}
use Rattle.jd_source.specs.Counts.{Rose}
use Rattle.jd_source.specs.Content.{AppendsFront}
use Rattle.jd_syntax.specs.declared.fault.ParseKind.{ParseKind}
use Rattle.jd_syntax.specs.Kinds.{kind_name}
use Rattle.jd_engine.specs.declared.status.Status.{Status}
use Rattle.jd_engine.specs.declared.status.Status.TheVariants as status
use Rattle.jd_engine.specs.declared.status.Ending.{Ending}
use Rattle.jd_engine.specs.declared.status.Ending.TheVariants as ending

abbrev pub status_of : Ending → Status
status_of ending.Done = status.Done
status_of (ending.ScriptError text) = status.ScriptError
status_of ending.Usage = status.Usage
status_of (ending.ScriptRefused line kind) = status.ScriptRefused
status_of ending.ReadFault = status.ReadFault
status_of ending.WriteFault = status.WriteFault
status_of ending.FabricFault = status.FabricFault
status_of ending.Limit = status.Limit
status_of ending.Stalled = status.Stalled
status_of ending.OutOfMemory = status.OutOfMemory

abbrev pub refusal_line : ℕ → ParseKind → List ℕ
refusal_line line kind = (codes "REFUSED line " ++ decimal line ++ codes ": ") ++ (kind_name kind ++ 10 ∷ [])

-- The line on standard error.
abbrev pub line_of : Ending → List ℕ
line_of ending.Done = []
line_of (ending.ScriptError text) = codes "ERROR: " ++ text ++ 10 ∷ []
line_of ending.Usage = codes "usage: jd sim, run or gen, see the manual" ++ 10 ∷ []
line_of (ending.ScriptRefused line kind) = refusal_line line kind
line_of ending.ReadFault = codes "READ FAULT" ++ 10 ∷ []
line_of ending.WriteFault = codes "WRITE FAULT" ++ 10 ∷ []
line_of ending.FabricFault = codes "FABRIC FAULT" ++ 10 ∷ []
line_of ending.Limit = codes "LIMIT" ++ 10 ∷ []
line_of ending.Stalled = codes "STALLED" ++ 10 ∷ []
line_of ending.OutOfMemory = codes "OUT OF MEMORY" ++ 10 ∷ []

-- The sink took the whole line; or its count rose, and it took a front part.
abbrev pub Reports : Option (List ℕ) → Option (List ℕ) → ℕ → ℕ → List ℕ → Type 0
Reports old new before after line = (before ≤ after) × (Appends old new line ⊎ (Rose before after × AppendsFront old new line))

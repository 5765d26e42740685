-- From the bytes of a file to a program.
use Rattle.std.specs.Prelude.{◌≡◌, ◌⊎◌, ℕ, List, Option, Some, None, Result, Ok, Err, ⊤}
use Rattle.jd_source.specs.Content.{content_of}
use Rattle.jd_value.specs.declared.tree.Program.{Program}
use Rattle.jd_syntax.specs.Spelling.{Script, Spells}
use Rattle.jd_syntax.specs.Refusal.{IsRefused, line_at}
use Rattle.jd_syntax.specs.declared.fault.ParseKind.{ParseKind}
use Rattle.jd_syntax.specs.declared.fault.ParseKind.TheVariants as kind
use Rattle.jd_lower.specs.Lowering.{lowered}
use Rattle.jd_engine.specs.declared.status.Ending.{Ending}
use Rattle.jd_engine.specs.declared.status.Ending.TheVariants as ending
use Rattle.jd_engine.specs.Endings.{status_of}
use Rattle.jd_engine.specs.declared.status.Status.{Status}
use Rattle.jd_engine.specs.declared.status.Status.TheVariants as status

-- The source tells these bytes under a name.
abbrev pub Tells : Option (List (List ℕ × List ℕ)) → List ℕ → List ℕ → Type 0
Tells files name content = (kept : List (List ℕ × List ℕ)) × (files ≡ Some kept) × (content_of kept name ≡ Some content)

-- These bytes are a script that the program can run, and this is what it does.
pub record IsProgram (content : List ℕ) (program : Program) : Type 0 where
  pub script : Script
  pub spelled : Spells content script
  pub means : lowered script ≡ Some program

-- The grammar refuses these bytes: there is no script, and the line is that of the place.
abbrev pub IsNoScript : List ℕ → ℕ → ParseKind → Type 0
IsNoScript content line kind = (place : ℕ) × IsRefused content kind place × (line ≡ line_at content place)

-- They are a script that the program can't run yet, which is `Form` at line 0.
abbrev pub CanNotRun : List ℕ → ℕ → ParseKind → Type 0
CanNotRun content line k = (script : Script) × Spells content script × (lowered script ≡ None) × (line ≡ 0) × (k ≡ kind.Form)

-- Why no program was found in these bytes.
abbrev pub NotLoaded : List ℕ → Ending → Type 0
NotLoaded content (ending.ScriptRefused line kind) = IsNoScript content line kind ⊎ CanNotRun content line kind
NotLoaded content ending.ReadFault = ⊤
NotLoaded content ending.OutOfMemory = ⊤
NotLoaded content _ = ⊥

-- What loading gives.
abbrev pub Loads : List ℕ → Result Program Ending → Type 0
Loads content (Ok program) = IsProgram content program
Loads content (Err end) = NotLoaded content end

-- The program of a script, or that it can't be run yet, unless memory ran out.
abbrev pub LowersTo : Script → Result Program Ending → Type 0
LowersTo script (Ok program) = lowered script ≡ Some program
LowersTo script (Err (ending.ScriptRefused line k)) = (lowered script ≡ None) × (line ≡ 0) × (k ≡ kind.Form)
LowersTo script (Err ending.OutOfMemory) = ⊤
LowersTo script (Err _) = ⊥

-- The file was begun, unless the status is one of these.
abbrev pub IsBegun : Status → Type 0
IsBegun status.Usage = ⊥
IsBegun status.ReadFault = ⊥
IsBegun _ = ⊤

abbrev pub IsLoaded : Result Program Ending → Type 0
IsLoaded (Ok program) = ⊤
IsLoaded (Err end) = IsBegun (status_of end)

-- Loading ends the run in these ways alone.
abbrev pub IsLoadEnding : Ending → Type 0
IsLoadEnding (ending.ScriptRefused line kind) = ⊤
IsLoadEnding ending.ReadFault = ⊤
IsLoadEnding ending.OutOfMemory = ⊤
IsLoadEnding _ = ⊥

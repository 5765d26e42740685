-- What a run writes, for every script, number of workers and schedule: the lines of the reference machine.
use Rattle.std.specs.Prelude.{◌≡◌, ◌⊎◌, ℕ, List, [], Option, Some, None, IfSome, MatchOption, ⊤}
use Rattle.std.specs.Io.KnownBytes.{Keeps}
use Rattle.jd_value.specs.declared.fault.Fault.{Fault}
use Rattle.jd_value.specs.declared.tree.Program.{Program}
use Rattle.jd_value.specs.Shown.{shown_fault}
use Rattle.jd_model.specs.declared.ending.Ending.TheVariants as machine
use Rattle.jd_model.specs.declared.start.Start.{Start}
use Rattle.jd_model.specs.World.{Told}
use Rattle.jd_world.specs.Fabric.{IsFull}
use Rattle.jd_session.specs.declared.stop.End.{End}
use Rattle.jd_session.specs.declared.stop.End.TheVariants as end
use Rattle.jd_session.specs.Ends.{EndsAs}
use Rattle.jd_engine.specs.declared.status.Ending.{Ending}
use Rattle.jd_engine.specs.declared.status.Ending.TheVariants as ending
use Rattle.jd_engine.specs.Loading.{IsProgram, NotLoaded}

-- A cluster of so many workers; no worker is to be lost.
abbrev pub start_of : ℕ → Start
start_of workers = record { workers = workers; seed = 0; losses = [] }

-- How the run of a program ended, over the told world as the call ends.
abbrev pub RanTo : Program → Start → Ending → Option (List ℕ) → Option (List ℕ) → Told → Type 0
RanTo p st ending.Done old new t = EndsAs p st (end.Ended machine.Normal) old new t
RanTo p st (ending.ScriptError text) old new t = (fault : Fault) × EndsAs p st (end.Ended (machine.Fault fault)) old new t × (text ≡ shown_fault fault)
RanTo p st ending.WriteFault old new t = EndsAs p st end.Write old new t
RanTo p st ending.FabricFault old new t = EndsAs p st end.Fabric old new t
RanTo p st ending.Limit old new t = EndsAs p st end.Limit old new t
RanTo p st ending.Stalled old new t = EndsAs p st end.Stalled old new t
RanTo p st ending.OutOfMemory old new t = EndsAs p st end.OutOfMemory old new t
RanTo p st _ old new t = ⊥

-- How a run ended whose fabric wasn't begun. At a limit, what the fabric tells has reached it.
abbrev pub IsEarly : Ending → Option Told → Type 0
IsEarly ending.FabricFault told = ⊤
IsEarly ending.Limit told = IfSome told IsFull
IsEarly ending.OutOfMemory told = ⊤
IsEarly _ told = ⊥

-- The ending of a script that ended in this fault.
abbrev pub EndsInFault : Fault → Ending → Type 0
EndsInFault fault (ending.ScriptError text) = text ≡ shown_fault fault
EndsInFault fault ending.OutOfMemory = ⊤
EndsInFault fault _ = ⊥

-- The ending of the run of a program.
abbrev pub EndsLike : End → Ending → Type 0
EndsLike (end.Ended machine.Normal) e = e ≡ ending.Done
EndsLike (end.Ended (machine.Fault fault)) e = EndsInFault fault e
EndsLike end.Write e = e ≡ ending.WriteFault
EndsLike end.Fabric e = e ≡ ending.FabricFault
EndsLike end.Limit e = e ≡ ending.Limit
EndsLike end.Stalled e = e ≡ ending.Stalled
EndsLike end.OutOfMemory e = e ≡ ending.OutOfMemory

-- A program was run: on the fabric that was begun with this cluster, or, where that wasn't begun, nothing was written.
abbrev pub RunsOn : Program → Start → Ending → Option Start → Option Told → Option (List ℕ) → Option (List ℕ) → Type 0
RunsOn p st end begun told old new =
    MatchOption begun (IsEarly end told × Keeps old new) (λ b. (b ≡ st) × IfSome told (RanTo p st end old new))

-- The bytes are a program, and it was run.
abbrev pub RunsProgram : List ℕ → ℕ → Ending → Option Start → Option Told → Option (List ℕ) → Option (List ℕ) → Type 0
RunsProgram content workers end begun told old new =
    (program : Program) × IsProgram content program × RunsOn program (start_of workers) end begun told old new

-- Or there was none, the fabric wasn't begun, and nothing was written.
abbrev pub Runs : List ℕ → ℕ → Ending → Option Start → Option Told → Option (List ℕ) → Option (List ℕ) → Type 0
Runs content workers end begun told old new =
    RunsProgram content workers end begun told old new ⊎ (NotLoaded content end × (begun ≡ None) × Keeps old new)

-- The fabric isn't begun at these endings, and nothing is written.
abbrev pub IsQuiet : Ending → Type 0
IsQuiet ending.Usage = ⊤
IsQuiet (ending.ScriptRefused line kind) = ⊤
IsQuiet ending.ReadFault = ⊤
IsQuiet _ = ⊥

-- These come only after the source was read to its end.
abbrev pub IsWhole : Ending → Type 0
IsWhole ending.Usage = ⊥
IsWhole (ending.ScriptRefused line kind) = ⊥
IsWhole ending.ReadFault = ⊥
IsWhole ending.OutOfMemory = ⊥
IsWhole _ = ⊤

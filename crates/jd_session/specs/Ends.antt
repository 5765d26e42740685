-- How a run over a told fabric ends.
use Rattle.std.specs.Prelude.{◌≡◌, ◌⊎◌, ℕ, ◌+◌, ◌≤◌, List, Option, Some, None, IfSome, IfNone, is_some, true, ⊤}
use Rattle.jd_source.specs.Counts.{Rose}
use Rattle.jd_value.specs.declared.tree.Program.{Program}
use Rattle.jd_model.specs.declared.start.Start.{Start}
use Rattle.jd_model.specs.Machine.{IsStopped}
use Rattle.jd_model.specs.World.{Told, IsQuiet}
use Rattle.jd_world.specs.Fabric.{IsFull}
use Rattle.jd_session.specs.declared.stop.End.{End}
use Rattle.jd_session.specs.declared.stop.End.TheVariants.{Ended, Write, Fabric, Limit, Stalled, OutOfMemory}
use Rattle.jd_session.specs.Headline.{HasRun, IsCut, IsLimited}

-- The lines written are those of the replay of the record. The run comes to the machine's own ending; or it stops where
-- nothing can move and the machine has no legal mark; or it is cut off at a limit or by a fault.
abbrev pub EndsAs : Program → Start → End → Option (List ℕ) → Option (List ℕ) → Told → Type 0
EndsAs p st (Ended ending) old new t = (run : HasRun p st old new t) × (run.state.ending ≡ Some ending)
EndsAs p st Write old new t = IsCut p st old new t
EndsAs p st Fabric old new t = HasRun p st old new t
EndsAs p st Limit old new t = IsLimited p st old new t
EndsAs p st Stalled old new t = (run : HasRun p st old new t) × (run.state.ending ≡ None) × IsStopped run.state × IsQuiet t
EndsAs p st OutOfMemory old new t = HasRun p st old new t

-- How a run ends that never began. At a limit, what the fabric tells has reached it.
abbrev pub IsEarly : End → Option Told → Type 0
IsEarly Fabric told = ⊤
IsEarly Limit told = IfSome told IsFull
IsEarly OutOfMemory told = ⊤
IsEarly _ told = ⊥

-- The causes of the ends that faults give.
pub record HasEndCause (sink sink' faults faults' limits limits' : ℕ) (end : End) : Type 0 where
  pub write : end ≡ Write → Rose sink sink'
  pub fabric : end ≡ Fabric → Rose faults faults'

-- What layout is made, and when none is.
use Rattle.std.specs.Prelude.{ℕ, ◌≡◌, List}
use Rattle.jd_layout.specs.declared.fault.LayoutFault.{LayoutFault}
use Rattle.jd_layout.specs.declared.fault.LayoutFault.TheVariants.{BadSize, BadDist, BadProcs, OutOfMemory}
use Rattle.jd_layout.specs.Blocks.{Blocks, IsSize, IsDist, AreProcs, IsLayout}

-- the layout that is asked for, where it may be had
pub record IsMade (dims procs dist known : List ℕ) (layout : Blocks) : Type 0 where
  pub is : layout ≡ record { dims = dims; dist = dist; procs = procs }
  pub valid : IsLayout layout
  pub over : AreProcs procs known

-- what the layout of these dimensions, processes and counts is refused for
abbrev pub IsRefusal : (dims procs dist known : List ℕ) → LayoutFault → Type 0
IsRefusal dims procs dist known BadSize = ¬ IsSize dims
IsRefusal dims procs dist known BadDist = IsSize dims × ¬ IsDist dims dist procs
IsRefusal dims procs dist known BadProcs = IsSize dims × IsDist dims dist procs × ¬ AreProcs procs known
IsRefusal dims procs dist known OutOfMemory = IsSize dims × IsDist dims dist procs

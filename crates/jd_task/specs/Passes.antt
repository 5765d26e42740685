-- What comes of a frame, for the frames further out.
use Rattle.std.specs.Prelude.{◌≡◌, List, Result, Ok, Err}
use Rattle.jd_value.specs.declared.fault.Fault.{Fault}
use Rattle.jd_expr.specs.declared.stop.Stop.{Stop}
use Rattle.jd_expr.specs.declared.stop.Stop.TheVariants.{Faulted, OutOfMemory}
use Rattle.jd_expr.specs.Action.{Ran, Done}
use Rattle.jd_task.specs.declared.doing.Doing.{Doing}
use Rattle.jd_task.specs.declared.flow.Flow.{Flow}
use Rattle.jd_task.specs.declared.frame.Frame.{Frame}
use Rattle.jd_task.specs.declared.reached.Reached.{Reached}
use Rattle.jd_task.specs.Running.{Steps, begun, resume}

-- a run that ended is that end, and one that asks waits inside all frames
abbrev pub Passed : Steps → List Frame → Ran Doing Reached → Doing → Result (Result (Result Flow Fault) Reached) Stop → Type 0
Passed s outer ran st (Ok (Ok ended)) = ran ≡ begun ended st
Passed s outer ran st (Ok (Err reached)) = resume s outer ran ≡ Done reached st
Passed s outer ran st (Err (Faulted e)) = ⊥
Passed s outer ran st (Err OutOfMemory) = Unit {0}

-- what comes of all frames, where an end goes on at those further out
abbrev pub Passes : Steps → List Frame → List Frame → Ran Doing Reached → Doing → Result (Result (Result Flow Fault) Reached) Stop → Type 0
Passes s all outer ran st (Ok (Ok ended)) = resume s all ran ≡ resume s outer (begun ended st)
Passes s all outer ran st (Ok (Err reached)) = resume s all ran ≡ Done reached st
Passes s all outer ran st (Err (Faulted e)) = ⊥
Passes s all outer ran st (Err OutOfMemory) = Unit {0}

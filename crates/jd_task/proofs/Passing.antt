-- What passes the frames that are left.
use Rattle.std.proofs.Common.{◌≡◌, List, [], ◌∷◌, ◌++◌, Result, Ok, Err, refl, sym, ap, append-nil, append_assoc, ◌∙◌}
use Rattle.jd_value.specs.declared.fault.Fault.{Fault}
use Rattle.jd_expr.specs.declared.stop.Stop.{Stop}
use Rattle.jd_expr.specs.declared.stop.Stop.TheVariants.{Faulted, OutOfMemory}
use Rattle.jd_expr.specs.Action.{Ran, Done, Failed}
use Rattle.jd_task.specs.declared.doing.Doing.{Doing}
use Rattle.jd_task.specs.declared.flow.Flow.{Flow}
use Rattle.jd_task.specs.declared.frame.Frame.{Frame}
use Rattle.jd_task.specs.declared.op.Op.{Op}
use Rattle.jd_task.specs.declared.reached.Reached.{Reached}
use Rattle.jd_task.specs.declared.reached.Reached.TheVariants.{Went, Asks}
use Rattle.jd_task.specs.Passes.{Passed, Passes}
use Rattle.jd_task.specs.Running.{Steps, resume}

-- an operation waits inside them
pub asks_out : (s : Steps) (fs inner : List Frame) (op : Op) (st : Doing) → resume s fs (Done (Asks op inner) st) ≡ Done (Asks op (inner ++ fs)) st
asks_out s [] inner op st = ap (λ (all : List Frame). Done (Asks op all) st) (sym (append-nil inner))
asks_out s (f ∷ fs) inner op st = refl

-- one frame, and then the others
pub one_frame : (s : Steps) (f : Frame) (fs : List Frame) (ran : Ran Doing Reached) → resume s (f ∷ fs) ran ≡ resume s fs (resume s (f ∷ []) ran)
one_frame s f fs (Done (Went flow) st) = refl
one_frame s f fs (Done (Asks op inner) st) =
    sym (asks_out s fs (inner ++ f ∷ []) op st ∙ ap (λ (all : List Frame). Done (Asks op all) st) (append_assoc inner (f ∷ []) fs))
one_frame s f fs (Failed e st) = refl

pub passes_all : (s : Steps) (f : Frame) (outer : List Frame) (ran : Ran Doing Reached) (st : Doing) (came : Result (Result (Result Flow Fault) Reached) Stop)
    → Passed s outer (resume s (f ∷ []) ran) st came → Passes s (f ∷ outer) outer ran st came
passes_all s f outer ran st (Ok (Ok ended)) h = one_frame s f outer ran ∙ ap (resume s outer) h
passes_all s f outer ran st (Ok (Err reached)) h = one_frame s f outer ran ∙ h
passes_all s f outer ran st (Err (Faulted e)) h = h
passes_all s f outer ran st (Err OutOfMemory) h = h

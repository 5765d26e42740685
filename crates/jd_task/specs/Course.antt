-- What a task does when its operations are answered one after the other, each from the place that the one before left.
use Rattle.std.specs.Prelude.{List, [], ◌∷◌, ◌++◌, Result, Ok}
use Rattle.jd_value.specs.declared.fault.Fault.{Fault}
use Rattle.jd_value.specs.declared.value.Value.{Value}
use Rattle.jd_value.specs.declared.value.Value.TheVariants.{Nothing}
use Rattle.jd_value.specs.declared.tree.Body.{Body}
use Rattle.jd_expr.specs.Variables.{Variables}
use Rattle.jd_task.specs.declared.op.Op.{Op}
use Rattle.jd_task.specs.declared.place.Place.{Place}
use Rattle.jd_task.specs.declared.job.Turn.{Turn}
use Rattle.jd_task.specs.declared.job.Turn.TheVariants as turn
use Rattle.jd_task.specs.Places.{start_of}
use Rattle.jd_task.specs.Running.{advance}

-- how far a task came: to its end, or to the operation that it asked last, which has no answer
pub data End : Type 0 where
  Ended : Result Value Fault → End
  Waits : End

-- what a task did: the operations that it asked, in their order, the variables that it left, and how far it came
pub record Course : Type 0 where
  pub asked : List Op
  pub variables : Variables
  pub end : End

-- from the place and the turn that a step left, where these operations were asked before and these answers are to come;
-- the answers that are over when it ends are for nobody
abbrev pub onward_from : Place × Turn → List (Result Value Fault) → List Op → Course
onward_from (place, turn.Ended outcome) answers asked = record { asked = asked; variables = place.variables; end = Ended outcome }
onward_from (place, turn.Asks op) [] asked = record { asked = asked ++ op ∷ []; variables = place.variables; end = Waits }
onward_from (place, turn.Asks op) (answer ∷ answers) asked = onward_from (advance place answer) answers (asked ++ op ∷ [])

-- A body is begun with these variables, and goes on from each operation to the next with the answer that is next.
unfoldable pub resumed : Body → Variables → List (Result Value Fault) → Course
resumed body vars answers = onward_from (advance (start_of body vars) (Ok Nothing)) answers []

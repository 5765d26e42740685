-- A run with frames as what it comes to with the answers to come.
use Rattle.std.proofs.Common.{◌≡◌, List, [], ◌∷◌, ◌++◌, Result, refl, sym, ap, ◌∙◌}
use Rattle.std.proofs.lemmas.List.{append_assoc}
use Rattle.jd_value.specs.declared.fault.Fault.{Fault}
use Rattle.jd_value.specs.declared.value.Value.{Value}
use Rattle.jd_value.specs.declared.value.Value.TheVariants.{Nothing}
use Rattle.jd_value.specs.declared.tree.Body.{Body, out-Body}
use Rattle.jd_value.specs.declared.tree.Block.{out-Block}
use Rattle.jd_expr.specs.Action.{Ran, Done, Failed}
use Rattle.jd_expr.specs.Variables.{Variables}
use Rattle.jd_task.specs.declared.doing.Doing.{Doing}
use Rattle.jd_task.specs.declared.flow.Flow.{Flow}
use Rattle.jd_task.specs.declared.frame.Frame.{Frame}
use Rattle.jd_task.specs.declared.op.Op.{Op}
use Rattle.jd_task.specs.declared.reached.Reached.{Reached}
use Rattle.jd_task.specs.declared.reached.Reached.TheVariants.{Went, Asks}
use Rattle.jd_task.specs.Course.{onward_from, resumed}
use Rattle.jd_task.specs.Direct.{Came, Gave, Raised, Waited, Direct, course_of}
use Rattle.jd_task.specs.Running.{Steps, steps, step, throw_at, resume, run_from, given, left_by, step_units, advance}
use Rattle.jd_task.proofs.Passing.{asks_out}

-- a run that is resumed with one answer after the other, where these operations were asked before
abbrev pub played : Ran Doing Reached → List (Result Value Fault) → List Op → Came Flow
played (Done (Went flow) st) answers asked = Gave flow (record { doing = st; answers = answers; asked = asked })
played (Done (Asks op frames) st) [] asked = Waited (record { doing = st; answers = []; asked = asked ++ op ∷ [] })
played (Done (Asks op frames) st) (answer ∷ answers) asked =
    played (resume (steps step_units) frames (given answer (record { variables = st.variables; left = step_units }))) answers (asked ++ op ∷ [])
played (Failed e st) answers asked = Raised e (record { doing = st; answers = answers; asked = asked })

-- frames inside others are gone out through one after the other
pub composed : (s : Steps) (xs ys : List Frame) (ran : Ran Doing Reached) → resume s (xs ++ ys) ran ≡ resume s ys (resume s xs ran)
composed s [] ys ran = refl
composed s (f ∷ fs) ys (Done (Went flow) st) = composed s fs ys (step s f flow st)
composed s (f ∷ fs) ys (Done (Asks op frames) st) =
    sym (asks_out s ys (frames ++ f ∷ fs) op st ∙ ap (λ (all : List Frame). Done (Asks op all) st) (append_assoc frames (f ∷ fs) ys))
composed s (f ∷ fs) ys (Failed e st) = composed s fs ys (throw_at s f e st)

-- what a frame makes of what ended further in
abbrev pub through : Frame → Flow → Direct Flow
through f flow = λ x. played (step (steps step_units) f flow x.doing) x.answers x.asked

-- what a frame makes of what came of a part further in
abbrev pub beyond : Frame → Came Flow → Came Flow
beyond f (Gave flow x) = through f flow x
beyond f (Raised e x) = played (throw_at (steps step_units) f e x.doing) x.answers x.asked
beyond f (Waited x) = Waited x

-- A frame round a run is what is done after the run, however often the run is resumed.
pub passes : (f : Frame) (ran : Ran Doing Reached) (answers : List (Result Value Fault)) (asked : List Op)
    → played (resume (steps step_units) (f ∷ []) ran) answers asked ≡ beyond f (played ran answers asked)
passes f (Done (Went flow) st) answers asked = refl
passes f (Done (Asks op frames) st) [] asked = refl
passes f (Done (Asks op frames) st) (answer ∷ answers) asked =
    ap (λ (ran : Ran Doing Reached). played ran answers (asked ++ op ∷ []))
    (composed (steps step_units) frames (f ∷ []) (given answer (record { variables = st.variables; left = step_units })))
    ∙ passes f (resume (steps step_units) frames (given answer (record { variables = st.variables; left = step_units }))) answers (asked ++ op ∷ [])
passes f (Failed e st) answers asked = refl

-- a task that is advanced from each operation to the next
pub played_course : (ran : Ran Doing Reached) (answers : List (Result Value Fault)) (asked : List Op)
    → onward_from (left_by ran) answers asked ≡ course_of (played ran answers asked)
unfolding advance
played_course (Done (Went flow) st) answers asked = refl
played_course (Done (Asks op frames) st) [] asked = refl
played_course (Done (Asks op frames) st) (answer ∷ answers) asked =
    played_course (resume (steps step_units) frames (given answer (record { variables = st.variables; left = step_units }))) answers (asked ++ op ∷ [])
played_course (Failed e st) answers asked = refl

-- and one that is begun
pub resumed_course : (body : Body) (vars : Variables) (answers : List (Result Value Fault)) → resumed body vars answers
    ≡ course_of (played (run_from (steps step_units) (out-Body body).block 0 Nothing (out-Block (out-Body body).block).stmts (record { variables = vars; left = step_units })) answers [])
unfolding resumed advance
resumed_course body vars answers =
    played_course (run_from (steps step_units) (out-Body body).block 0 Nothing (out-Block (out-Body body).block).stmts (record { variables = vars; left = step_units })) answers []

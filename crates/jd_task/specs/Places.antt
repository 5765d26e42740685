-- Where tasks begin.
use Rattle.std.specs.Prelude.{ℕ, List, [], ◌∷◌}
use Rattle.jd_value.specs.declared.value.Value.{Value}
use Rattle.jd_value.specs.declared.tree.Body.{Body, out-Body}
use Rattle.jd_value.specs.declared.tree.Program.{Program}
use Rattle.jd_expr.specs.Variables.{Variables, with_value, without}
use Rattle.jd_task.specs.declared.closure.Closure.{Closure}
use Rattle.jd_task.specs.declared.frame.Frame.TheVariants.{Seq}
use Rattle.jd_task.specs.declared.place.Place.{Place}

-- these variables get their values, in order
abbrev pub with_variables : Variables → Variables → Variables
with_variables [] vars = vars
with_variables (x ∷ xs) vars = with_variables xs (with_value x.name x.value vars)

-- the parameters get the arguments, in order; one without an argument has no value, and an argument without a
-- parameter is dropped
abbrev pub with_arguments : List (List ℕ) → List Value → Variables → Variables
with_arguments [] args vars = vars
with_arguments (p ∷ ps) [] vars = with_arguments ps [] (without p vars)
with_arguments (p ∷ ps) (a ∷ args) vars = with_arguments ps args (with_value p a vars)

-- the first statement of a body
abbrev pub start_of : Body → Variables → Place
start_of body vars = record { frames = Seq (out-Body body).block 0 ∷ []; variables = vars }

-- A called task begins at the first statement of the body. Its variables are the kept ones, and then the parameters
-- with the arguments.
unfoldable pub called_place : Closure → List Value → Place
called_place code args = start_of code.body (with_arguments (out-Body code.body).parameters args (with_variables code.kept []))

-- Main begins at its first statement, without variables.
unfoldable pub main_place : Program → Place
main_place program = start_of program.body []

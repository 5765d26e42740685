-- How a task goes on: its statements up to the next operation, or to its end.
use Rattle.std.specs.Prelude.{ℕ, zero, suc, ◌+◌, Bool, if◌then◌else◌, List, [], ◌∷◌, ◌++◌, drop, Option, None, Some, Result, Ok, Err}
use Rattle.std.specs.Option.{option_map}
use Rattle.jd_value.specs.declared.fault.Fault.{Fault}
use Rattle.jd_value.specs.declared.fault.Fault.TheVariants as fault
use Rattle.jd_value.specs.declared.value.Value.{Value}
use Rattle.jd_value.specs.declared.value.Value.TheVariants.{Nothing, Exception}
use Rattle.jd_value.specs.declared.operation.Operation.{Operation}
use Rattle.jd_value.specs.declared.expr.Expr.{Expr}
use Rattle.jd_value.specs.declared.tree.Stmt.{Stmt, out-Stmt}
use Rattle.jd_value.specs.declared.tree.Body.{Body}
use Rattle.jd_value.specs.declared.tree.Block.{Block, out-Block}
use Rattle.jd_value.specs.declared.tree.Arm.{Arm, out-Arm}
use Rattle.jd_value.specs.declared.tree.Stmt.TheOpen.{Stmt-F}
use Rattle.jd_expr.specs.Action.{Action, Ran, Done, Failed, ◌>>=◌, ◌>>◌, pure, fail, lift, lift_to, unit}
use Rattle.jd_expr.specs.Meaning.{evaluated, all_evaluated}
use Rattle.jd_expr.specs.Variables.{Variables, with_value, named}
use Rattle.jd_task.specs.declared.doing.Doing.{Doing}
use Rattle.jd_task.specs.declared.frame.Frame.{Frame}
use Rattle.jd_task.specs.declared.frame.Frame.TheVariants.{Answer, Seq, Branch, Condition, Loop, Each, Catch}
use Rattle.jd_task.specs.declared.flow.Flow.{Flow}
use Rattle.jd_task.specs.declared.flow.Flow.TheVariants.{Next, Break, Continue}
use Rattle.jd_task.specs.declared.op.Op.{Op}
use Rattle.jd_task.specs.declared.reached.Reached.{Reached}
use Rattle.jd_task.specs.declared.reached.Reached.TheVariants.{Went, Asks}
use Rattle.jd_task.specs.declared.place.Place.{Place}
use Rattle.jd_task.specs.declared.job.Turn.{Turn}
use Rattle.jd_task.specs.declared.job.Turn.TheVariants as turn
use Rattle.jd_task.specs.Names.{closure_of}
use Rattle.jd_task.specs.Elements.{truth, is_budget, is_collection, elements}
use Rattle.jd_task.specs.Pushing.{pushed}

-- what an action on the units gave, with the variables beside them
abbrev pub beside : {A : Type 0} → Variables → Ran ℕ A → Ran Doing A
beside vars (Done a n) = Done a (record { variables = vars; left = n })
beside vars (Failed e n) = Failed e (record { variables = vars; left = n })

-- what reads the variables and spends units, as a part of a step
abbrev pub reading : {A : Type 0} → (Variables → Action ℕ A) → Action Doing A
reading f = λ st. beside st.variables (f st.variables st.left)

-- one unit of the step is spent
abbrev pub spend : Action Doing (Unit {0})
spend = reading (λ vars. unit)

-- the variable of this name gets a value
abbrev pub set : List ℕ → Value → Action Doing (Unit {0})
set name v = λ st. Done tt (record { variables = with_value name v st.variables; left = st.left })

-- an operation on these operands, with the closure of its body
abbrev pub op_of : Operation → Option Body → List Value → Variables → Op
op_of operation body args vars = record { operation = operation; body = option_map (closure_of vars) body; args = args }

-- an operation is asked; what is done next is to give its answer to the variable
abbrev pub ask : List ℕ → Operation → Option Body → List Value → Action Doing Reached
ask name operation body args = λ st. Done (Asks (op_of operation body args st.variables) (Answer name ∷ [])) st

-- `name = x`, whose value is that of x
unfoldable pub assignment : List ℕ → Expr → Action Doing Reached
assignment name x = do
  v ← reading (evaluated x)
  set name v
  pure (Went (Next v))

-- `x`, which changes no variable
unfoldable pub expression : Expr → Action Doing Reached
expression x = do
  v ← reading (evaluated x)
  pure (Went (Next v))

-- the operands, then the operation
unfoldable pub effect : List ℕ → Operation → Option Body → List Expr → Action Doing Reached
effect name operation body args = do
  values ← reading (all_evaluated args)
  ask name operation body values

-- the list that `push!` makes of that of a variable
unfoldable pub grown : List ℕ → Value → Action Doing Value
grown name x = λ st. lift_to st (pushed x (named name st.variables))

-- `push!(name, x)`, whose value is the new list
unfoldable pub push : List ℕ → Expr → Action Doing Reached
push name x = do
  v ← reading (evaluated x)
  list ← grown name v
  set name list
  pure (Went (Next list))

-- the condition of a branch or a loop, which is a truth value
unfoldable pub decision : Expr → Action Doing Bool
decision x = do
  v ← reading (evaluated x)
  lift (truth v)

-- goes on with how a statement or a block ended; where it asks, this frame is round it
abbrev pub inside : Frame → Reached → (Flow → Action Doing Reached) → Action Doing Reached
inside f (Went flow) go = go flow
inside f (Asks op frames) go = pure (Asks op (frames ++ f ∷ []))

-- the same where what comes may leave more to do: it gives None then
abbrev pub inside_part : Frame → Reached → (Flow → Action Doing (Option Reached)) → Action Doing (Option Reached)
inside_part f (Went flow) go = go flow
inside_part f (Asks op frames) go = pure (Some (Asks op (frames ++ f ∷ [])))

-- what was left to do
abbrev pub otherwise : Option Reached → Action Doing Reached → Action Doing Reached
otherwise None go = go
otherwise (Some reached) go = pure reached

-- what comes behind a value, where there is one
abbrev pub goes_on : Flow → (Value → Action Doing Reached) → Action Doing Reached
goes_on (Next v) go = go v
goes_on Break go = pure (Went Break)
goes_on Continue go = pure (Went Continue)

-- the answer of an operation goes to its variable
abbrev pub answered : List ℕ → Flow → Action Doing Reached
answered name flow = goes_on flow (λ v. set name v >> pure (Went (Next v)))

-- the value of a statement, where the next one of its block comes, or how the block ends with it
abbrev pub next_in : Frame → Reached → Result Value Reached
next_in f (Went (Next v)) = Ok v
next_in f (Went Break) = Err (Went Break)
next_in f (Went Continue) = Err (Went Continue)
next_in f (Asks op frames) = Err (Asks op (frames ++ f ∷ []))

-- what comes behind it
abbrev pub behind : Result Value Reached → (Value → Action Doing Reached) → Action Doing Reached
behind (Ok v) go = go v
behind (Err reached) go = pure reached

-- how a loop ends behind its block, if that left it
abbrev pub left : Flow → Option Reached
left (Next v) = None
left Break = Some (Went (Next Nothing))
left Continue = None

-- a part of a loop behind another
abbrev pub stays : Option Reached → Action Doing (Option Reached) → Action Doing (Option Reached)
stays None go = go
stays (Some reached) go = pure (Some reached)

-- the variable of a `catch`, if it has one, gets a value
abbrev pub keep : Option (List ℕ) → Value → Action Doing (Unit {0})
keep None v = pure tt
keep (Some name) v = set name v

-- a turn of a `for` takes a unit, and the variable gets the element
unfoldable pub begin_turn : List ℕ → Value → Action Doing (Unit {0})
begin_turn name x = spend >> set name x

-- What each statement does, and each turn of a `while` whose condition has held, with those behind it. A block is its
-- statements one after the other, and has no meaning of its own.
pub record Steps : Type 0 where
  pub exec : Stmt → Action Doing Reached
  pub again : Arm → Action Doing Reached

-- One level of statements, where those below it do what s says.
module _ (s : Steps) where
  -- a statement of a block, with this frame round it
  unfoldable pub next : Frame → Stmt → Action Doing (Result Value Reached)
  next f x = s.exec x >>= (λ reached. pure (next_in f reached))

  -- the statements of a block from a place on, behind one with the value `last`
  abbrev pub run_from : Block → ℕ → Value → List Stmt → Action Doing Reached
  run_from block at last [] = pure (Went (Next last))
  run_from block at last (x ∷ xs) = next (Seq block (at + 1)) x >>= (λ came. behind came (λ v. run_from block (at + 1) v xs))

  -- a block
  unfoldable pub run : Block → Action Doing Reached
  run block = run_from block 0 Nothing (out-Block block).stmts

  -- an arm of an `if` from its test on: None where the condition doesn't hold
  unfoldable pub taken : Arm → Action Doing (Option Reached)
  taken arm = do
    holds ← decision (out-Arm arm).test
    if holds then (run (out-Arm arm).block >>= (λ reached. pure (Some reached))) else pure None

  -- an arm of an `if` that stands at this place
  unfoldable pub arm_at : List Arm → ℕ → Block → Arm → Action Doing (Option Reached)
  arm_at arms at other arm = run (out-Arm arm).effects >>= (λ reached. inside_part (Branch arms at other) reached (λ _. taken arm))

  -- an `if` from the arm at a place on: the block of the first arm whose condition holds, or the other one
  abbrev pub branch_from : List Arm → ℕ → Block → List Arm → Action Doing Reached
  branch_from arms at other [] = run other
  branch_from arms at other (arm ∷ rest) = arm_at arms at other arm >>= (λ part. otherwise part (branch_from arms (at + 1) other rest))

  -- the same from the test of that arm on
  abbrev pub tested_from : List Arm → ℕ → Block → List Arm → Action Doing Reached
  tested_from arms at other [] = run other
  tested_from arms at other (arm ∷ rest) = taken arm >>= (λ part. otherwise part (branch_from arms (at + 1) other rest))

  -- the test of a `while`: None where the condition holds
  unfoldable pub held : Arm → Action Doing (Option Reached)
  held arm = do
    holds ← decision (out-Arm arm).test
    pure (if holds then None else Some (Went (Next Nothing)))

  -- the condition of a `while`, with what is done before the test
  unfoldable pub condition : Arm → Action Doing (Option Reached)
  condition arm = run (out-Arm arm).effects >>= (λ reached. inside_part (Condition arm) reached (λ _. held arm))

  -- a turn of a `while`, and the condition behind it: None where there is one more turn
  unfoldable pub once : Arm → Action Doing (Option Reached)
  once arm = run (out-Arm arm).block >>= (λ reached. inside_part (Loop arm) reached (λ flow. stays (left flow) (condition arm)))

  -- a `while` whose condition has held, of which the unit is spent
  unfoldable pub turns : Arm → Action Doing Reached
  turns arm = once arm >>= (λ part. otherwise part (s.again arm))

  -- a `while`
  unfoldable pub while_holds : Arm → Action Doing Reached
  while_holds arm = condition arm >>= (λ part. otherwise part (s.again arm))

  -- a turn of a `for`, for the element at the place before this one: None where the loop goes on
  unfoldable pub with_element : List ℕ → Block → Value → ℕ → Value → Action Doing (Option Reached)
  with_element name block collection next x = do
    begin_turn name x
    reached ← run block
    inside_part (Each name block collection next) reached (λ flow. pure (left flow))

  -- a `for` over the elements of a collection from a place on
  abbrev pub over : List ℕ → Block → Value → ℕ → List Value → Action Doing Reached
  over name block collection at [] = pure (Went (Next Nothing))
  over name block collection at (x ∷ xs) = with_element name block collection (at + 1) x >>= (λ part. otherwise part (over name block collection (at + 1) xs))

  -- a `for`
  unfoldable pub for_in : List ℕ → Expr → Block → Action Doing Reached
  for_in name x block = do
    collection ← reading (evaluated x)
    if is_collection collection then over name block collection 0 (elements collection) else fail fault.BadType

  -- a fault that comes to a `catch`: it takes each one but that of the units
  unfoldable pub caught : Option (List ℕ) → Block → Fault → Action Doing Reached
  caught name handler e = if is_budget e then fail e else (keep name (Exception e) >> run handler)

  -- how a `try` ends, by what came of its block
  abbrev pub handled : Option (List ℕ) → Block → Ran Doing Reached → Ran Doing Reached
  handled name handler (Done reached st) = inside (Catch name handler) reached (λ flow. pure (Went flow)) st
  handled name handler (Failed e st) = caught name handler e st

  -- a `try`
  unfoldable pub attempt : Block → Option (List ℕ) → Block → Action Doing Reached
  attempt block name handler = λ st. handled name handler (run block st)

  abbrev pub statement_at : Stmt-F Stmt Arm Block Body → Action Doing Reached
  statement_at (Stmt-F.Set name x) = assignment name x
  statement_at (Stmt-F.Value x) = expression x
  statement_at (Stmt-F.Effect name operation body args) = effect name operation body args
  statement_at (Stmt-F.If arms other) = branch_from arms 0 other arms
  statement_at (Stmt-F.While arm) = while_holds arm
  statement_at (Stmt-F.For name x block) = for_in name x block
  statement_at (Stmt-F.Try block name handler) = attempt block name handler
  statement_at Stmt-F.Break = pure (Went Break)
  statement_at Stmt-F.Continue = pure (Went Continue)
  statement_at (Stmt-F.Push name x) = push name x

  -- what stands in a statement, of which the unit is spent
  unfoldable pub statement : Stmt → Action Doing Reached
  statement x = statement_at (out-Stmt x)

  -- from a frame on, by how that ended which stood further in
  abbrev pub step : Frame → Flow → Action Doing Reached
  step (Answer name) flow = answered name flow
  step (Seq block at) flow = goes_on flow (λ v. run_from block at v (drop at (out-Block block).stmts))
  step (Branch arms at other) flow = tested_from arms at other (drop at arms)
  step (Condition arm) flow = held arm >>= (λ part. otherwise part (s.again arm))
  step (Loop arm) flow = stays (left flow) (condition arm) >>= (λ part. otherwise part (s.again arm))
  step (Each name block collection at) flow = otherwise (left flow) (over name block collection at (drop at (elements collection)))
  step (Catch name handler) flow = pure (Went flow)

  -- from a frame on, where a fault comes from further in
  abbrev pub throw_at : Frame → Fault → Action Doing Reached
  throw_at (Answer name) e = fail e
  throw_at (Seq block at) e = fail e
  throw_at (Branch arms at other) e = fail e
  throw_at (Condition arm) e = fail e
  throw_at (Loop arm) e = fail e
  throw_at (Each name block collection at) e = fail e
  throw_at (Catch name handler) e = caught name handler e

  -- out through the frames, the innermost first: what came goes on at the next one, and an operation waits inside those
  -- that are left
  abbrev pub resume : List Frame → Ran Doing Reached → Ran Doing Reached
  resume [] ran = ran
  resume (f ∷ fs) (Done (Went flow) st) = resume fs (step f flow st)
  resume (f ∷ fs) (Done (Asks op frames) st) = Done (Asks op (frames ++ f ∷ fs)) st
  resume (f ∷ fs) (Failed e st) = resume fs (throw_at f e st)

-- Each statement, and each turn of a `while`, takes a unit before what stands below it. The number falls at each level,
-- so that this is a plain recursion; a number that is no less than the units is never the first to come to 0.
unfoldable pub steps : ℕ → Steps
steps zero = record { exec = λ x. fail fault.Budget; again = λ arm. fail fault.Budget }
steps (suc k) = record { exec = λ x. spend >> statement (steps k) x; again = λ arm. spend >> turns (steps k) arm }

-- how that ended which stands further in, as what came of it
abbrev pub begun : Result Flow Fault → Doing → Ran Doing Reached
begun (Ok flow) st = Done (Went flow) st
begun (Err e) st = Failed e st

-- an answer as what came from further in
abbrev pub given : Result Value Fault → Doing → Ran Doing Reached
given (Ok v) st = Done (Went (Next v)) st
given (Err e) st = Failed e st

-- the value of a body, by how its last statement ended
abbrev pub value_of_flow : Flow → Value
value_of_flow (Next v) = v
value_of_flow Break = Nothing
value_of_flow Continue = Nothing

-- the place and the turn that a step leaves
abbrev pub left_by : Ran Doing Reached → Place × Turn
left_by (Done (Went flow) st) = (record { frames = []; variables = st.variables }, turn.Ended (Ok (value_of_flow flow)))
left_by (Done (Asks op frames) st) = (record { frames = frames; variables = st.variables }, turn.Asks op)
left_by (Failed e st) = (record { frames = []; variables = st.variables }, turn.Ended (Err e))

-- how many units a step has
abbrev pub step_units : ℕ
step_units = 10000000

-- A task goes on from a place, to its next operation or its end: `answer` is what the operation before was answered,
-- and `nothing` where there was none.
unfoldable pub advance : Place → Result Value Fault → Place × Turn
advance place answer = left_by (resume (steps step_units) place.frames (given answer (record { variables = place.variables; left = step_units })))

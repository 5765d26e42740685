-- What a body does where the answers of its operations stand in a list: a recursion on statements in which an operation
-- is a call that returns its answer, so that nothing is left and nothing is resumed.
use Rattle.std.specs.Prelude.{ℕ, zero, suc, ◌+◌, ◌*◌, length, if◌then◌else◌, List, [], ◌∷◌, ◌++◌, Option, Result, Ok, Err}
use Rattle.jd_value.specs.declared.fault.Fault.{Fault}
use Rattle.jd_value.specs.declared.fault.Fault.TheVariants as fault
use Rattle.jd_value.specs.declared.value.Value.{Value}
use Rattle.jd_value.specs.declared.value.Value.TheVariants.{Nothing, Exception}
use Rattle.jd_value.specs.declared.operation.Operation.{Operation}
use Rattle.jd_value.specs.declared.expr.Expr.{Expr}
use Rattle.jd_value.specs.declared.tree.Stmt.{Stmt, out-Stmt}
use Rattle.jd_value.specs.declared.tree.Stmt.TheOpen.{Stmt-F}
use Rattle.jd_value.specs.declared.tree.Body.{Body, out-Body}
use Rattle.jd_value.specs.declared.tree.Block.{Block, out-Block}
use Rattle.jd_value.specs.declared.tree.Arm.{Arm, out-Arm}
use Rattle.jd_expr.specs.Action.{Action, Ran, Done, Failed}
use Rattle.jd_expr.specs.Meaning.{evaluated, all_evaluated}
use Rattle.jd_expr.specs.Variables.{Variables}
use Rattle.jd_task.specs.declared.doing.Doing.{Doing}
use Rattle.jd_task.specs.declared.flow.Flow.{Flow}
use Rattle.jd_task.specs.declared.flow.Flow.TheVariants.{Next, Break, Continue}
use Rattle.jd_task.specs.declared.op.Op.{Op}
use Rattle.jd_task.specs.Course.{Course, Ended, Waits}
use Rattle.jd_task.specs.Elements.{is_budget, is_collection, elements}
use Rattle.jd_task.specs.Running.{reading, spend, set, op_of, grown, decision, keep, begin_turn, value_of_flow, step_units}

-- the variables, with the units that are left up to the next operation; the answers that are still to come; the
-- operations that were asked
pub record Exchange : Type 0 where
  pub doing : Doing
  pub answers : List (Result Value Fault)
  pub asked : List Op

-- what came of a part of a body: a value, a fault, or that the operation asked last has no answer
pub data Came (A : Type 0) : Type 0 where
  Gave : A → Exchange → Came A
  Raised : Fault → Exchange → Came A
  Waited : Exchange → Came A

-- a part of a body
abbrev pub Direct : Type 0 → Type 0
Direct A = Exchange → Came A

abbrev pub and_then : {A B : Type 0} → Came A → (A → Direct B) → Came B
and_then (Gave a x) f = f a x
and_then (Raised e x) f = Raised e x
and_then (Waited x) f = Waited x

-- First p, then, where it gave a value, what f makes of that.
infixl 10 ◌>>=◌
abbrev pub ◌>>=◌ : {A B : Type 0} → Direct A → (A → Direct B) → Direct B
p >>= f = λ x. and_then (p x) f

infixl 10 ◌>>◌
abbrev pub ◌>>◌ : {A B : Type 0} → Direct A → Direct B → Direct B
p >> q = p >>= (λ _. q)

abbrev pub pure : {A : Type 0} → A → Direct A
pure a = λ x. Gave a x

abbrev pub raise : {A : Type 0} → Fault → Direct A
raise e = λ x. Raised e x

-- what an action that asks nothing gave
abbrev pub in_exchange : {A : Type 0} → Exchange → Ran Doing A → Came A
in_exchange x (Done a st) = Gave a (record { doing = st; answers = x.answers; asked = x.asked })
in_exchange x (Failed e st) = Raised e (record { doing = st; answers = x.answers; asked = x.asked })

-- what asks nothing, as a part of this
abbrev pub quietly : {A : Type 0} → Action Doing A → Direct A
quietly f = λ x. in_exchange x (f x.doing)

-- an answer is the value of its operation, or a fault that is raised there
abbrev pub returned : Result Value Fault → Direct Value
returned (Ok v) = pure v
returned (Err e) = raise e

-- Of the answers that are to come, the next one comes back, and the units of a step are there anew. Where none is to
-- come, the operation waits.
abbrev pub awaited : List (Result Value Fault) → Direct Value
awaited [] = λ x. Waited x
awaited (answer ∷ answers) = λ x.
    returned answer (record { doing = record { variables = x.doing.variables; left = step_units }; answers = answers; asked = x.asked })

-- an operation is asked, with the closure of its body, and gives its answer
abbrev pub ask : Operation → Option Body → List Value → Direct Value
ask operation body args = λ x.
    awaited x.answers (record { doing = x.doing; answers = x.answers; asked = x.asked ++ op_of operation body args x.doing.variables ∷ [] })

-- `name = x`, whose value is that of x
unfoldable pub assignment : List ℕ → Expr → Direct Flow
assignment name x = do
  v ← quietly (reading (evaluated x))
  quietly (set name v)
  pure (Next v)

-- `x`, which changes no variable
unfoldable pub expression : Expr → Direct Flow
expression x = do
  v ← quietly (reading (evaluated x))
  pure (Next v)

-- `push!(name, x)`, whose value is the new list
unfoldable pub push : List ℕ → Expr → Direct Flow
push name x = do
  v ← quietly (reading (evaluated x))
  list ← quietly (grown name v)
  quietly (set name list)
  pure (Next list)

-- the operands, then the operation, whose answer goes to the variable
unfoldable pub effect : List ℕ → Operation → Option Body → List Expr → Direct Flow
effect name operation body args = do
  values ← quietly (reading (all_evaluated args))
  v ← ask operation body values
  quietly (set name v)
  pure (Next v)

-- the next statement of a block, behind one that came to its end
abbrev pub goes_on : Flow → (Value → Direct Flow) → Direct Flow
goes_on (Next v) go = go v
goes_on Break go = pure Break
goes_on Continue go = pure Continue

-- what a loop does behind its block: it ends where that left it
abbrev pub stays : Flow → Direct Flow → Direct Flow
stays (Next v) go = go
stays Break go = pure (Next Nothing)
stays Continue go = go

-- What each statement does, and each turn of a `while` whose condition has held, with those behind it.
pub record Statements : Type 0 where
  pub exec : Stmt → Direct Flow
  pub again : Arm → Direct Flow

-- One level of statements, where those below it do what s says.
module _ (s : Statements) where
  -- statements one after the other, behind one with the value `last`
  abbrev pub run : Value → List Stmt → Direct Flow
  run last [] = pure (Next last)
  run last (x ∷ xs) = s.exec x >>= (λ flow. goes_on flow (λ v. run v xs))

  -- a block
  unfoldable pub block_run : Block → Direct Flow
  block_run block = run Nothing (out-Block block).stmts

  -- an `if`
  abbrev pub branch : List Arm → Block → Direct Flow
  branch [] other = block_run other
  branch (arm ∷ arms) other = do
    block_run (out-Arm arm).effects
    holds ← quietly (decision (out-Arm arm).test)
    if holds then block_run (out-Arm arm).block else branch arms other

  -- a `while`
  unfoldable pub while_holds : Arm → Direct Flow
  while_holds arm = do
    block_run (out-Arm arm).effects
    holds ← quietly (decision (out-Arm arm).test)
    if holds then s.again arm else pure (Next Nothing)

  -- a `while` whose condition has held, of which the unit is spent
  unfoldable pub turns : Arm → Direct Flow
  turns arm = do
    flow ← block_run (out-Arm arm).block
    stays flow (while_holds arm)

  -- a `for` over these elements
  abbrev pub over : List ℕ → Block → List Value → Direct Flow
  over name block [] = pure (Next Nothing)
  over name block (x ∷ xs) = do
    quietly (begin_turn name x)
    flow ← block_run block
    stays flow (over name block xs)

  -- a `for`
  unfoldable pub for_in : List ℕ → Expr → Block → Direct Flow
  for_in name x block = do
    collection ← quietly (reading (evaluated x))
    if is_collection collection then over name block (elements collection) else raise fault.BadType

  -- a fault that comes to a `catch`: it takes each one but that of the units
  unfoldable pub caught : Option (List ℕ) → Block → Fault → Direct Flow
  caught name handler e = if is_budget e then raise e else (quietly (keep name (Exception e)) >> block_run handler)

  -- how a `try` ends, by what came of its block
  abbrev pub handled : Option (List ℕ) → Block → Came Flow → Came Flow
  handled name handler (Gave flow x) = Gave flow x
  handled name handler (Raised e x) = caught name handler e x
  handled name handler (Waited x) = Waited x

  -- a `try`
  unfoldable pub attempt : Block → Option (List ℕ) → Block → Direct Flow
  attempt block name handler = λ x. handled name handler (block_run block x)

  abbrev pub statement_at : Stmt-F Stmt Arm Block Body → Direct Flow
  statement_at (Stmt-F.Set name x) = assignment name x
  statement_at (Stmt-F.Value x) = expression x
  statement_at (Stmt-F.Effect name operation body args) = effect name operation body args
  statement_at (Stmt-F.If arms other) = branch arms other
  statement_at (Stmt-F.While arm) = while_holds arm
  statement_at (Stmt-F.For name x block) = for_in name x block
  statement_at (Stmt-F.Try block name handler) = attempt block name handler
  statement_at Stmt-F.Break = pure Break
  statement_at Stmt-F.Continue = pure Continue
  statement_at (Stmt-F.Push name x) = push name x

  -- what stands in a statement, of which the unit is spent
  unfoldable pub statement : Stmt → Direct Flow
  statement x = statement_at (out-Stmt x)

-- Each statement, and each turn of a `while`, takes a unit before what stands below it. The number falls at each level,
-- so that this is a plain recursion; a number that is no less than all units, those of the steps to come too, is never
-- the first to come to 0.
unfoldable pub statements : ℕ → Statements
statements zero = record { exec = λ x. raise fault.Budget; again = λ arm. raise fault.Budget }
statements (suc k) = record { exec = λ x. quietly spend >> statement (statements k) x; again = λ arm. quietly spend >> turns (statements k) arm }

-- what a whole body did in all
abbrev pub course_of : Came Flow → Course
course_of (Gave flow x) = record { asked = x.asked; variables = x.doing.variables; end = Ended (Ok (value_of_flow flow)) }
course_of (Raised e x) = record { asked = x.asked; variables = x.doing.variables; end = Ended (Err e) }
course_of (Waited x) = record { asked = x.asked; variables = x.doing.variables; end = Waits }

-- the units of the first step, and of one more for each answer
abbrev pub units_of_all : List (Result Value Fault) → ℕ
units_of_all answers = step_units + step_units * length answers

-- A body runs once from its first statement to its last, with these variables and so many levels of statements; each
-- operation is answered by the answer that is next.
unfoldable pub run_through : ℕ → Body → Variables → List (Result Value Fault) → Course
run_through fuel body vars answers =
    course_of (run (statements fuel) Nothing (out-Block (out-Body body).block).stmts
    (record { doing = record { variables = vars; left = step_units }; answers = answers; asked = [] }))

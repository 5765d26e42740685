-- What an operation wants, as a process sees it that has so many workers round it and has noticed these losses.
use Rattle.std.specs.Prelude.{ℕ, ◌+◌, ◌&&◌, nat_le, ℤ, pos, negsuc, Bool, true, false, if◌then◌else◌, List, [], ◌∷◌, Option, Some, None, Result, Ok, Err}
use Rattle.jd_value.specs.declared.fault.Fault.TheVariants.{BadType, Argument, Exited}
use Rattle.jd_value.specs.declared.value.Value.{Value}
use Rattle.jd_value.specs.declared.value.Value.TheVariants.{Int, Text, Nothing, Future}
use Rattle.jd_value.specs.declared.operation.Operation.{Operation}
use Rattle.jd_value.specs.declared.operation.Operation.TheVariants as operation
use Rattle.jd_task.specs.declared.op.Op.{Op}
use Rattle.jd_task.specs.declared.closure.Closure.{Closure}
use Rattle.jd_model.specs.declared.asking.Asking.{Asking}
use Rattle.jd_model.specs.declared.asking.Asking.TheVariants.{Answers, Prints, Fetches, Calls}

-- A process that the cluster has: 1 and the workers behind it.
abbrev pub is_known : ℕ → ℕ → Bool
is_known workers p = nat_le 1 p && nat_le p (workers + 1)

-- A fetch of a future waits for its outcome; any other value is its own answer.
abbrev pub fetching : ℕ → List Value → Asking
fetching workers (Future r ∷ []) = if is_known workers r.owner then Fetches r else Answers (Err Argument)
fetching workers (v ∷ []) = Answers (Ok v)
fetching workers _ = Answers (Err BadType)

abbrev pub calling_at : ℕ → (ℕ → Bool) → ℕ → Closure → List Value → Asking
calling_at workers noticed p code args =
    if is_known workers p then (if noticed p then Answers (Err (Exited p)) else Calls p code args) else Answers (Err Argument)

-- A call names a process, and has a body.
abbrev pub calling : ℕ → (ℕ → Bool) → Option Closure → List Value → Asking
calling workers noticed (Some code) (Int (pos p) ∷ args) = calling_at workers noticed p code args
calling workers noticed (Some code) (Int (negsuc p) ∷ args) = Answers (Err Argument)
calling workers noticed _ _ = Answers (Err BadType)

-- Main alone prints.
abbrev pub printing : Bool → List Value → Asking
printing true args = Prints args
printing false args = Answers (Err Argument)

abbrev pub asking_of : ℕ → (ℕ → Bool) → Bool → Operation → Option Closure → List Value → Asking
asking_of workers noticed is_main operation.RemoteCall body args = calling workers noticed body args
asking_of workers noticed is_main operation.Fetch body args = fetching workers args
asking_of workers noticed is_main operation.Print body args = printing is_main args

unfoldable pub asking : ℕ → (ℕ → Bool) → Bool → Op → Asking
asking workers noticed is_main op = asking_of workers noticed is_main op.operation op.body op.args

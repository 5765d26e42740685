-- What is asked of a process is asked of one that the cluster has.
use Rattle.std.proofs.Common.{◌≡◌, ℕ, List, [], ◌∷◌, Option, Some, None, Bool, true, false, Err, refl, if◌then◌else◌}
use Rattle.jd_value.specs.declared.fault.Fault.TheVariants.{Argument, Exited}
use Rattle.jd_value.specs.declared.value.Value.{Value}
use Rattle.jd_value.specs.declared.value.Value.TheVariants.{Future}
use Rattle.jd_task.specs.declared.closure.Closure.{Closure}
use Rattle.jd_task.specs.declared.op.Op.{Op}
use Rattle.jd_model.specs.declared.asking.Asking.{Asking}
use Rattle.jd_model.specs.declared.asking.Asking.TheVariants as asking
use Rattle.std.specs.Prelude.{pos, negsuc}
use Rattle.jd_value.specs.declared.value.Value.TheVariants.{Int}
use Rattle.jd_value.specs.declared.operation.Operation.{Operation}
use Rattle.jd_value.specs.declared.operation.Operation.TheVariants as operation
use Rattle.jd_model.specs.Asking.{is_known, fetching, calling_at, calling, printing, asking_of, asking}

-- What is asked for is on a process of the cluster.
abbrev pub IsForKnown : ℕ → Asking → Type 0
IsForKnown workers (asking.Answers o) = Unit {0}
IsForKnown workers (asking.Prints values) = Unit {0}
IsForKnown workers (asking.Fetches r) = is_known workers r.owner ≡ true
IsForKnown workers (asking.Calls p code args) = is_known workers p ≡ true

known_fetch : (workers : ℕ) (args : List Value) → IsForKnown workers (fetching workers args)
known_fetch workers [] = tt
known_fetch workers (Future r ∷ []) = by_test (is_known workers r.owner) refl
  where
    by_test : (b : Bool) → is_known workers r.owner ≡ b → IsForKnown workers (if b then asking.Fetches r else asking.Answers (Err Argument))
    by_test true e = e
    by_test false e = tt
known_fetch workers (Future r ∷ x ∷ xs) = tt
known_fetch workers (v ∷ []) = tt
known_fetch workers (v ∷ x ∷ xs) = tt

known_call_at : (workers : ℕ) (noticed : ℕ → Bool) (p : ℕ) (code : Closure) (args : List Value) → IsForKnown workers (calling_at workers noticed p code args)
known_call_at workers noticed p code args = by_test (is_known workers p) (noticed p) refl
  where
    by_test : (b c : Bool) → is_known workers p ≡ b → IsForKnown workers (if b then (if c then asking.Answers (Err (Exited p)) else asking.Calls p code args) else asking.Answers (Err Argument))
    by_test true true e = tt
    by_test true false e = e
    by_test false c e = tt

known_call : (workers : ℕ) (noticed : ℕ → Bool) (body : Option Closure) (args : List Value) → IsForKnown workers (calling workers noticed body args)
known_call workers noticed None args = tt
known_call workers noticed (Some code) [] = tt
known_call workers noticed (Some code) (Int (pos p) ∷ args) = known_call_at workers noticed p code args
known_call workers noticed (Some code) (Int (negsuc p) ∷ args) = tt
known_call workers noticed (Some code) (v ∷ args) = tt

known_print : (workers : ℕ) (main : Bool) (args : List Value) → IsForKnown workers (printing main args)
known_print workers true args = tt
known_print workers false args = tt

known_of : (workers : ℕ) (noticed : ℕ → Bool) (main : Bool) (x : Operation) (body : Option Closure) (args : List Value) → IsForKnown workers (asking_of workers noticed main x body args)
known_of workers noticed main operation.RemoteCall body args = known_call workers noticed body args
known_of workers noticed main operation.Fetch body args = known_fetch workers args
known_of workers noticed main operation.Print body args = known_print workers main args

pub asks_known : (workers : ℕ) (noticed : ℕ → Bool) (main : Bool) (op : Op) → IsForKnown workers (asking workers noticed main op)
unfolding asking
asks_known workers noticed main op = known_of workers noticed main op.operation op.body op.args

-- Function values that do what statements of the level below do, and what the turns of a `while` do there.
use Rattle.std.specs.Prelude.{ℕ, Result}
use Rattle.std.specs.declared.alloc.Global.{Global}
use denote.Ref.{Bor, MutBor}
use Rattle.jd_value.specs.declared.tree.Stmt.{Stmt}
use Rattle.jd_value.specs.declared.tree.Arm.{Arm}
use Rattle.jd_expr.specs.declared.stop.Stop.{Stop}
use Rattle.jd_expr.specs.Action.{Gives}
use Rattle.jd_task.specs.declared.doing.Doing.{Doing}
use Rattle.jd_task.specs.declared.reached.Reached.{Reached}
use Rattle.jd_task.specs.Running.{steps}

pub record Executes (k : ℕ) (pre : Global → ℕ → Bor Stmt → MutBor Doing → Type 0)
    (post : Global → ℕ → Bor Stmt → MutBor Doing → Result Reached Stop → MutBor Doing → Type 0) : Type 0 where
  pub callable : (alloc : Global) (x : Bor Stmt) (old : MutBor Doing) → pre alloc k x old
  pub gives : (alloc : Global) (x : Bor Stmt) (old new : MutBor Doing) (r : Result Reached Stop)
      → post alloc k x old r new → Gives ((steps k).exec x.now old.now) r new.now

pub record Repeats (k : ℕ) (pre : Global → ℕ → Bor Arm → MutBor Doing → Type 0)
    (post : Global → ℕ → Bor Arm → MutBor Doing → Result Reached Stop → MutBor Doing → Type 0) : Type 0 where
  pub callable : (alloc : Global) (arm : Bor Arm) (old : MutBor Doing) → pre alloc k arm old
  pub gives : (alloc : Global) (arm : Bor Arm) (old new : MutBor Doing) (r : Result Reached Stop)
      → post alloc k arm old r new → Gives ((steps k).again arm.now old.now) r new.now

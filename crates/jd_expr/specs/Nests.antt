-- A function value that means the level below.
use Rattle.std.specs.Prelude.{ℕ, Result}
use Rattle.std.specs.declared.alloc.Global.{Global}
use denote.Ref.{Bor, MutBor}
use Rattle.jd_value.specs.declared.value.Value.{Value}
use Rattle.jd_value.specs.declared.expr.Expr.{Expr}
use Rattle.jd_expr.specs.declared.stop.Stop.{Stop}
use Rattle.jd_expr.specs.Action.{Gives}
use Rattle.jd_expr.specs.Meaning.{meaning}
use Rattle.jd_expr.specs.Variables.{Variables}

pub record Evaluates (k : ℕ) (pre : Global → ℕ → ℕ → Bor Variables → Bor Expr → MutBor ℕ → Type 0)
    (post : Global → ℕ → ℕ → Bor Variables → Bor Expr → MutBor ℕ → Result Value Stop → MutBor ℕ → Type 0) : Type 0 where
  pub callable : (alloc : Global) (calls : ℕ) (vars : Bor Variables) (x : Bor Expr) (old : MutBor ℕ) → pre alloc k calls vars x old
  pub gives : (alloc : Global) (calls : ℕ) (vars : Bor Variables) (x : Bor Expr) (old new : MutBor ℕ) (r : Result Value Stop)
      → post alloc k calls vars x old r new → Gives ((meaning k).eval calls vars.now x.now old.now) r new.now

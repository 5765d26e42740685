-- What expressions mean: their values or faults, and the units that are left.
use Rattle.std.specs.Prelude.{ℕ, zero, suc, Bool, true, false, List, [], ◌∷◌, ◌++◌, Result, Ok, Err, if◌then◌else◌}
use Rattle.jd_value.specs.declared.fault.Fault.{Fault}
use Rattle.jd_value.specs.declared.fault.Fault.TheVariants as fault
use Rattle.jd_value.specs.declared.value.Value.{Value}
use Rattle.jd_value.specs.declared.value.Value.TheVariants.{Int, True, False, Nothing, Text}
use Rattle.jd_value.specs.declared.builtin.Builtin.{Builtin}
use Rattle.jd_value.specs.declared.expr.Expr.{Expr, out-Expr}
use Rattle.jd_value.specs.declared.expr.Expr.TheOpen.{Expr-F}
use Rattle.jd_expr.specs.Action.{Action, ◌>>=◌, ◌>>◌, pure, fail, lift, unit}
use Rattle.jd_expr.specs.Arithmetic.{truth}
use Rattle.jd_expr.specs.Builtins.{builtin}
use Rattle.jd_expr.specs.Variables.{Variables, named}

-- What each expression means, with how many calls may still nest and the variables.
pub record Meaning : Type 0 where
  pub eval : ℕ → Variables → Expr → Action ℕ Value

-- What a condition gives: a truth value.
abbrev pub condition : Value → Result Bool Fault
condition True = Ok true
condition False = Ok false
condition _ = Err fault.BadType

-- One level of a tree, where the parts below it have the meaning m.
module _ (m : Meaning) where
  -- The values of a list of expressions, from left to right, behind those that are there.
  abbrev pub each_from : List Value → ℕ → Variables → List Expr → Action ℕ (List Value)
  each_from done calls vars [] = pure done
  each_from done calls vars (x ∷ xs) = m.eval calls vars x >>= (λ value. each_from (done ++ value ∷ []) calls vars xs)

  unfoldable pub each : ℕ → Variables → List Expr → Action ℕ (List Value)
  each = each_from []

  -- The arguments, then the function.
  unfoldable pub applied : ℕ → Variables → Builtin → List Expr → Action ℕ Value
  applied calls vars function args = do
    values ← each calls vars args
    builtin function values

  unfoldable pub decision : ℕ → Variables → Expr → Action ℕ Bool
  decision calls vars x = m.eval calls vars x >>= (λ value. lift (condition value))

  -- The left operand is tested; the right one is the answer as it is.
  unfoldable pub both : ℕ → Variables → Expr → Expr → Action ℕ Value
  both calls vars x y = do
    holds ← decision calls vars x
    if holds then m.eval calls vars y else pure False

  unfoldable pub either : ℕ → Variables → Expr → Expr → Action ℕ Value
  either calls vars x y = do
    holds ← decision calls vars x
    if holds then pure True else m.eval calls vars y

  unfoldable pub chosen : ℕ → Variables → Expr → Expr → Expr → Action ℕ Value
  chosen calls vars x y z = do
    holds ← decision calls vars x
    if holds then m.eval calls vars y else m.eval calls vars z

  abbrev pub node_at : ℕ → Variables → Expr-F Expr → Action ℕ Value
  node_at calls vars (Expr-F.Int n) = pure (Int n)
  node_at calls vars (Expr-F.Truth holds) = pure (truth holds)
  node_at calls vars Expr-F.Nothing = pure Nothing
  node_at calls vars (Expr-F.Text text) = pure (Text text)
  node_at calls vars (Expr-F.Name name) = lift (named name vars)
  node_at calls vars (Expr-F.Apply function args) = applied calls vars function args
  node_at calls vars (Expr-F.And x y) = both calls vars x y
  node_at calls vars (Expr-F.Or x y) = either calls vars x y
  node_at calls vars (Expr-F.Choose x y z) = chosen calls vars x y z

  unfoldable pub node : ℕ → Variables → Expr → Action ℕ Value
  node calls vars x = node_at calls vars (out-Expr x)

-- Each expression takes a unit before what stands below it. The number falls at each level, so that this is a plain
-- recursion; a number that is no less than the units is never the first to come to 0.
abbrev pub meaning : ℕ → Meaning
meaning zero = record { eval = λ calls vars x. fail fault.Budget }
meaning (suc k) = record { eval = λ calls vars x. unit >> node (meaning k) calls vars x }

-- How many calls may nest.
abbrev pub max_calls : ℕ
max_calls = 20

-- What an expression means.
abbrev pub evaluated : Expr → Variables → Action ℕ Value
evaluated x vars = λ n. (meaning n).eval max_calls vars x n

-- What a list of expressions means, from left to right.
abbrev pub all_evaluated : List Expr → Variables → Action ℕ (List Value)
all_evaluated xs vars = λ n. each (meaning n) max_calls vars xs n

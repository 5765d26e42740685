-- The names that a body uses and doesn't bind, and the values that a closure keeps of them.
use Rattle.std.specs.Prelude.{ℕ, Bool, List, [], ◌∷◌, ◌++◌, Option, None, Some, flat_map, unwrap_or, if◌then◌else◌}
use Rattle.std.specs.List.{list_any}
use Rattle.std.specs.Str.{bytes_eq}
use Rattle.jd_value.specs.declared.expr.Expr.{Expr, fold-Expr}
use Rattle.jd_value.specs.declared.expr.Expr.TheOpen.{Expr-F}
use Rattle.jd_value.specs.declared.tree.Body.{Body, fold-Body}
use Rattle.jd_value.specs.declared.tree.Arm.{Arm, fold-Arm}
use Rattle.jd_value.specs.declared.tree.Block.{Block, fold-Block}
use Rattle.jd_value.specs.declared.tree.Stmt.{Stmt, fold-Stmt}
use Rattle.jd_value.specs.declared.tree.Stmt.TheOpen.{Stmt-F, Arm-F, Body-F, Block-F}
use Rattle.jd_value.specs.declared.value.Value.{Value}
use Rattle.jd_expr.specs.Variables.{Variables, value_of}
use Rattle.jd_task.specs.declared.closure.Closure.{Closure}

-- names, in an order
abbrev pub Texts : Type 0
Texts = List (List ℕ)

-- one level of an expression, where its parts read these variables
abbrev pub names_at : Expr-F Texts → Texts
names_at (Expr-F.Int n) = []
names_at (Expr-F.Truth truth) = []
names_at Expr-F.Nothing = []
names_at (Expr-F.Text text) = []
names_at (Expr-F.Name name) = name ∷ []
names_at (Expr-F.Apply function parts) = flat_map (λ part. part) parts
names_at (Expr-F.And a b) = a ++ b
names_at (Expr-F.Or a b) = a ++ b
names_at (Expr-F.Choose test a b) = test ++ a ++ b

-- the variables that an expression reads, from left to right
abbrev pub names_of : Expr → Texts
names_of = fold-Expr Texts names_at

-- whether a name is one of these
abbrev pub is_among : List ℕ → Texts → Bool
is_among name names = list_any (bytes_eq name) names

-- the names of a list that aren't bound, each where it stands first
abbrev pub first_uses : Texts → Texts → Texts
first_uses bound [] = []
first_uses bound (name ∷ names) = if is_among name bound then first_uses bound names else name ∷ first_uses (bound ++ name ∷ []) names

-- the names that a statement or a block uses, in their order, and those to which it gives values
pub record Uses : Type 0 where
  pub used : Texts
  pub bound : Texts

-- those that it uses
abbrev pub used_of : Uses → Texts
used_of uses = uses.used

-- those to which it gives values
abbrev pub bound_of : Uses → Texts
bound_of uses = uses.bound

-- a name, if there is one
abbrev pub name_in : Option (List ℕ) → Texts
name_in None = []
name_in (Some name) = name ∷ []

-- a statement, where a body inside it uses the names that are free in it
abbrev pub stmt_uses : Stmt-F Uses Uses Uses Texts → Uses
stmt_uses (Stmt-F.Set name x) = record { used = names_of x; bound = name ∷ [] }
stmt_uses (Stmt-F.Value x) = record { used = names_of x; bound = [] }
stmt_uses (Stmt-F.Effect name operation body args) = record { used = unwrap_or body [] ++ flat_map names_of args; bound = name ∷ [] }
stmt_uses (Stmt-F.If arms other) = record { used = flat_map used_of arms ++ other.used; bound = flat_map bound_of arms ++ other.bound }
stmt_uses (Stmt-F.While arm) = arm
stmt_uses (Stmt-F.For name x block) = record { used = names_of x ++ block.used; bound = name ∷ block.bound }
stmt_uses (Stmt-F.Try block name handler) = record { used = block.used ++ handler.used; bound = name_in name ++ (block.bound ++ handler.bound) }
stmt_uses Stmt-F.Break = record { used = []; bound = [] }
stmt_uses Stmt-F.Continue = record { used = []; bound = [] }
stmt_uses (Stmt-F.Push name x) = record { used = names_of x; bound = name ∷ [] }

-- an arm: what is done before the test, the test, and the block
abbrev pub arm_uses : Arm-F Uses Uses Uses Texts → Uses
arm_uses arm = record { used = arm.effects.used ++ (names_of arm.test ++ arm.block.used); bound = arm.effects.bound ++ arm.block.bound }

-- a block, by its statements
abbrev pub block_uses : Block-F Uses Uses Uses Texts → Uses
block_uses block = record { used = flat_map used_of block.stmts; bound = flat_map bound_of block.stmts }

-- a body: the parameters are bound too, wherever the names stand in it
abbrev pub body_uses : Body-F Uses Uses Uses Texts → Texts
body_uses body = first_uses (body.parameters ++ body.block.bound) body.block.used

-- what a statement uses and binds
abbrev pub uses_of : Stmt → Uses
uses_of = fold-Stmt Uses Uses Uses Texts stmt_uses arm_uses block_uses body_uses

-- what an arm and a block use and bind
abbrev pub arm_uses_of : Arm → Uses
arm_uses_of = fold-Arm Uses Uses Uses Texts stmt_uses arm_uses block_uses body_uses

abbrev pub block_uses_of : Block → Uses
block_uses_of = fold-Block Uses Uses Uses Texts stmt_uses arm_uses block_uses body_uses

-- the names that a body uses and doesn't bind, in the order of their first use
abbrev pub free_names : Body → Texts
free_names = fold-Body Uses Uses Uses Texts stmt_uses arm_uses block_uses body_uses

-- a variable with its value, if it has one
abbrev pub kept : List ℕ → Option Value → Variables
kept name None = []
kept name (Some v) = record { name = name; value = v } ∷ []

-- the variables of these names that have a value
abbrev pub variables_named : Texts → Variables → Variables
variables_named names vars = flat_map (λ name. kept name (value_of name vars)) names

-- a body with what its free names stand for among these variables
abbrev pub closure_of : Variables → Body → Closure
closure_of vars body = record { body = body; kept = variables_named (free_names body) vars }

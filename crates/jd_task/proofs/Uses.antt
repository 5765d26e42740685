-- The names of a tree by those of its parts.
use Rattle.std.proofs.Common.{◌≡◌, ℕ, List, [], ◌∷◌, ◌++◌, map, flat_map, Result, Ok, Err, append_assoc, refl, ap, sym, ◌∙◌}
use Rattle.std.specs.Prelude.{Option, OnOk}
use Rattle.jd_value.specs.declared.builtin.Builtin.{Builtin}
use Rattle.jd_value.specs.declared.expr.Expr.{Expr, fold-roll-Expr}
use Rattle.jd_value.specs.declared.expr.Expr.TheOpen.{Expr-F}
use Rattle.jd_value.specs.declared.expr.Expr.TheVariants as x
use Rattle.jd_value.specs.declared.tree.Arm.{Arm, fold_out-Arm, out-Arm}
use Rattle.jd_value.specs.declared.tree.Body.{Body, fold_out-Body, out-Body}
use Rattle.jd_value.specs.declared.tree.Block.{Block, fold_out-Block, out-Block}
use Rattle.jd_value.specs.declared.tree.Stmt.{Stmt, fold-roll-Stmt}
use Rattle.jd_value.specs.declared.tree.Stmt.TheOpen.{Stmt-F}
use Rattle.jd_value.specs.declared.tree.Stmt.TheVariants as t
use Rattle.jd_task.specs.Names.{Texts, Uses, names_at, names_of, name_in, first_uses, used_of, bound_of, uses_of, arm_uses_of, block_uses_of, free_names, stmt_uses, arm_uses, block_uses, body_uses}

gathered : {A B : Type 0} (g : A → B) (f : B → Texts) (xs : List A) → flat_map f (map g xs) ≡ flat_map (λ x. f (g x)) xs
gathered g f [] = refl
gathered g f (x ∷ xs) = ap (λ rest. f (g x) ++ rest) (gathered g f xs)

pub names_apply : (function : Builtin) (args : List Expr) → names_of (x.Apply function args) ≡ flat_map names_of args
names_apply function args =
    ap names_of (sym (x.rolls-Apply function args)) ∙ fold-roll-Expr Texts names_at (Expr-F.Apply function args) ∙ gathered names_of (λ part. part) args

-- what a block uses and binds, by its statements
pub used_in_block : (block : Block) → used_of (block_uses_of block) ≡ flat_map (λ stmt. used_of (uses_of stmt)) (out-Block block).stmts
used_in_block block =
    ap used_of (fold_out-Block Uses Uses Uses Texts stmt_uses arm_uses block_uses body_uses block) ∙ gathered uses_of used_of (out-Block block).stmts

pub bound_in_block : (block : Block) → bound_of (block_uses_of block) ≡ flat_map (λ stmt. bound_of (uses_of stmt)) (out-Block block).stmts
bound_in_block block =
    ap bound_of (fold_out-Block Uses Uses Uses Texts stmt_uses arm_uses block_uses body_uses block) ∙ gathered uses_of bound_of (out-Block block).stmts

-- an arm
pub used_in_arm : (arm : Arm) → used_of (arm_uses_of arm)
    ≡ used_of (block_uses_of (out-Arm arm).effects) ++ (names_of (out-Arm arm).test ++ used_of (block_uses_of (out-Arm arm).block))
used_in_arm arm = ap used_of (fold_out-Arm Uses Uses Uses Texts stmt_uses arm_uses block_uses body_uses arm)

pub bound_in_arm : (arm : Arm) → bound_of (arm_uses_of arm) ≡ bound_of (block_uses_of (out-Arm arm).effects) ++ bound_of (block_uses_of (out-Arm arm).block)
bound_in_arm arm = ap bound_of (fold_out-Arm Uses Uses Uses Texts stmt_uses arm_uses block_uses body_uses arm)

-- an `if`
pub used_in_if : (arms : List Arm) (other : Block) → used_of (uses_of (t.If arms other)) ≡ flat_map (λ arm. used_of (arm_uses_of arm)) arms ++ used_of (block_uses_of other)
used_in_if arms other =
    ap (λ stmt. used_of (uses_of stmt)) (sym (t.rolls-If arms other)) ∙ ap used_of (fold-roll-Stmt Uses Uses Uses Texts stmt_uses arm_uses block_uses body_uses (Stmt-F.If arms other))
    ∙ ap (λ names. names ++ used_of (block_uses_of other)) (gathered arm_uses_of used_of arms)

pub bound_in_if : (arms : List Arm) (other : Block) → bound_of (uses_of (t.If arms other)) ≡ flat_map (λ arm. bound_of (arm_uses_of arm)) arms ++ bound_of (block_uses_of other)
bound_in_if arms other =
    ap (λ stmt. bound_of (uses_of stmt)) (sym (t.rolls-If arms other)) ∙ ap bound_of (fold-roll-Stmt Uses Uses Uses Texts stmt_uses arm_uses block_uses body_uses (Stmt-F.If arms other))
    ∙ ap (λ names. names ++ bound_of (block_uses_of other)) (gathered arm_uses_of bound_of arms)

-- a `for` and a `try`
pub used_in_for : (name : List ℕ) (y : Expr) (block : Block) → used_of (uses_of (t.For name y block)) ≡ names_of y ++ used_of (block_uses_of block)
used_in_for name y block =
    ap (λ stmt. used_of (uses_of stmt)) (sym (t.rolls-For name y block)) ∙ ap used_of (fold-roll-Stmt Uses Uses Uses Texts stmt_uses arm_uses block_uses body_uses (Stmt-F.For name y block))

pub used_in_try : (block : Block) (name : Option (List ℕ)) (handler : Block) → used_of (uses_of (t.Try block name handler)) ≡ used_of (block_uses_of block) ++ used_of (block_uses_of handler)
used_in_try block name handler =
    ap (λ stmt. used_of (uses_of stmt)) (sym (t.rolls-Try block name handler)) ∙ ap used_of (fold-roll-Stmt Uses Uses Uses Texts stmt_uses arm_uses block_uses body_uses (Stmt-F.Try block name handler))

pub bound_in_try : (block : Block) (name : Option (List ℕ)) (handler : Block) → bound_of (uses_of (t.Try block name handler))
    ≡ name_in name ++ (bound_of (block_uses_of block) ++ bound_of (block_uses_of handler))
bound_in_try block name handler =
    ap (λ stmt. bound_of (uses_of stmt)) (sym (t.rolls-Try block name handler)) ∙ ap bound_of (fold-roll-Stmt Uses Uses Uses Texts stmt_uses arm_uses block_uses body_uses (Stmt-F.Try block name handler))

-- names in two parts
pub two_parts : {A E : Type 0} (old first second a b whole : Texts) (r : Result A E) → whole ≡ a ++ b → first ≡ old ++ a → OnOk r (second ≡ first ++ b) → OnOk r (second ≡ old ++ whole)
two_parts old first second a b whole (Ok u) w f h =
    h ∙ ap (λ names. names ++ b) f ∙ append_assoc old a b ∙ ap (λ names. old ++ names) (sym w)
two_parts old first second a b whole (Err e) w f h = h

pub ruleset uses = (used_in_block, used_in_arm)

pub free_of : (body : Body) → free_names body
    ≡ first_uses ((out-Body body).parameters ++ bound_of (block_uses_of (out-Body body).block)) (used_of (block_uses_of (out-Body body).block))
free_of body = fold_out-Body Uses Uses Uses Texts stmt_uses arm_uses block_uses body_uses body

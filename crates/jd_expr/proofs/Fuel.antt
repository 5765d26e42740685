-- A number of levels that is no less than the units plays no part.
use Rattle.std.proofs.Common.{◌≡◌, ℕ, zero, suc, ◌-◌, ◌<◌, ◌≤◌, ◌==◌, Bool, true, false, if◌then◌else◌, List, [], ◌∷◌, ◌++◌, Ok, Err, refl, sym, ap, ◌∙◌, subst, arith}
use Rattle.std.proofs.lemmas.Grind.{common_steps}
use Rattle.std.specs.Prelude.{Result}
use Rattle.jd_value.specs.declared.fault.Fault.{Fault}
use Rattle.jd_value.specs.declared.fault.Fault.TheVariants as fault
use Rattle.jd_value.specs.declared.value.Value.{Value}
use Rattle.jd_value.specs.declared.value.Value.TheVariants.{True, False}
use Rattle.jd_value.specs.declared.builtin.Builtin.{Builtin}
use Rattle.jd_value.specs.declared.expr.Expr.{Expr, out-Expr}
use Rattle.jd_value.specs.declared.expr.Expr.TheOpen.{Expr-F}
use Rattle.jd_expr.specs.Action.{Action, Ran, Done, Failed, and_then, pure, lift, lift_to, unit}
use Rattle.jd_expr.specs.Builtins.{builtin}
use Rattle.jd_expr.specs.Variables.{Variables, named}
use Rattle.jd_expr.specs.Meaning.{Meaning, meaning, condition, each_from, each, applied, decision, both, either, chosen, node_at, node}
use Rattle.jd_expr.proofs.Spending.{Within, within_le, spends_builtin}

-- two runs are one, and leave no more than there was
abbrev pub Agrees : {A : Type 0} → ℕ → Ran ℕ A → Ran ℕ A → Type 0
Agrees n r s = (r ≡ s) × Within n r

pub bound_agrees : {A B : Type 0} (n : ℕ) (r : Ran ℕ A) (f g : A → Action ℕ B) → Within n r
    → ((a : A) (m : ℕ) → m ≤ n → Agrees m (f a m) (g a m)) → Agrees n (and_then r f) (and_then r g)
bound_agrees n (Done a m) f g w h = let x = h a m w in (x.0, within_le m n (f a m) w x.1)
bound_agrees n (Failed e m) f g w h = (refl, w)

pub then_agrees : {A B : Type 0} (n : ℕ) (r s : Ran ℕ A) (f g : A → Action ℕ B) → Agrees n r s
    → ((a : A) (m : ℕ) → m ≤ n → Agrees m (f a m) (g a m)) → Agrees n (and_then r f) (and_then s g)
then_agrees n r s f g e h = let x = bound_agrees n r f g e.1 h in (x.0 ∙ ap (λ q. and_then q g) e.0, x.1)

-- two meanings are one on so many units
abbrev pub AreOne : ℕ → Meaning → Meaning → Type 0
AreOne n m k = (calls : ℕ) (vars : Variables) (x : Expr) (u : ℕ) → u ≤ n → Agrees u (m.eval calls vars x u) (k.eval calls vars x u)

pub each_agrees : (m k : Meaning) (n : ℕ) → AreOne n m k → (done : List Value) (calls : ℕ) (vars : Variables) (xs : List Expr) (u : ℕ) → u ≤ n
    → Agrees u (each_from m done calls vars xs u) (each_from k done calls vars xs u)
each_agrees m k n h done calls vars [] u le = (refl, omega arith)
each_agrees m k n h done calls vars (x ∷ xs) u le =
    then_agrees u (m.eval calls vars x u) (k.eval calls vars x u)
    (λ value. each_from m (done ++ value ∷ []) calls vars xs)
    (λ value. each_from k (done ++ value ∷ []) calls vars xs)
    (h calls vars x u le)
    (λ value v below. each_agrees m k n h (done ++ value ∷ []) calls vars xs v (omega (arith, below, le)))

pub lift_agrees : {A : Type 0} (r : Result A Fault) (n : ℕ) → Agrees n (lift_to n r) (lift_to n r)
lift_agrees (Ok a) n = (refl, omega arith)
lift_agrees (Err e) n = (refl, omega arith)

pub applied_agrees : (m k : Meaning) (n : ℕ) → AreOne n m k → (calls : ℕ) (vars : Variables) (f : Builtin) (xs : List Expr) (u : ℕ) → u ≤ n
    → Agrees u (applied m calls vars f xs u) (applied k calls vars f xs u)
unfolding applied each
applied_agrees m k n h calls vars f xs u le =
    then_agrees u (each_from m [] calls vars xs u) (each_from k [] calls vars xs u)
    (builtin f) (builtin f)
    (each_agrees m k n h [] calls vars xs u le)
    (λ values v below. (refl, spends_builtin f values v))

test_agrees : (m k : Meaning) (n : ℕ) → AreOne n m k → (calls : ℕ) (vars : Variables) (x : Expr) (u : ℕ) → u ≤ n
    → Agrees u (decision m calls vars x u) (decision k calls vars x u)
unfolding decision
test_agrees m k n h calls vars x u le =
    then_agrees u (m.eval calls vars x u) (k.eval calls vars x u)
    (λ value. lift (condition value)) (λ value. lift (condition value))
    (h calls vars x u le)
    (λ value v below. lift_agrees (condition value) v)

pure_agrees : (n : ℕ) (value : Value) → Agrees n (Done value n) (Done value n)
pure_agrees n value = (refl, omega arith)

-- what follows a test
branch_agrees : (m k : Meaning) (n : ℕ) → AreOne n m k → (calls : ℕ) (vars : Variables) (x : Expr) (f g : Bool → Action ℕ Value) (u : ℕ) → u ≤ n
    → ((v : ℕ) → v ≤ n → Agrees v (f true v) (g true v)) → ((v : ℕ) → v ≤ n → Agrees v (f false v) (g false v))
    → Agrees u (and_then (decision m calls vars x u) f) (and_then (decision k calls vars x u) g)
branch_agrees m k n h calls vars x f g u le first second =
    then_agrees u (decision m calls vars x u) (decision k calls vars x u) f g
    (test_agrees m k n h calls vars x u le)
    (λ holds v below. elim holds as (λ b. Agrees v (f b v) (g b v)) [
      | true ↦ first v (omega (arith, below, le))
      | false ↦ second v (omega (arith, below, le))
    ])

both_agrees : (m k : Meaning) (n : ℕ) → AreOne n m k → (calls : ℕ) (vars : Variables) (x y : Expr) (u : ℕ) → u ≤ n
    → Agrees u (both m calls vars x y u) (both k calls vars x y u)
unfolding both
both_agrees m k n h calls vars x y u le =
    branch_agrees m k n h calls vars x
    (λ holds. if holds then m.eval calls vars y else pure False) (λ holds. if holds then k.eval calls vars y else pure False) u le
    (λ v below. h calls vars y v below) (λ v below. pure_agrees v False)

either_agrees : (m k : Meaning) (n : ℕ) → AreOne n m k → (calls : ℕ) (vars : Variables) (x y : Expr) (u : ℕ) → u ≤ n
    → Agrees u (either m calls vars x y u) (either k calls vars x y u)
unfolding either
either_agrees m k n h calls vars x y u le =
    branch_agrees m k n h calls vars x
    (λ holds. if holds then pure True else m.eval calls vars y) (λ holds. if holds then pure True else k.eval calls vars y) u le
    (λ v below. pure_agrees v True) (λ v below. h calls vars y v below)

chosen_agrees : (m k : Meaning) (n : ℕ) → AreOne n m k → (calls : ℕ) (vars : Variables) (x y z : Expr) (u : ℕ) → u ≤ n
    → Agrees u (chosen m calls vars x y z u) (chosen k calls vars x y z u)
unfolding chosen
chosen_agrees m k n h calls vars x y z u le =
    branch_agrees m k n h calls vars x
    (λ holds. if holds then m.eval calls vars y else m.eval calls vars z) (λ holds. if holds then k.eval calls vars y else k.eval calls vars z) u le
    (λ v below. h calls vars y v below) (λ v below. h calls vars z v below)

pub node_at_agrees : (m k : Meaning) (n : ℕ) → AreOne n m k → (calls : ℕ) (vars : Variables) (x : Expr-F Expr) (u : ℕ) → u ≤ n
    → Agrees u (node_at m calls vars x u) (node_at k calls vars x u)
node_at_agrees m k n h calls vars (Expr-F.Int i) u le = (refl, omega arith)
node_at_agrees m k n h calls vars (Expr-F.Truth holds) u le = (refl, omega arith)
node_at_agrees m k n h calls vars Expr-F.Nothing u le = (refl, omega arith)
node_at_agrees m k n h calls vars (Expr-F.Text text) u le = (refl, omega arith)
node_at_agrees m k n h calls vars (Expr-F.Name name) u le = lift_agrees (named name vars) u
node_at_agrees m k n h calls vars (Expr-F.Apply f xs) u le = applied_agrees m k n h calls vars f xs u le
node_at_agrees m k n h calls vars (Expr-F.And x y) u le = both_agrees m k n h calls vars x y u le
node_at_agrees m k n h calls vars (Expr-F.Or x y) u le = either_agrees m k n h calls vars x y u le
node_at_agrees m k n h calls vars (Expr-F.Choose x y z) u le = chosen_agrees m k n h calls vars x y z u le

pub node_agrees : (m k : Meaning) (n : ℕ) → AreOne n m k → (calls : ℕ) (vars : Variables) (x : Expr) (u : ℕ) → u ≤ n
    → Agrees u (node m calls vars x u) (node k calls vars x u)
unfolding node
node_agrees m k n h calls vars x u le = node_at_agrees m k n h calls vars (out-Expr x) u le

-- a unit, and then what agrees on one less
pub unit_agrees : {A : Type 0} (n : ℕ) (f g : Action ℕ A) → ((u : ℕ) → suc u ≤ n → Agrees u (f u) (g u)) → Agrees n (and_then (unit n) (λ _. f)) (and_then (unit n) (λ _. g))
unit_agrees n f g h =
    elim (n == 0) as (λ b. n == 0 ≡ b →
    Agrees n (and_then (if b then Failed fault.Budget n else Done (tt {0}) (n - 1)) (λ _. f)) (and_then (if b then Failed fault.Budget n else Done (tt {0}) (n - 1)) (λ _. g))) [
      | true ↦ λ e. (refl, omega arith)
      | false ↦ λ e. let some : 0 < n = grind (arith, common_steps, e) in
          let x = h (n - 1) (omega (arith, some)) in (x.0, within_le (n - 1) n (f (n - 1)) (omega arith) x.1)
    ] refl

-- where no unit is left
pub unit_none : {A : Type 0} (n : ℕ) (f : Action ℕ A) → n ≤ 0 → and_then (unit n) (λ _. f) ≡ Failed fault.Budget n
unit_none n f h = let none : n ≡ 0 = omega (arith, h) in
    let P : ℕ → Type 0 = λ k. and_then (unit k) (λ _. f) ≡ Failed fault.Budget k in subst P (sym none) refl

pub are_one : (k j n : ℕ) → n ≤ k → n ≤ j → AreOne n (meaning k) (meaning j)
are_one zero zero n hk hj calls vars x u le = (refl, omega arith)
are_one zero (suc j) n hk hj calls vars x u le = (sym (unit_none u (node (meaning j) calls vars x) (omega (arith, hk, le))), omega arith)
are_one (suc k) zero n hk hj calls vars x u le =
    let e = unit_none u (node (meaning k) calls vars x) (omega (arith, hj, le)) in
    (e, let P : Ran ℕ Value → Type 0 = Within u in subst P (sym e) (omega arith))
are_one (suc k) (suc j) n hk hj calls vars x u le =
    unit_agrees u (node (meaning k) calls vars x) (node (meaning j) calls vars x)
    (λ v below. node_agrees (meaning k) (meaning j) v (are_one k j v (omega (arith, below, le, hk)) (omega (arith, below, le, hj))) calls vars x v (omega arith))

pub same_meaning : (fuel units calls : ℕ) (vars : Variables) (x : Expr) → units ≤ fuel → (meaning fuel).eval calls vars x units ≡ (meaning units).eval calls vars x units
same_meaning fuel units calls vars x h = (are_one fuel units units h (omega arith) calls vars x units (omega arith)).0

-- A number of levels that is no less than the units plays no part.
use Rattle.std.proofs.Common.{◌≡◌, ℕ, zero, suc, ◌+◌, ◌-◌, ◌<◌, ◌≤◌, ◌==◌, Bool, true, false, if◌then◌else◌, List, [], ◌∷◌, ◌++◌, Result, Ok, Err, refl, sym, ap, ◌∙◌, subst, arith}
use Rattle.std.proofs.lemmas.Grind.{common_steps}
use Rattle.std.specs.Prelude.{Option, None, Some}
use Rattle.jd_value.specs.declared.fault.Fault.{Fault}
use Rattle.jd_value.specs.declared.fault.Fault.TheVariants as fault
use Rattle.jd_value.specs.declared.value.Value.{Value}
use Rattle.jd_value.specs.declared.value.Value.TheVariants.{Nothing, Exception}
use Rattle.jd_value.specs.declared.operation.Operation.{Operation}
use Rattle.jd_value.specs.declared.expr.Expr.{Expr}
use Rattle.jd_value.specs.declared.tree.Arm.{Arm, out-Arm}
use Rattle.jd_value.specs.declared.tree.Stmt.{Stmt, out-Stmt}
use Rattle.jd_value.specs.declared.tree.Stmt.TheOpen.{Stmt-F}
use Rattle.jd_value.specs.declared.tree.Body.{Body}
use Rattle.jd_value.specs.declared.tree.Block.{Block, out-Block}
use Rattle.jd_expr.specs.Action.{Action, Ran, Done, Failed, and_then, ◌>>=◌, ◌>>◌, pure, fail, lift_to, unit}
use Rattle.jd_expr.specs.Meaning.{meaning, evaluated, all_evaluated, each, max_calls}
use Rattle.jd_expr.specs.Variables.{Variables, named}
use Rattle.jd_expr.proofs.Fuel as of_expressions
use Rattle.jd_expr.proofs.Spending as spending
use Rattle.jd_task.specs.declared.doing.Doing.{Doing}
use Rattle.jd_task.specs.declared.flow.Flow.{Flow}
use Rattle.jd_task.specs.declared.flow.Flow.TheVariants.{Next}
use Rattle.jd_task.specs.declared.frame.Frame.{Frame}
use Rattle.jd_task.specs.declared.frame.Frame.TheVariants.{Seq, Branch, Condition, Loop, Each, Catch}
use Rattle.jd_task.specs.declared.reached.Reached.{Reached}
use Rattle.jd_task.specs.declared.reached.Reached.TheVariants.{Went, Asks}
use Rattle.jd_task.specs.Elements.{truth, is_budget, is_collection, elements}
use Rattle.jd_task.specs.Pushing.{pushed}
use Rattle.jd_task.specs.Running.{Steps, steps, beside, reading, spend, set, assignment, expression, effect, grown, push, decision, keep, begin_turn, inside, inside_part, otherwise, left, stays, next_in, behind, next, run_from, run, taken, arm_at, branch_from, held, condition, once, turns, while_holds, with_element, over, for_in, caught, handled, attempt, statement_at, statement}

-- no more units are left than there were
abbrev pub Within : {A : Type 0} → ℕ → Ran Doing A → Type 0
Within n (Done a st) = st.left ≤ n
Within n (Failed e st) = st.left ≤ n

pub within_le : {A : Type 0} (n m : ℕ) (r : Ran Doing A) → n ≤ m → Within n r → Within m r
within_le n m (Done a st) h w = omega (arith, h, w)
within_le n m (Failed e st) h w = omega (arith, h, w)

-- two runs are one, and leave no more than there was
abbrev pub Agrees : {A : Type 0} → ℕ → Ran Doing A → Ran Doing A → Type 0
Agrees n r s = (r ≡ s) × Within n r

-- what expressions leave
pub evaluated_within : (x : Expr) (vars : Variables) (n : ℕ) → spending.Within n (evaluated x vars n)
evaluated_within x vars n = (of_expressions.are_one n n n (omega arith) (omega arith) max_calls vars x n (omega arith)).1

pub all_evaluated_within : (xs : List Expr) (vars : Variables) (n : ℕ) → spending.Within n (all_evaluated xs vars n)
unfolding each
all_evaluated_within xs vars n =
    (of_expressions.each_agrees (meaning n) (meaning n) n (of_expressions.are_one n n n (omega arith) (omega arith)) [] max_calls vars xs n (omega arith)).1

-- what comes after what was read
then_within : {A B : Type 0} (n : ℕ) (vars : Variables) (r : Ran ℕ A) (f : A → Action Doing B) → spending.Within n r
    → ((a : A) (st : Doing) → st.left ≤ n → Within n (f a st)) → Within n (and_then (beside vars r) f)
then_within n vars (Done a m) f w h = h a (record { variables = vars; left = m }) w
then_within n vars (Failed e m) f w h = w

pub assignment_within : (name : List ℕ) (x : Expr) (st : Doing) → Within st.left (assignment name x st)
unfolding assignment
assignment_within name x st =
    then_within st.left st.variables (evaluated x st.variables st.left) _ (evaluated_within x st.variables st.left) (λ v after h. h)

pub expression_within : (x : Expr) (st : Doing) → Within st.left (expression x st)
unfolding expression
expression_within x st =
    then_within st.left st.variables (evaluated x st.variables st.left) _ (evaluated_within x st.variables st.left) (λ v after h. h)

pub effect_within : (name : List ℕ) (operation : Operation) (body : Option Body) (args : List Expr) (st : Doing) → Within st.left (effect name operation body args st)
unfolding effect
effect_within name operation body args st =
    then_within st.left st.variables (all_evaluated args st.variables st.left) _ (all_evaluated_within args st.variables st.left) (λ values after h. h)

-- what is read, by itself
pub beside_within : {A : Type 0} (n : ℕ) (vars : Variables) (r : Ran ℕ A) → spending.Within n r → Within n (beside vars r)
beside_within n vars (Done a m) w = w
beside_within n vars (Failed e m) w = w

pub reading_within : (x : Expr) (st : Doing) → Within st.left (reading (evaluated x) st)
reading_within x st = beside_within st.left st.variables (evaluated x st.variables st.left) (evaluated_within x st.variables st.left)

lift_within : {A : Type 0} (r : Result A Fault) (st : Doing) → Within st.left (lift_to st r)
lift_within (Ok a) st = omega arith
lift_within (Err e) st = omega arith

pub decision_within : (x : Expr) (st : Doing) → Within st.left (decision x st)
unfolding decision
decision_within x st =
    then_within st.left st.variables (evaluated x st.variables st.left) _ (evaluated_within x st.variables st.left)
    (λ v after h. within_le after.left st.left (lift_to after (truth v)) h (lift_within (truth v) after))

pub keep_within : (name : Option (List ℕ)) (v : Value) (st : Doing) → Within st.left (keep name v st)
keep_within None v st = omega arith
keep_within (Some name) v st = omega arith

-- two actions do the same where so many units are left
abbrev pub Alike : {A : Type 0} → ℕ → Action Doing A → Action Doing A → Type 0
Alike n f g = (st : Doing) → st.left ≤ n → Agrees st.left (f st) (g st)

alike_self : {A : Type 0} (n : ℕ) (f : Action Doing A) → ((st : Doing) → Within st.left (f st)) → Alike n f f
alike_self n f h st le = (refl, h st)

alike_pure : {A : Type 0} (n : ℕ) (a : A) → Alike n (pure a) (pure a)
alike_pure n a st le = (refl, omega arith)

bound_agrees : {A B : Type 0} (n : ℕ) (r : Ran Doing A) (f g : A → Action Doing B) → Within n r → ((a : A) → Alike n (f a) (g a)) → Agrees n (and_then r f) (and_then r g)
bound_agrees n (Done a st) f g w h = let x = h a st w in (x.0, within_le st.left n (f a st) w x.1)
bound_agrees n (Failed e st) f g w h = (refl, w)

less_alike : {A : Type 0} (n m : ℕ) (f g : Action Doing A) → m ≤ n → Alike n f g → Alike m f g
less_alike n m f g le h st below = h st (omega (arith, below, le))

-- one after the other
alike_then : {A B : Type 0} (n : ℕ) (p q : Action Doing A) (f g : A → Action Doing B) → Alike n p q → ((a : A) → Alike n (f a) (g a)) → Alike n (p >>= f) (q >>= g)
alike_then n p q f g h k st le =
    let e = h st le in
    let x = bound_agrees st.left (p st) f g e.1 (λ a. less_alike n st.left (f a) (g a) le (k a)) in
    (x.0 ∙ ap (λ r. and_then r g) e.0, x.1)

alike_if : {A : Type 0} (n : ℕ) (b : Bool) (p q f g : Action Doing A) → Alike n p q → Alike n f g → Alike n (if b then p else f) (if b then q else g)
alike_if n true p q f g h k = h
alike_if n false p q f g h k = k

-- two fuel do the same where so many units are left
pub record AreOne (n : ℕ) (s t : Steps) : Type 0 where
  pub exec : (x : Stmt) → Alike n (s.exec x) (t.exec x)
  pub again : (arm : Arm) → Alike n (s.again arm) (t.again arm)

behind_alike : (n : ℕ) (came : Result Value Reached) (f g : Value → Action Doing Reached) → ((v : Value) → Alike n (f v) (g v)) → Alike n (behind came f) (behind came g)
behind_alike n (Ok v) f g h = h v
behind_alike n (Err reached) f g h = alike_pure n reached

otherwise_alike : (n : ℕ) (part : Option Reached) (f g : Action Doing Reached) → Alike n f g → Alike n (otherwise part f) (otherwise part g)
otherwise_alike n None f g h = h
otherwise_alike n (Some reached) f g h = alike_pure n reached

stays_alike : (n : ℕ) (part : Option Reached) (f g : Action Doing (Option Reached)) → Alike n f g → Alike n (stays part f) (stays part g)
stays_alike n None f g h = h
stays_alike n (Some reached) f g h = alike_pure n (Some reached)

inside_alike : (n : ℕ) (frame : Frame) (reached : Reached) (f g : Flow → Action Doing (Option Reached)) → ((flow : Flow) → Alike n (f flow) (g flow))
    → Alike n (inside_part frame reached f) (inside_part frame reached g)
inside_alike n frame (Went flow) f g h = h flow
inside_alike n frame (Asks op frames) f g h = alike_pure n (Some (Asks op (frames ++ frame ∷ [])))

next_alike : (s t : Steps) (n : ℕ) → AreOne n s t → (frame : Frame) (x : Stmt) → Alike n (next s frame x) (next t frame x)
unfolding next
next_alike s t n h frame x =
    alike_then n (s.exec x) (t.exec x) (λ reached. pure (next_in frame reached)) (λ reached. pure (next_in frame reached)) (h.exec x) (λ reached. alike_pure n (next_in frame reached))

run_from_alike : (s t : Steps) (n : ℕ) → AreOne n s t → (block : Block) (at : ℕ) (last : Value) (xs : List Stmt) → Alike n (run_from s block at last xs) (run_from t block at last xs)
run_from_alike s t n h block at last [] = alike_pure n (Went (Next last))
run_from_alike s t n h block at last (x ∷ xs) =
    alike_then n (next s (Seq block (at + 1)) x) (next t (Seq block (at + 1)) x)
    (λ came. behind came (λ v. run_from s block (at + 1) v xs)) (λ came. behind came (λ v. run_from t block (at + 1) v xs))
    (next_alike s t n h (Seq block (at + 1)) x)
    (λ came. behind_alike n came (λ v. run_from s block (at + 1) v xs) (λ v. run_from t block (at + 1) v xs) (λ v. run_from_alike s t n h block (at + 1) v xs))

run_alike : (s t : Steps) (n : ℕ) → AreOne n s t → (block : Block) → Alike n (run s block) (run t block)
unfolding run
run_alike s t n h block = run_from_alike s t n h block 0 Nothing (out-Block block).stmts

-- a block, and then a part of a branch or a loop inside a frame
framed_alike : (s t : Steps) (n : ℕ) → AreOne n s t → (block : Block) (frame : Frame) (f g : Flow → Action Doing (Option Reached)) → ((flow : Flow) → Alike n (f flow) (g flow))
    → Alike n (run s block >>= (λ reached. inside_part frame reached f)) (run t block >>= (λ reached. inside_part frame reached g))
framed_alike s t n h block frame f g k =
    alike_then n (run s block) (run t block) (λ reached. inside_part frame reached f) (λ reached. inside_part frame reached g) (run_alike s t n h block)
    (λ reached. inside_alike n frame reached f g k)

-- a part, and then what is left
parts_alike : (n : ℕ) (p q : Action Doing (Option Reached)) (f g : Action Doing Reached) → Alike n p q → Alike n f g
    → Alike n (p >>= (λ part. otherwise part f)) (q >>= (λ part. otherwise part g))
parts_alike n p q f g h k = alike_then n p q (λ part. otherwise part f) (λ part. otherwise part g) h (λ part. otherwise_alike n part f g k)

taken_alike : (s t : Steps) (n : ℕ) → AreOne n s t → (arm : Arm) → Alike n (taken s arm) (taken t arm)
unfolding taken
taken_alike s t n h arm =
    let block = (out-Arm arm).block in
    alike_then n (decision (out-Arm arm).test) (decision (out-Arm arm).test)
    (λ holds. if holds then (run s block >>= (λ reached. pure (Some reached))) else pure None)
    (λ holds. if holds then (run t block >>= (λ reached. pure (Some reached))) else pure None)
    (alike_self n (decision (out-Arm arm).test) (decision_within (out-Arm arm).test))
    (λ holds. alike_if n holds (run s block >>= (λ reached. pure (Some reached))) (run t block >>= (λ reached. pure (Some reached))) (pure None) (pure None)
    (alike_then n (run s block) (run t block) (λ reached. pure (Some reached)) (λ reached. pure (Some reached)) (run_alike s t n h block) (λ reached. alike_pure n (Some reached)))
    (alike_pure n None))

arm_alike : (s t : Steps) (n : ℕ) → AreOne n s t → (arms : List Arm) (at : ℕ) (other : Block) (arm : Arm) → Alike n (arm_at s arms at other arm) (arm_at t arms at other arm)
unfolding arm_at
arm_alike s t n h arms at other arm =
    framed_alike s t n h (out-Arm arm).effects (Branch arms at other) (λ _. taken s arm) (λ _. taken t arm) (λ _. taken_alike s t n h arm)

branch_alike : (s t : Steps) (n : ℕ) → AreOne n s t → (arms : List Arm) (at : ℕ) (other : Block) (rest : List Arm)
    → Alike n (branch_from s arms at other rest) (branch_from t arms at other rest)
branch_alike s t n h arms at other [] = run_alike s t n h other
branch_alike s t n h arms at other (arm ∷ rest) =
    parts_alike n (arm_at s arms at other arm) (arm_at t arms at other arm) (branch_from s arms (at + 1) other rest) (branch_from t arms (at + 1) other rest)
    (arm_alike s t n h arms at other arm) (branch_alike s t n h arms (at + 1) other rest)

pub held_within : (s : Steps) (arm : Arm) (st : Doing) → Within st.left (held s arm st)
unfolding held
held_within s arm st =
    (bound_agrees st.left (decision (out-Arm arm).test st) (λ holds. pure (if holds then None else Some (Went (Next Nothing)))) (λ holds. pure (if holds then None else Some (Went (Next Nothing))))
    (decision_within (out-Arm arm).test st) (λ holds. alike_pure st.left (if holds then None else Some (Went (Next Nothing))))).1

held_alike : (s t : Steps) (n : ℕ) (arm : Arm) → Alike n (held s arm) (held t arm)
unfolding held
held_alike s t n arm =
    alike_then n (decision (out-Arm arm).test) (decision (out-Arm arm).test)
    (λ holds. pure (if holds then None else Some (Went (Next Nothing)))) (λ holds. pure (if holds then None else Some (Went (Next Nothing))))
    (alike_self n (decision (out-Arm arm).test) (decision_within (out-Arm arm).test))
    (λ holds. alike_pure n (if holds then None else Some (Went (Next Nothing))))

condition_alike : (s t : Steps) (n : ℕ) → AreOne n s t → (arm : Arm) → Alike n (condition s arm) (condition t arm)
unfolding condition
condition_alike s t n h arm =
    framed_alike s t n h (out-Arm arm).effects (Condition arm) (λ _. held s arm) (λ _. held t arm) (λ _. held_alike s t n arm)

once_alike : (s t : Steps) (n : ℕ) → AreOne n s t → (arm : Arm) → Alike n (once s arm) (once t arm)
unfolding once
once_alike s t n h arm =
    framed_alike s t n h (out-Arm arm).block (Loop arm) (λ flow. stays (left flow) (condition s arm)) (λ flow. stays (left flow) (condition t arm))
    (λ flow. stays_alike n (left flow) (condition s arm) (condition t arm) (condition_alike s t n h arm))

turns_alike : (s t : Steps) (n : ℕ) → AreOne n s t → (arm : Arm) → Alike n (turns s arm) (turns t arm)
unfolding turns
turns_alike s t n h arm = parts_alike n (once s arm) (once t arm) (s.again arm) (t.again arm) (once_alike s t n h arm) (h.again arm)

while_alike : (s t : Steps) (n : ℕ) → AreOne n s t → (arm : Arm) → Alike n (while_holds s arm) (while_holds t arm)
unfolding while_holds
while_alike s t n h arm = parts_alike n (condition s arm) (condition t arm) (s.again arm) (t.again arm) (condition_alike s t n h arm) (h.again arm)

set_after : (name : List ℕ) (v : Value) (n : ℕ) (r : Ran Doing (Unit {0})) → Within n r → Within n (and_then r (λ _. set name v))
set_after name v n (Done u st) w = w
set_after name v n (Failed e st) w = w

unit_within : (n : ℕ) → spending.Within n (unit n)
unit_within n = elim (n == 0) as (λ b. spending.Within n (if b then Failed fault.Budget n else Done (tt {0}) (n - 1))) [ true ↦ omega arith | false ↦ omega arith ]

pub begin_within : (name : List ℕ) (v : Value) (st : Doing) → Within st.left (begin_turn name v st)
unfolding begin_turn
begin_within name v st = set_after name v st.left (spend st) (beside_within st.left st.variables (unit st.left) (unit_within st.left))

element_alike : (s t : Steps) (n : ℕ) → AreOne n s t → (name : List ℕ) (block : Block) (collection : Value) (at : ℕ) (x : Value)
    → Alike n (with_element s name block collection at x) (with_element t name block collection at x)
unfolding with_element
element_alike s t n h name block collection at x =
    alike_then n (begin_turn name x) (begin_turn name x)
    (λ _. run s block >>= (λ reached. inside_part (Each name block collection at) reached (λ flow. pure (left flow))))
    (λ _. run t block >>= (λ reached. inside_part (Each name block collection at) reached (λ flow. pure (left flow))))
    (alike_self n (begin_turn name x) (begin_within name x))
    (λ _. framed_alike s t n h block (Each name block collection at) (λ flow. pure (left flow)) (λ flow. pure (left flow)) (λ flow. alike_pure n (left flow)))

over_alike : (s t : Steps) (n : ℕ) → AreOne n s t → (name : List ℕ) (block : Block) (collection : Value) (at : ℕ) (xs : List Value)
    → Alike n (over s name block collection at xs) (over t name block collection at xs)
over_alike s t n h name block collection at [] = alike_pure n (Went (Next Nothing))
over_alike s t n h name block collection at (x ∷ xs) =
    parts_alike n (with_element s name block collection (at + 1) x) (with_element t name block collection (at + 1) x)
    (over s name block collection (at + 1) xs) (over t name block collection (at + 1) xs)
    (element_alike s t n h name block collection (at + 1) x) (over_alike s t n h name block collection (at + 1) xs)

for_alike : (s t : Steps) (n : ℕ) → AreOne n s t → (name : List ℕ) (x : Expr) (block : Block) → Alike n (for_in s name x block) (for_in t name x block)
unfolding for_in
for_alike s t n h name x block =
    alike_then n (reading (evaluated x)) (reading (evaluated x))
    (λ collection. if is_collection collection then over s name block collection 0 (elements collection) else fail fault.BadType)
    (λ collection. if is_collection collection then over t name block collection 0 (elements collection) else fail fault.BadType)
    (alike_self n (reading (evaluated x)) (reading_within x))
    (λ collection. alike_if n (is_collection collection) (over s name block collection 0 (elements collection)) (over t name block collection 0 (elements collection))
    (fail fault.BadType) (fail fault.BadType)
    (over_alike s t n h name block collection 0 (elements collection)) (λ st le. (refl, omega arith)))

caught_alike : (s t : Steps) (n : ℕ) → AreOne n s t → (name : Option (List ℕ)) (handler : Block) (e : Fault) → Alike n (caught s name handler e) (caught t name handler e)
unfolding caught
caught_alike s t n h name handler e =
    alike_if n (is_budget e) (fail e) (fail e) (keep name (Exception e) >> run s handler) (keep name (Exception e) >> run t handler)
    (λ st le. (refl, omega arith))
    (alike_then n (keep name (Exception e)) (keep name (Exception e)) (λ _. run s handler) (λ _. run t handler)
    (alike_self n (keep name (Exception e)) (keep_within name (Exception e))) (λ _. run_alike s t n h handler))

tried_agrees : (n : ℕ) (frame : Frame) (reached : Reached) (st : Doing) → st.left ≤ n → Within n (inside frame reached (λ flow. pure (Went flow)) st)
tried_agrees n frame (Went flow) st w = w
tried_agrees n frame (Asks op frames) st w = w

handled_agrees : (s t : Steps) (n : ℕ) → AreOne n s t → (u : ℕ) → u ≤ n → (name : Option (List ℕ)) (handler : Block) (r : Ran Doing Reached) → Within u r
    → Agrees u (handled s name handler r) (handled t name handler r)
handled_agrees s t n h u le name handler (Done reached st) w = (refl, tried_agrees u (Catch name handler) reached st w)
handled_agrees s t n h u le name handler (Failed e st) w =
    let x = caught_alike s t n h name handler e st (omega (arith, w, le)) in (x.0, within_le st.left u (caught s name handler e st) w x.1)

attempt_alike : (s t : Steps) (n : ℕ) → AreOne n s t → (block : Block) (name : Option (List ℕ)) (handler : Block) → Alike n (attempt s block name handler) (attempt t block name handler)
unfolding attempt
attempt_alike s t n h block name handler st le =
    let e = run_alike s t n h block st le in
    let x = handled_agrees s t n h st.left le name handler (run s block st) e.1 in
    (x.0 ∙ ap (handled t name handler) e.0, x.1)

pub grown_within : (name : List ℕ) (v : Value) (st : Doing) → Within st.left (grown name v st)
unfolding grown
grown_within name v st = lift_within (pushed v (named name st.variables)) st

push_alike : (n : ℕ) (name : List ℕ) (x : Expr) → Alike n (push name x) (push name x)
unfolding push
push_alike n name x =
    alike_then n (reading (evaluated x)) (reading (evaluated x)) _ _ (alike_self n (reading (evaluated x)) (reading_within x))
    (λ v. alike_then n (grown name v) (grown name v) _ _ (alike_self n (grown name v) (grown_within name v)) (λ list st le. (refl, omega arith)))

statement_at_alike : (s t : Steps) (n : ℕ) → AreOne n s t → (x : Stmt-F Stmt Arm Block Body) → Alike n (statement_at s x) (statement_at t x)
statement_at_alike s t n h (Stmt-F.Set name x) st le = (refl, assignment_within name x st)
statement_at_alike s t n h (Stmt-F.Value x) st le = (refl, expression_within x st)
statement_at_alike s t n h (Stmt-F.Effect name operation body args) st le = (refl, effect_within name operation body args st)
statement_at_alike s t n h (Stmt-F.If arms other) st le = branch_alike s t n h arms 0 other arms st le
statement_at_alike s t n h (Stmt-F.While arm) st le = while_alike s t n h arm st le
statement_at_alike s t n h (Stmt-F.For name x block) st le = for_alike s t n h name x block st le
statement_at_alike s t n h (Stmt-F.Try block name handler) st le = attempt_alike s t n h block name handler st le
statement_at_alike s t n h Stmt-F.Break st le = (refl, omega arith)
statement_at_alike s t n h Stmt-F.Continue st le = (refl, omega arith)
statement_at_alike s t n h (Stmt-F.Push name x) st le = push_alike n name x st le

statement_alike : (s t : Steps) (n : ℕ) → AreOne n s t → (x : Stmt) → Alike n (statement s x) (statement t x)
unfolding statement
statement_alike s t n h x = statement_at_alike s t n h (out-Stmt x)

-- a unit is spent where one is left, and is the fault of the step where none is
pub spend_some : (st : Doing) → 0 < st.left → spend st ≡ Done (tt {0}) (record { variables = st.variables; left = st.left - 1 })
spend_some st some =
    let e : (st.left == 0) ≡ false = grind (arith, common_steps, some) in
    ap (λ b. beside st.variables (if b then Failed fault.Budget st.left else Done (tt {0}) (st.left - 1))) e

pub spend_none : (st : Doing) → st.left ≤ 0 → spend st ≡ Failed fault.Budget st
spend_none st none =
    let e : (st.left == 0) ≡ true = grind (arith, common_steps, none) in
    ap (λ b. beside st.variables (if b then Failed fault.Budget st.left else Done (tt {0}) (st.left - 1))) e

-- a unit, and then what agrees on one less
after_unit : (st : Doing) (f g : Action Doing Reached)
    → (0 < st.left → Agrees (st.left - 1) (f (record { variables = st.variables; left = st.left - 1 })) (g (record { variables = st.variables; left = st.left - 1 })))
    → Agrees st.left (and_then (spend st) (λ _. f)) (and_then (spend st) (λ _. g))
after_unit st f g h =
    elim (st.left == 0) as (λ b. st.left == 0 ≡ b → Agrees st.left (and_then (spend st) (λ _. f)) (and_then (spend st) (λ _. g))) [
      | true ↦ λ e. let none : st.left ≤ 0 = grind (arith, common_steps, e) in
          let P : Ran Doing (Unit {0}) → Type 0 = λ r. Agrees st.left (and_then r (λ _. f)) (and_then r (λ _. g)) in
          subst P (sym (spend_none st none)) (refl, omega arith)
      | false ↦ λ e. let some : 0 < st.left = grind (arith, common_steps, e) in
          let P : Ran Doing (Unit {0}) → Type 0 = λ r. Agrees st.left (and_then r (λ _. f)) (and_then r (λ _. g)) in
          let less : Doing = record { variables = st.variables; left = st.left - 1 } in
          let x = h some in
          subst P (sym (spend_some st some)) (x.0, within_le (st.left - 1) st.left (f less) (omega arith) x.1)
    ] refl

-- where no unit is left
pub after_none : (st : Doing) (f : Action Doing Reached) → st.left ≤ 0 → and_then (spend st) (λ _. f) ≡ Failed fault.Budget st
after_none st f none = ap (λ r. and_then r (λ _. f)) (spend_none st none)

first_none : (n : ℕ) (f : Action Doing Reached) → n ≤ 0 → Alike n (fail fault.Budget) (spend >> f)
first_none n f none st le = (sym (after_none st f (omega (arith, none, le))), omega arith)

second_none : (n : ℕ) (f : Action Doing Reached) → n ≤ 0 → Alike n (spend >> f) (fail fault.Budget)
second_none n f none st le =
    let e = after_none st f (omega (arith, none, le)) in
    (e, subst (λ (r : Ran Doing Reached). Within st.left r) (sym e) (omega arith))

-- both spend a unit first
spent_alike : (n : ℕ) (f g : Action Doing Reached) → ((m : ℕ) → m < n → Alike m f g) → Alike n (spend >> f) (spend >> g)
spent_alike n f g h st le =
    after_unit st f g
    (λ some. h (st.left - 1) (omega (arith, some, le)) (record { variables = st.variables; left = st.left - 1 }) (omega arith))

pub are_one : (k j n : ℕ) → n ≤ k → n ≤ j → AreOne n (steps k) (steps j)
unfolding steps
are_one zero zero n hk hj = record { exec = λ x st le. (refl, omega arith); again = λ arm st le. (refl, omega arith) }
are_one zero (suc j) n hk hj = record { exec = λ x. first_none n (statement (steps j) x) hk; again = λ arm. first_none n (turns (steps j) arm) hk }
are_one (suc k) zero n hk hj = record { exec = λ x. second_none n (statement (steps k) x) hj; again = λ arm. second_none n (turns (steps k) arm) hj }
are_one (suc k) (suc j) n hk hj = record {
  exec = λ x. spent_alike n (statement (steps k) x) (statement (steps j) x)
      (λ m below. statement_alike (steps k) (steps j) m (are_one k j m (omega (arith, below, hk)) (omega (arith, below, hj))) x);
  again = λ arm. spent_alike n (turns (steps k) arm) (turns (steps j) arm)
      (λ m below. turns_alike (steps k) (steps j) m (are_one k j m (omega (arith, below, hk)) (omega (arith, below, hj))) arm);
}

-- the number plays no part
pub same_steps : (fuel : ℕ) (x : Stmt) (st : Doing) → st.left ≤ fuel → (steps fuel).exec x st ≡ (steps st.left).exec x st
same_steps fuel x st h = ((are_one fuel st.left st.left h (omega arith)).exec x st (omega arith)).0

-- a level in its own terms
pub one_level : (fuel : ℕ) (x : Stmt) (st : Doing) → st.left ≤ fuel → (steps fuel).exec x st ≡ and_then (spend st) (λ _. statement (steps fuel) x)
unfolding steps
one_level fuel x st h = ((are_one fuel (suc fuel) fuel (omega arith) (omega arith)).exec x st h).0

pub one_turn : (fuel : ℕ) (arm : Arm) (st : Doing) → st.left ≤ fuel → (steps fuel).again arm st ≡ and_then (spend st) (λ _. turns (steps fuel) arm)
unfolding steps
one_turn fuel arm st h = ((are_one fuel (suc fuel) fuel (omega arith) (omega arith)).again arm st h).0

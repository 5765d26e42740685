-- A recursion on statements, and a run with frames that is resumed, come to the same.
use Rattle.std.proofs.Common.{◌≡◌, ℕ, zero, suc, ◌+◌, ◌-◌, ◌*◌, ◌<◌, ◌≤◌, ◌==◌, Bool, true, false, if◌then◌else◌, length, drop, List, [], ◌∷◌, ◌++◌, Result, Ok, Err, refl, sym, ap, ◌∙◌, subst, arith}
use Rattle.std.specs.Prelude.{Option, None, Some}
use Rattle.std.proofs.lemmas.Grind.{common_steps}
use Rattle.std.proofs.lemmas.List.{drop-drop}
use Rattle.jd_value.specs.declared.fault.Fault.{Fault}
use Rattle.jd_value.specs.declared.fault.Fault.TheVariants as fault
use Rattle.jd_value.specs.declared.value.Value.{Value}
use Rattle.jd_value.specs.declared.value.Value.TheVariants.{Nothing, Exception}
use Rattle.jd_value.specs.declared.operation.Operation.{Operation}
use Rattle.jd_value.specs.declared.expr.Expr.{Expr}
use Rattle.jd_value.specs.declared.tree.Arm.{Arm, out-Arm}
use Rattle.jd_value.specs.declared.tree.Stmt.{Stmt, out-Stmt}
use Rattle.jd_value.specs.declared.tree.Stmt.TheOpen.{Stmt-F}
use Rattle.jd_value.specs.declared.tree.Body.{Body, out-Body}
use Rattle.jd_value.specs.declared.tree.Block.{Block, out-Block}
use Rattle.jd_expr.specs.Action.{Action, Ran, Done, Failed, ◌>>=◌ as ◌⊳=◌, ◌>>◌ as ◌⊳◌}
use Rattle.jd_expr.specs.Action as action
use Rattle.jd_expr.specs.Meaning.{evaluated, all_evaluated}
use Rattle.jd_expr.specs.Variables.{Variables}
use Rattle.jd_task.specs.declared.doing.Doing.{Doing}
use Rattle.jd_task.specs.declared.flow.Flow.{Flow}
use Rattle.jd_task.specs.declared.flow.Flow.TheVariants.{Next, Break, Continue}
use Rattle.jd_task.specs.declared.frame.Frame.{Frame}
use Rattle.jd_task.specs.declared.frame.Frame.TheVariants.{Seq, Branch, Condition, Loop, Each, Catch}
use Rattle.jd_task.specs.declared.op.Op.{Op}
use Rattle.jd_task.specs.declared.reached.Reached.{Reached}
use Rattle.jd_task.specs.declared.reached.Reached.TheVariants.{Went, Asks}
use Rattle.jd_task.specs.Course.{resumed}
use Rattle.jd_task.specs.Direct.{Exchange, Came, Gave, Raised, Waited, Direct, and_then, ◌>>=◌, ◌>>◌, pure, raise, in_exchange, quietly, Statements, statements, run, block_run, course_of, units_of_all, run_through}
use Rattle.jd_task.specs.Direct as direct
use Rattle.jd_task.specs.Elements.{is_budget, is_collection, elements}
use Rattle.jd_task.specs.Running.{beside, reading, spend, set, grown, decision, keep, begin_turn, inside_part, otherwise, left, stays, next_in, next, steps, run_from, taken, branch_from, held, condition, over, resume, step, throw_at, step_units}
use Rattle.jd_task.specs.Running as running
use Rattle.jd_task.proofs.Fuel.{Within, beside_within, reading_within, decision_within, keep_within, grown_within, begin_within, evaluated_within, all_evaluated_within, spend_some, spend_none, one_level, one_turn, after_none}
use Rattle.jd_task.proofs.Played.{played, through, beyond, passes, resumed_course}

-- all units that may still be spent are no more than k, and those of this step no more than a step has
abbrev pub Fits : ℕ → Exchange → Type 0
Fits k x = (x.doing.left + step_units * length x.answers ≤ k) × (x.doing.left ≤ step_units)

abbrev pub Holds : {A : Type 0} → ℕ → Came A → Type 0
Holds k (Gave a x) = Fits k x
Holds k (Raised e x) = Fits k x
Holds k (Waited x) = Unit {0}

-- two are one, and leave no more units than k
abbrev pub Same : {A : Type 0} → ℕ → Came A → Came A → Type 0
Same k c d = (c ≡ d) × Holds k c

holds_le : {A : Type 0} (k : ℕ) (c : Came A) → Holds k c → Holds (suc k) c
holds_le k (Gave a x) w = (omega (arith, w.0), w.1)
holds_le k (Raised e x) w = (omega (arith, w.0), w.1)
holds_le k (Waited x) w = tt

bound : {A B : Type 0} (k : ℕ) (c : Came A) (f g : A → Direct B) → Holds k c → ((a : A) (x : Exchange) → Fits k x → Same k (f a x) (g a x)) → Same k (and_then c f) (and_then c g)
bound k (Gave a x) f g w h = h a x w
bound k (Raised e x) f g w h = (refl, w)
bound k (Waited x) f g w h = (refl, tt)

-- a part of a body in both readings
abbrev pub Alike : ℕ → Direct Flow → Action Doing Reached → Type 0
Alike k f g = (x : Exchange) → Fits k x → Same k (f x) (played (g x.doing) x.answers x.asked)

-- a frame that a fault passes
abbrev pub Lets : Frame → Type 0
Lets frame = (e : Fault) (st : Doing) → throw_at (steps step_units) frame e st ≡ Failed e st

lets_through : (frame : Frame) → Lets frame → (c : Came Flow) → beyond frame c ≡ and_then c (through frame)
lets_through frame lets (Gave flow x) = refl
lets_through frame lets (Raised e x) = ap (λ (ran : Ran Doing Reached). played ran x.answers x.asked) (lets e x.doing)
lets_through frame lets (Waited x) = refl

-- what is done after a part is what a frame round it does
pub then_same : (k : ℕ) (frame : Frame) → Lets frame → (c : Came Flow) (ran : Ran Doing Reached) (answers : List (Result Value Fault)) (asked : List Op) (f : Flow → Direct Flow)
    → Same k c (played ran answers asked) → ((flow : Flow) → Alike k (f flow) (step (steps step_units) frame flow))
    → Same k (and_then c f) (played (resume (steps step_units) (frame ∷ []) ran) answers asked)
then_same k frame lets c ran answers asked f e h =
    let both = bound k c f (through frame) e.1 h in
    (both.0 ∙ ap (λ d. and_then d (through frame)) e.0 ∙ sym (lets_through frame lets (played ran answers asked)) ∙ sym (passes frame ran answers asked), both.1)

-- the same by another form of the run
then_as : (k : ℕ) (frame : Frame) → Lets frame → (c : Came Flow) (ran whole : Ran Doing Reached) (answers : List (Result Value Fault)) (asked : List Op) (f : Flow → Direct Flow)
    → whole ≡ resume (steps step_units) (frame ∷ []) ran
    → Same k c (played ran answers asked) → ((flow : Flow) → Alike k (f flow) (step (steps step_units) frame flow)) → Same k (and_then c f) (played whole answers asked)
then_as k frame lets c ran whole answers asked f form e h =
    subst (λ (r : Ran Doing Reached). Same k (and_then c f) (played r answers asked)) (sym form) (then_same k frame lets c ran answers asked f e h)

-- statements and turns do the same by the recursion
pub record SameAs (k : ℕ) (s : Statements) : Type 0 where
  pub exec : (y : Stmt) → Alike k (s.exec y) ((steps step_units).exec y)
  pub again : (arm : Arm) → Alike k (s.again arm) ((steps step_units).again arm)

-- what asks nothing, and then what comes after it
quiet_same : {A : Type 0} (k : ℕ) (r : Ran Doing A) (x : Exchange) (f : A → Direct Flow) (g : A → Action Doing Reached) → Within x.doing.left r → Fits k x
    → ((a : A) → Alike k (f a) (g a)) → Same k (and_then (in_exchange x r) f) (played (action.and_then r g) x.answers x.asked)
quiet_same k (Done a st) x f g w fits h =
    h a (record { doing = st; answers = x.answers; asked = x.asked }) (omega (arith, w, fits.0), omega (arith, w, fits.1))
quiet_same k (Failed e st) x f g w fits h = (refl, (omega (arith, w, fits.0), omega (arith, w, fits.1)))

alike_if : (k : ℕ) (b : Bool) (f g : Direct Flow) (p q : Action Doing Reached) → Alike k f p → Alike k g q → Alike k (if b then f else g) (if b then p else q)
alike_if k true f g p q h i = h
alike_if k false f g p q h i = i

-- the statements behind one are a frame round it
behind_frame : (block : Block) (at : ℕ) (ys : List Stmt) (ran : Ran Doing Reached) → ys ≡ drop (at + 1) (out-Block block).stmts
    → action.and_then (action.and_then ran (λ reached. action.pure (next_in (Seq block (at + 1)) reached))) (λ came. running.behind came (λ v. run_from (steps step_units) block (at + 1) v ys))
    ≡ resume (steps step_units) (Seq block (at + 1) ∷ []) ran
behind_frame block at ys (Done (Went (Next v)) st) e = ap (λ (rest : List Stmt). run_from (steps step_units) block (at + 1) v rest st) e
behind_frame block at ys (Done (Went Break) st) e = refl
behind_frame block at ys (Done (Went Continue) st) e = refl
behind_frame block at ys (Done (Asks op frames) st) e = refl
behind_frame block at ys (Failed f st) e = refl

goes_same : (k : ℕ) (s : Statements) (block : Block) (at : ℕ) (ys : List Stmt) → ((v : Value) → Alike k (run s v ys) (run_from (steps step_units) block at v (drop at (out-Block block).stmts)))
    → (flow : Flow) → Alike k (direct.goes_on flow (λ v. run s v ys)) (step (steps step_units) (Seq block at) flow)
goes_same k s block at ys h (Next v) = h v
goes_same k s block at ys h Break = λ x fits. (refl, fits)
goes_same k s block at ys h Continue = λ x fits. (refl, fits)

-- so do blocks
pub run_same : (k : ℕ) (s : Statements) → SameAs k s → (block : Block) (at : ℕ) (ys : List Stmt) → ys ≡ drop at (out-Block block).stmts → (v : Value)
    → Alike k (run s v ys) (run_from (steps step_units) block at v ys)
unfolding next
run_same k s h block at [] e v x fits = (refl, fits)
run_same k s h block at (y ∷ ys) e v x fits =
    let rest : ys ≡ drop (at + 1) (out-Block block).stmts = ap (drop 1) e ∙ drop-drop 1 at (out-Block block).stmts in
    let more : (w : Value) → Alike k (run s w ys) (run_from (steps step_units) block (at + 1) w (drop (at + 1) (out-Block block).stmts)) =
    λ w. subst (λ (zs : List Stmt). Alike k (run s w ys) (run_from (steps step_units) block (at + 1) w zs)) rest (run_same k s h block (at + 1) ys rest w) in
    then_as k (Seq block (at + 1)) (λ f st. refl) (s.exec y x) ((steps step_units).exec y x.doing) (run_from (steps step_units) block at v (y ∷ ys) x.doing) x.answers x.asked
    (λ flow. direct.goes_on flow (λ w. run s w ys)) (behind_frame block at ys ((steps step_units).exec y x.doing) rest) (h.exec y x fits)
    (goes_same k s block (at + 1) ys more)

pub block_same : (k : ℕ) (s : Statements) → SameAs k s → (block : Block) → Alike k (block_run s block) (running.run (steps step_units) block)
unfolding block_run running.run
block_same k s h block = run_same k s h block 0 (out-Block block).stmts refl Nothing

-- a part of a branch or a loop inside a frame, and what is left behind it, are a frame
part_frame : (frame : Frame) (go : Flow → Action Doing (Option Reached)) (rest : Action Doing Reached) (ran : Ran Doing Reached) → Lets frame
    → ((flow : Flow) (st : Doing) → action.and_then (go flow st) (λ part. otherwise part rest) ≡ step (steps step_units) frame flow st)
    → action.and_then (action.and_then ran (λ reached. inside_part frame reached go)) (λ part. otherwise part rest) ≡ resume (steps step_units) (frame ∷ []) ran
part_frame frame go rest (Done (Went flow) st) lets h = h flow st
part_frame frame go rest (Done (Asks op frames) st) lets h = refl
part_frame frame go rest (Failed e st) lets h = sym (lets e st)

-- a part in three
regrouped : {A B C : Type 0} (r : Ran Doing A) (f : A → Action Doing B) (g : B → Action Doing C) → action.and_then (action.and_then r f) g ≡ action.and_then r (λ a st. action.and_then (f a st) g)
regrouped (Done a st) f g = refl
regrouped (Failed e st) f g = refl

-- a block that ends a branch
ends : (r : Ran Doing Reached) (rest : Action Doing Reached) → action.and_then (action.and_then r (λ reached. action.pure (Some reached))) (λ part. otherwise part rest) ≡ r
ends (Done reached st) rest = refl
ends (Failed e st) rest = refl

chosen : (block : Action Doing Reached) (rest : Action Doing Reached) (b : Bool) (st : Doing)
    → action.and_then ((if b then (block ⊳= (λ reached. action.pure (Some reached))) else action.pure None) st) (λ part. otherwise part rest) ≡ (if b then block else rest) st
chosen block rest true st = ends (block st) rest
chosen block rest false st = refl

-- two actions that are one do the same
alike_as : (k : ℕ) (f : Direct Flow) (p q : Action Doing Reached) → ((st : Doing) → p st ≡ q st) → Alike k f q → Alike k f p
alike_as k f p q e h x fits = subst (λ (ran : Ran Doing Reached). Same k (f x) (played ran x.answers x.asked)) (sym (e x.doing)) (h x fits)

-- a test, and then what it decides
decided : (k : ℕ) (y : Expr) (f : Bool → Direct Flow) (g : Bool → Action Doing Reached) → ((b : Bool) → Alike k (f b) (g b)) → Alike k (quietly (decision y) >>= f) (decision y ⊳= g)
decided k y f g h x fits = quiet_same k (decision y x.doing) x f g (decision_within y x.doing) fits h

taken_same : (k : ℕ) (s : Statements) → SameAs k s → (arm : Arm) (other : Direct Flow) (rest : Action Doing Reached) → Alike k other rest
    → Alike k (quietly (decision (out-Arm arm).test) >>= (λ holds. if holds then block_run s (out-Arm arm).block else other)) (taken (steps step_units) arm ⊳= (λ part. otherwise part rest))
unfolding taken
taken_same k s h arm other rest more =
    let block = running.run (steps step_units) (out-Arm arm).block in
    let choice : Bool → Action Doing (Option Reached) = λ holds. if holds then (block ⊳= (λ reached. action.pure (Some reached))) else action.pure None in
    alike_as k (quietly (decision (out-Arm arm).test) >>= (λ holds. if holds then block_run s (out-Arm arm).block else other))
    (taken (steps step_units) arm ⊳= (λ part. otherwise part rest)) (decision (out-Arm arm).test ⊳= (λ holds st. action.and_then (choice holds st) (λ part. otherwise part rest)))
    (λ st. regrouped (decision (out-Arm arm).test st) choice (λ part. otherwise part rest))
    (decided k (out-Arm arm).test (λ holds. if holds then block_run s (out-Arm arm).block else other) (λ holds st. action.and_then (choice holds st) (λ part. otherwise part rest))
    (λ holds. alike_as k (if holds then block_run s (out-Arm arm).block else other) (λ st. action.and_then (choice holds st) (λ part. otherwise part rest)) (if holds then block else rest)
    (chosen block rest holds) (alike_if k holds (block_run s (out-Arm arm).block) other block rest (block_same k s h (out-Arm arm).block) more)))

-- an `if`
branch_same : (k : ℕ) (s : Statements) → SameAs k s → (arms : List Arm) (at : ℕ) (other : Block) (rest : List Arm) → rest ≡ drop at arms
    → Alike k (direct.branch s rest other) (branch_from (steps step_units) arms at other rest)
unfolding running.arm_at
branch_same k s h arms at other [] e x fits = block_same k s h other x fits
branch_same k s h arms at other (arm ∷ rest) e x fits =
    let more : rest ≡ drop (at + 1) arms = ap (drop 1) e ∙ drop-drop 1 at arms in
    let onward = branch_from (steps step_units) arms (at + 1) other rest in
    let tail : Direct Flow = quietly (decision (out-Arm arm).test) >>= (λ holds. if holds then block_run s (out-Arm arm).block else direct.branch s rest other) in
    let here : (st : Doing) → step (steps step_units) (Branch arms at other) (Next Nothing) st ≡ action.and_then (taken (steps step_units) arm st) (λ part. otherwise part onward) =
    λ st. ap (λ (all : List Arm). running.tested_from (steps step_units) arms at other all st) (sym e) in
    let ran = running.run (steps step_units) (out-Arm arm).effects x.doing in
    then_as k (Branch arms at other) (λ f st. refl) (block_run s (out-Arm arm).effects x) ran (branch_from (steps step_units) arms at other (arm ∷ rest) x.doing) x.answers x.asked (λ _. tail)
    (part_frame (Branch arms at other) (λ _. taken (steps step_units) arm) onward ran (λ f st. refl) (λ flow st. sym (here st)))
    (block_same k s h (out-Arm arm).effects x fits)
    (λ flow. alike_as k tail (step (steps step_units) (Branch arms at other) flow) (taken (steps step_units) arm ⊳= (λ part. otherwise part onward)) here
    (taken_same k s h arm (direct.branch s rest other) onward (branch_same k s h arms (at + 1) other rest more)))

-- the test of a `while`
held_same : (k : ℕ) (s : Statements) → SameAs k s → (arm : Arm)
    → Alike k (quietly (decision (out-Arm arm).test) >>= (λ holds. if holds then s.again arm else pure (Next Nothing))) (held (steps step_units) arm ⊳= (λ part. otherwise part ((steps step_units).again arm)))
unfolding held
held_same k s h arm =
    let again = (steps step_units).again arm in
    let ending : Bool → Action Doing (Option Reached) = λ holds. action.pure (if holds then None else Some (Went (Next Nothing))) in
    alike_as k (quietly (decision (out-Arm arm).test) >>= (λ holds. if holds then s.again arm else pure (Next Nothing)))
    (held (steps step_units) arm ⊳= (λ part. otherwise part again)) (decision (out-Arm arm).test ⊳= (λ holds st. action.and_then (ending holds st) (λ part. otherwise part again)))
    (λ st. regrouped (decision (out-Arm arm).test st) ending (λ part. otherwise part again))
    (decided k (out-Arm arm).test (λ holds. if holds then s.again arm else pure (Next Nothing)) (λ holds st. action.and_then (ending holds st) (λ part. otherwise part again))
    (λ holds. elim holds as (λ b. Alike k (if b then s.again arm else pure (Next Nothing)) (λ st. action.and_then (ending b st) (λ part. otherwise part again))) [
      | true ↦ h.again arm
      | false ↦ λ x fits. (refl, fits)
    ]))

-- a `while`
condition_same : (k : ℕ) (s : Statements) → SameAs k s → (arm : Arm) → Alike k (direct.while_holds s arm) (condition (steps step_units) arm ⊳= (λ part. otherwise part ((steps step_units).again arm)))
unfolding direct.while_holds condition
condition_same k s h arm x fits =
    let again = (steps step_units).again arm in
    let tail : Direct Flow = quietly (decision (out-Arm arm).test) >>= (λ holds. if holds then s.again arm else pure (Next Nothing)) in
    let ran = running.run (steps step_units) (out-Arm arm).effects x.doing in
    then_as k (Condition arm) (λ f st. refl) (block_run s (out-Arm arm).effects x) ran ((condition (steps step_units) arm ⊳= (λ part. otherwise part again)) x.doing) x.answers x.asked (λ _. tail)
    (part_frame (Condition arm) (λ _. held (steps step_units) arm) again ran (λ f st. refl) (λ flow st. refl))
    (block_same k s h (out-Arm arm).effects x fits) (λ flow. held_same k s h arm)

while_same : (k : ℕ) (s : Statements) → SameAs k s → (arm : Arm) → Alike k (direct.while_holds s arm) (running.while_holds (steps step_units) arm)
unfolding running.while_holds
while_same k s h arm = condition_same k s h arm

turned : (k : ℕ) (s : Statements) → SameAs k s → (arm : Arm) (flow : Flow) → Alike k (direct.stays flow (direct.while_holds s arm)) (step (steps step_units) (Loop arm) flow)
turned k s h arm (Next v) = condition_same k s h arm
turned k s h arm Break = λ x fits. (refl, fits)
turned k s h arm Continue = condition_same k s h arm

turns_same : (k : ℕ) (s : Statements) → SameAs k s → (arm : Arm) → Alike k (direct.turns s arm) (running.turns (steps step_units) arm)
unfolding direct.turns running.turns running.once
turns_same k s h arm x fits =
    let again = (steps step_units).again arm in
    let ran = running.run (steps step_units) (out-Arm arm).block x.doing in
    then_as k (Loop arm) (λ f st. refl) (block_run s (out-Arm arm).block x) ran (running.turns (steps step_units) arm x.doing) x.answers x.asked (λ flow. direct.stays flow (direct.while_holds s arm))
    (part_frame (Loop arm) (λ flow. stays (left flow) (condition (steps step_units) arm)) again ran (λ f st. refl) (λ flow st. refl))
    (block_same k s h (out-Arm arm).block x fits) (turned k s h arm)

-- a `for`
passed_on : (k : ℕ) (name : List ℕ) (block : Block) (collection : Value) (at : ℕ) (f : Direct Flow) (rest : List Value) → rest ≡ drop at (elements collection)
    → Alike k f (over (steps step_units) name block collection at rest) → (flow : Flow) → Alike k (direct.stays flow f) (step (steps step_units) (Each name block collection at) flow)
passed_on k name block collection at f rest e h (Next v) =
    subst (λ (xs : List Value). Alike k f (over (steps step_units) name block collection at xs)) e h
passed_on k name block collection at f rest e h Break = λ x fits. (refl, fits)
passed_on k name block collection at f rest e h Continue =
    subst (λ (xs : List Value). Alike k f (over (steps step_units) name block collection at xs)) e h

element_same : (k : ℕ) (s : Statements) → SameAs k s → (name : List ℕ) (block : Block) (collection : Value) (at : ℕ) (f : Direct Flow) (rest : List Value) → rest ≡ drop at (elements collection)
    → Alike k f (over (steps step_units) name block collection at rest)
    → Alike k (block_run s block >>= (λ flow. direct.stays flow f))
    ((running.run (steps step_units) block ⊳= (λ reached. inside_part (Each name block collection at) reached (λ flow. action.pure (left flow))))
    ⊳= (λ part. otherwise part (over (steps step_units) name block collection at rest)))
element_same k s h name block collection at f rest e more x fits =
    let onward = over (steps step_units) name block collection at rest in
    let ran = running.run (steps step_units) block x.doing in
    then_as k (Each name block collection at) (λ g st. refl) (block_run s block x) ran
    (((running.run (steps step_units) block ⊳= (λ reached. inside_part (Each name block collection at) reached (λ flow. action.pure (left flow)))) ⊳= (λ part. otherwise part onward)) x.doing)
    x.answers x.asked (λ flow. direct.stays flow f)
    (part_frame (Each name block collection at) (λ flow. action.pure (left flow)) onward ran (λ g st. refl)
    (λ flow st. ap (λ (xs : List Value). otherwise (left flow) (over (steps step_units) name block collection at xs) st) e))
    (block_same k s h block x fits) (passed_on k name block collection at f rest e more)

over_same : (k : ℕ) (s : Statements) → SameAs k s → (name : List ℕ) (block : Block) (collection : Value) (at : ℕ) (xs : List Value) → xs ≡ drop at (elements collection)
    → Alike k (direct.over s name block xs) (over (steps step_units) name block collection at xs)
unfolding running.with_element
over_same k s h name block collection at [] e x fits = (refl, fits)
over_same k s h name block collection at (y ∷ ys) e x fits =
    let rest : ys ≡ drop (at + 1) (elements collection) = ap (drop 1) e ∙ drop-drop 1 at (elements collection) in
    let onward = over (steps step_units) name block collection (at + 1) ys in
    let part : Action Doing (Option Reached) = running.run (steps step_units) block ⊳= (λ reached. inside_part (Each name block collection (at + 1)) reached (λ flow. action.pure (left flow))) in
    let f : Direct Flow = block_run s block >>= (λ flow. direct.stays flow (direct.over s name block ys)) in
    subst (λ (ran : Ran Doing Reached). Same k (and_then (in_exchange x (begin_turn name y x.doing)) (λ _. f)) (played ran x.answers x.asked))
    (sym (regrouped (begin_turn name y x.doing) (λ _. part) (λ p. otherwise p onward)))
    (quiet_same k (begin_turn name y x.doing) x (λ _. f) (λ _. part ⊳= (λ p. otherwise p onward)) (begin_within name y x.doing) fits
    (λ _. element_same k s h name block collection (at + 1) (direct.over s name block ys) ys rest (over_same k s h name block collection (at + 1) ys rest)))

for_same : (k : ℕ) (s : Statements) → SameAs k s → (name : List ℕ) (y : Expr) (block : Block) → Alike k (direct.for_in s name y block) (running.for_in (steps step_units) name y block)
unfolding direct.for_in running.for_in
for_same k s h name y block x fits =
    quiet_same k (reading (evaluated y) x.doing) x _ _ (reading_within y x.doing) fits
    (λ collection. alike_if k (is_collection collection) (direct.over s name block (elements collection)) (raise fault.BadType)
    (over (steps step_units) name block collection 0 (elements collection)) (action.fail fault.BadType)
    (over_same k s h name block collection 0 (elements collection) refl) (λ after within. (refl, within)))

-- a `try`
caught_same : (k : ℕ) (s : Statements) → SameAs k s → (name : Option (List ℕ)) (handler : Block) (e : Fault) → Alike k (direct.caught s name handler e) (running.caught (steps step_units) name handler e)
unfolding direct.caught running.caught
caught_same k s h name handler e =
    alike_if k (is_budget e) (raise e) (quietly (keep name (Exception e)) >> block_run s handler) (action.fail e) (keep name (Exception e) ⊳ running.run (steps step_units) handler)
    (λ x fits. (refl, fits))
    (λ x fits. quiet_same k (keep name (Exception e) x.doing) x _ _ (keep_within name (Exception e) x.doing) fits (λ _. block_same k s h handler))

handled_same : (k : ℕ) (s : Statements) → SameAs k s → (name : Option (List ℕ)) (handler : Block) (c : Came Flow) → Holds k c
    → Same k (direct.handled s name handler c) (beyond (Catch name handler) c)
handled_same k s h name handler (Gave flow x) fits = (refl, fits)
handled_same k s h name handler (Raised e x) fits = caught_same k s h name handler e x fits
handled_same k s h name handler (Waited x) fits = (refl, tt)

handled_frame : (name : Option (List ℕ)) (handler : Block) (ran : Ran Doing Reached) → running.handled (steps step_units) name handler ran ≡ resume (steps step_units) (Catch name handler ∷ []) ran
handled_frame name handler (Done (Went flow) st) = refl
handled_frame name handler (Done (Asks op frames) st) = refl
handled_frame name handler (Failed e st) = refl

attempt_same : (k : ℕ) (s : Statements) → SameAs k s → (block : Block) (name : Option (List ℕ)) (handler : Block)
    → Alike k (direct.attempt s block name handler) (running.attempt (steps step_units) block name handler)
unfolding direct.attempt running.attempt
attempt_same k s h block name handler x fits =
    let ran = running.run (steps step_units) block x.doing in
    let e = block_same k s h block x fits in
    let both = handled_same k s h name handler (block_run s block x) e.1 in (
      both.0 ∙ ap (beyond (Catch name handler)) e.0 ∙ sym (passes (Catch name handler) ran x.answers x.asked)
          ∙ ap (λ (r : Ran Doing Reached). played r x.answers x.asked) (sym (handled_frame name handler ran)),
      both.1,
    )

assignment_same : (k : ℕ) (name : List ℕ) (y : Expr) → Alike k (direct.assignment name y) (running.assignment name y)
unfolding direct.assignment running.assignment
assignment_same k name y x fits =
    quiet_same k (reading (evaluated y) x.doing) x _ _ (reading_within y x.doing) fits (λ v after within. (refl, within))

expression_same : (k : ℕ) (y : Expr) → Alike k (direct.expression y) (running.expression y)
unfolding direct.expression running.expression
expression_same k y x fits =
    quiet_same k (reading (evaluated y) x.doing) x _ _ (reading_within y x.doing) fits (λ v after within. (refl, within))

push_same : (k : ℕ) (name : List ℕ) (y : Expr) → Alike k (direct.push name y) (running.push name y)
unfolding direct.push running.push
push_same k name y x fits =
    quiet_same k (reading (evaluated y) x.doing) x _ _ (reading_within y x.doing) fits
    (λ v after within. quiet_same k (grown name v after.doing) after _ _ (grown_within name v after.doing) within (λ list last fit. (refl, fit)))

-- an operation, by the answers that are to come
asked_same : (k : ℕ) (name : List ℕ) (operation : Operation) (body : Option Body) (values : List Value) (st : Doing) (answers : List (Result Value Fault)) (asked : List Op)
    → Fits k (record { doing = st; answers = answers; asked = asked })
    → Same k ((direct.ask operation body values >>= (λ v. quietly (set name v) >> pure (Next v))) (record { doing = st; answers = answers; asked = asked }))
    (played (running.ask name operation body values st) answers asked)
asked_same k name operation body values st [] asked fits = (refl, tt)
asked_same k name operation body values st (Ok v ∷ answers) asked fits = (refl, (omega (arith, fits.0), omega arith))
asked_same k name operation body values st (Err e ∷ answers) asked fits = (refl, (omega (arith, fits.0), omega arith))

effect_same : (k : ℕ) (name : List ℕ) (operation : Operation) (body : Option Body) (args : List Expr) → Alike k (direct.effect name operation body args) (running.effect name operation body args)
unfolding direct.effect running.effect
effect_same k name operation body args x fits =
    quiet_same k (reading (all_evaluated args) x.doing) x _ _
    (beside_within x.doing.left x.doing.variables (all_evaluated args x.doing.variables x.doing.left) (all_evaluated_within args x.doing.variables x.doing.left)) fits
    (λ values after within. asked_same k name operation body values after.doing after.answers after.asked within)

statement_at_same : (k : ℕ) (s : Statements) → SameAs k s → (y : Stmt-F Stmt Arm Block Body) → Alike k (direct.statement_at s y) (running.statement_at (steps step_units) y)
statement_at_same k s h (Stmt-F.Set name y) = assignment_same k name y
statement_at_same k s h (Stmt-F.Value y) = expression_same k y
statement_at_same k s h (Stmt-F.Effect name operation body args) = effect_same k name operation body args
statement_at_same k s h (Stmt-F.If arms other) = branch_same k s h arms 0 other arms refl
statement_at_same k s h (Stmt-F.While arm) = while_same k s h arm
statement_at_same k s h (Stmt-F.For name y block) = for_same k s h name y block
statement_at_same k s h (Stmt-F.Try block name handler) = attempt_same k s h block name handler
statement_at_same k s h Stmt-F.Break = λ x fits. (refl, fits)
statement_at_same k s h Stmt-F.Continue = λ x fits. (refl, fits)
statement_at_same k s h (Stmt-F.Push name y) = push_same k name y

statement_same : (k : ℕ) (s : Statements) → SameAs k s → (y : Stmt) → Alike k (direct.statement s y) (running.statement (steps step_units) y)
unfolding direct.statement running.statement
statement_same k s h y = statement_at_same k s h (out-Stmt y)

-- a unit, and then what is the same with one less
spent_same : (k : ℕ) (f : Direct Flow) (g : Action Doing Reached) → Alike k f g → Alike (suc k) (quietly spend >> f) (spend ⊳ g)
spent_same k f g h x fits =
    let P : Ran Doing (Unit {0}) → Type 0 = λ r. Same (suc k) (and_then (in_exchange x r) (λ _. f)) (played (action.and_then r (λ _. g)) x.answers x.asked) in
    elim (x.doing.left == 0) as (λ b. x.doing.left == 0 ≡ b → P (spend x.doing)) [
      | true ↦ λ e. subst P (sym (spend_none x.doing (grind (arith, common_steps, e)))) (refl, fits)
      | false ↦ λ e. let some : 0 < x.doing.left = grind (arith, common_steps, e) in
          let after : Exchange = record { doing = record { variables = x.doing.variables; left = x.doing.left - 1 }; answers = x.answers; asked = x.asked } in
          let both = h after (omega (arith, some, fits.0), omega (arith, fits.1)) in
          subst P (sym (spend_some x.doing some)) (both.0, holds_le k (f after) both.1)
    ] refl

-- where no unit is left
none_same : (g h : Action Doing Reached) → ((st : Doing) → st.left ≤ step_units → h st ≡ action.and_then (spend st) (λ _. g)) → Alike zero (raise fault.Budget) h
none_same g h e x fits =
    let none : h x.doing ≡ Failed fault.Budget x.doing = e x.doing fits.1 ∙ after_none x.doing g (omega (arith, fits.0)) in
    subst (λ (ran : Ran Doing Reached). Same zero (Raised fault.Budget x) (played ran x.answers x.asked)) (sym none) (refl, fits)

-- a level in its own terms
level_same : (k : ℕ) (f : Direct Flow) (g h : Action Doing Reached) → ((st : Doing) → st.left ≤ step_units → h st ≡ action.and_then (spend st) (λ _. g)) → Alike k f g → Alike (suc k) (quietly spend >> f) h
level_same k f g h e i x fits =
    subst (λ (ran : Ran Doing Reached). Same (suc k) ((quietly spend >> f) x) (played ran x.answers x.asked)) (sym (e x.doing fits.1)) (spent_same k f g i x fits)

pub all_same : (k : ℕ) → SameAs k (statements k)
unfolding statements
all_same zero = record {
  exec = λ y. none_same (running.statement (steps step_units) y) ((steps step_units).exec y) (one_level step_units y);
  again = λ arm. none_same (running.turns (steps step_units) arm) ((steps step_units).again arm) (one_turn step_units arm);
}
all_same (suc k) = record {
  exec = λ y. level_same k (direct.statement (statements k) y) (running.statement (steps step_units) y) ((steps step_units).exec y) (one_level step_units y) (statement_same k (statements k) (all_same k) y);
  again = λ arm. level_same k (direct.turns (statements k) arm) (running.turns (steps step_units) arm) ((steps step_units).again arm) (one_turn step_units arm) (turns_same k (statements k) (all_same k) arm);
}

pub recursion : (fuel : ℕ) (body : Body) (vars : Variables) (answers : List (Result Value Fault)) → units_of_all answers ≤ fuel → resumed body vars answers ≡ run_through fuel body vars answers
unfolding run_through
recursion fuel body vars answers h =
    let block = (out-Body body).block in
    let start : Exchange = record { doing = record { variables = vars; left = step_units }; answers = answers; asked = [] } in
    resumed_course body vars answers
    ∙ ap course_of (sym (run_same fuel (statements fuel) (all_same fuel) block 0 (out-Block block).stmts refl Nothing start (h, omega arith)).0)

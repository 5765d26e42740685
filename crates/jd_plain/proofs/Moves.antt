-- No mark is legal exactly where nothing can go on.
use Rattle.std.proofs.Common.{◌≡◌, ℕ, Bool, true, false, ◌||◌, ◌&&◌, not, cond, List, [], ◌∷◌, Option, None, Some, option_map, is_some, is_none, refl, ap, ◌∙◌, sym, ◌==◌}
use Rattle.std.proofs.Common.{rules}
use Rattle.std.specs.Bool.{IsTrue}
use Rattle.std.specs.List.{list_any}
use Rattle.std.specs.Map.{lookup, keys_of}
use Rattle.std.specs.HashMap.{HashMap, get, keys}
use Rattle.std.proofs.lemmas.Bool.{eqb-true, eq-eqb}
use Rattle.jd_value.specs.declared.reference.Ask.{Ask}
use Rattle.jd_task.specs.declared.job.TaskId.{TaskId}
use Rattle.jd_model.specs.declared.mark.Mark.{Mark}
use Rattle.jd_model.specs.declared.mark.Effect.{Effect}
use Rattle.jd_model.specs.declared.mark.Effect.TheVariants.{Ran, Started, Took, Returned, Local, Printed}
use Rattle.jd_model.specs.declared.ending.Ending.{Ending}
use Rattle.jd_model.specs.Machine.{State, Task, Request, IsStopped, legal, legal_at, goes_on, is_called, has_come, request_of, is_set, is_asked, outcome_of, may_run, may_start, may_return, may_look, may_take, line_of_task, is_live}
use Rattle.jd_plain.specs.declared.task.Task.{Task as HeldTask}
use Rattle.jd_plain.specs.declared.request.Request.{Request as HeldRequest}
use Rattle.jd_plain.specs.Held.{task_of, request_of as request_held}
use Rattle.jd_plain.specs.declared.plain.Plain.{Plain}
use Rattle.jd_plain.specs.State.{state_of}
use Rattle.jd_plain.specs.Stopped.{moves_task, moves_request, has_moving_task, has_moving_request, has_moving}
use Rattle.jd_plain.specs.Tables.{same_task, same_ask}
use Rattle.jd_plain.proofs.Puts.{and-fst, and-snd}

-- ---- tests

or_fst : (a b : Bool) → (a || b) ≡ false → a ≡ false
or_fst true b h = h
or_fst false b h = refl

or_snd : (a b : Bool) → (a || b) ≡ false → b ≡ false
or_snd true b h = cc
or_snd false b h = h

or_both : (a b : Bool) → a ≡ false → b ≡ false → (a || b) ≡ false
or_both a b f g = ap (λ x. x || b) f ∙ g

and_false : (a : Bool) → (a && false) ≡ false
and_false true = refl
and_false false = refl

at_home : (n : ℕ) (b : Bool) → (n == n && b) ≡ false → b ≡ false
at_home n b h = sym (ap (λ x. x && b) (eq-eqb n n refl)) ∙ h

none_pass : {X : Type 0} (p : X → Bool) (xs : List X) → ((x : X) → p x ≡ false) → list_any p xs ≡ false
none_pass p [] h = refl
none_pass p (x ∷ xs) h = or_both (p x) (list_any p xs) (h x) (none_pass p xs h)

-- ---- keys

abbrev IfKey : {X : Type 0} → Option X → Bool → Type 0
IfKey None b = Unit {0}
IfKey (Some v) b = b ≡ false

module _ {K X : Type 0} (same : K → K → Bool) (tells : (a b : K) → same a b ≡ true → a ≡ b) (g : K → Bool) (q : K) where
  is_key : (es : List (K × X)) → list_any g (keys_of es) ≡ false → IfKey (lookup (same q) es) (g q)
  is_key [] h = tt
  is_key (e ∷ es) h =
      elim (same q e.0) as (λ b. same q e.0 ≡ b → IfKey (cond b (Some e.1) (lookup (same q) es)) (g q)) [
        | true ↦ λ r. ap g (tells q e.0 r) ∙ or_fst (g e.0) (list_any g (keys_of es)) h
        | false ↦ λ _. is_key es (or_snd (g e.0) (list_any g (keys_of es)) h)
      ] refl

tells_task : (a b : TaskId) → same_task a b ≡ true → a ≡ b
tells_task a b h =
    let p = eqb-true a.process b.process (and-fst (a.process == b.process) (a.number == b.number) h) in
    let n = eqb-true a.number b.number (and-snd (a.process == b.process) (a.number == b.number) h) in
    λ i. record { process = p i; number = n i }

tells_ask : (a b : Ask) → same_ask a b ≡ true → a ≡ b
tells_ask a b h =
    let p = eqb-true a.process b.process (and-fst (a.process == b.process) (a.number == b.number) h) in
    let n = eqb-true a.number b.number (and-snd (a.process == b.process) (a.number == b.number) h) in
    λ i. record { process = p i; number = n i }

-- ---- at a state where nothing moves

module _ (x : Plain) where
  still_held : (o : Option HeldTask) → IfKey o (moves_task (state_of x) (option_map task_of o)) → moves_task (state_of x) (option_map task_of o) ≡ false
  still_held None h = refl
  still_held (Some v) h = h

  still_task : has_moving_task x ≡ false → (t : TaskId) → moves_task (state_of x) ((state_of x).tasks t.process t.number) ≡ false
  still_task h t =
      still_held (get same_task x.tasks.held t)
      (is_key same_task tells_task (λ u. moves_task (state_of x) ((state_of x).tasks u.process u.number)) t x.tasks.held.entries h)

  still_asked : (o : Option HeldRequest) → IfKey o (moves_request (state_of x) (option_map request_held o)) → moves_request (state_of x) (option_map request_held o) ≡ false
  still_asked None h = refl
  still_asked (Some v) h = h

  still_request : has_moving_request x ≡ false → (a : Ask) → moves_request (state_of x) ((state_of x).requests a.process a.number) ≡ false
  still_request h a =
      still_asked (get same_ask x.requests.held a)
      (is_key same_ask tells_ask (λ b. moves_request (state_of x) ((state_of x).requests b.process b.number)) a x.requests.held.entries h)

  run_still : (by : ℕ) (o : Option Task) → moves_task (state_of x) o ≡ false → may_run (state_of x) by o ≡ false
  run_still by None h = refl
  run_still by (Some k) h = ap (λ b. by == k.home && b) (or_fst (goes_on (state_of x) k.home k.life) _ h) ∙ and_false (by == k.home)

  start_still : (by caller : ℕ) (o : Option Task) → moves_task (state_of x) o ≡ false → may_start (state_of x) by caller o ≡ false
  start_still by caller None h = refl
  start_still by caller (Some k) h =
      let rest = or_snd (goes_on (state_of x) k.home k.life) _ h in
      ap (λ b. by == k.home && b) (or_fst (is_called k.life) _ rest) ∙ and_false (by == k.home)

  return_still : (by : ℕ) (o : Option Task) → moves_task (state_of x) o ≡ false → may_return (state_of x) by o ≡ false
  return_still by None h = refl
  return_still by (Some k) h =
      let rest = or_snd (is_called k.life) _ (or_snd (goes_on (state_of x) k.home k.life) _ h) in
      ap (λ b. by == k.home && b) (or_fst (has_come (state_of x) k.home (request_of (state_of x) k.home k.life)) _ rest) ∙ and_false (by == k.home)

  look_still : (by : ℕ) (o : Option Task) → moves_task (state_of x) o ≡ false → may_look (state_of x) by o ≡ false
  look_still by None h = refl
  look_still by (Some k) h =
      let rest = or_snd (is_called k.life) _ (or_snd (goes_on (state_of x) k.home k.life) _ h) in
      ap (λ b. by == k.home && b) (or_snd (has_come (state_of x) k.home (request_of (state_of x) k.home k.life)) _ rest) ∙ and_false (by == k.home)

  take_still : (by p : ℕ) (o : Option Request) → moves_request (state_of x) o ≡ false → may_take (state_of x) by p o ≡ false
  take_still by p None h = refl
  take_still by p (Some q) h = ap (λ b. by == q.cell.owner && b) h ∙ and_false (by == q.cell.owner)

  effect_still : has_moving x ≡ false → (e : Effect) (by : ℕ) → legal_at (state_of x) e by ≡ false
  effect_still h (Ran t) by = run_still by _ (still_task (or_fst (has_moving_task x) _ h) t)
  effect_still h (Started t) by = start_still by t.process _ (still_task (or_fst (has_moving_task x) _ h) t)
  effect_still h (Took a) by = take_still by a.process _ (still_request (or_fst (has_moving_request x) _ (or_snd (has_moving_task x) _ h)) a)
  effect_still h (Returned t) by = return_still by _ (still_task (or_fst (has_moving_task x) _ h) t)
  effect_still h (Local t) by = look_still by _ (still_task (or_fst (has_moving_task x) _ h) t)
  effect_still h Printed by = ap (λ b. by == 1 && b) (or_snd (has_moving_request x) _ (or_snd (has_moving_task x) _ h)) ∙ and_false (by == 1)

  pub nothing_legal : has_moving x ≡ false → IsStopped (state_of x)
  nothing_legal h m = ap (λ b. is_none x.ending && b) (effect_still h m.effect m.by) ∙ and_false (is_none x.ending)

-- ---- at a state where no mark is legal

module _ (x : Plain) (running : x.ending ≡ None) (h : IsStopped (state_of x)) where
  refused : (e : Effect) (by : ℕ) → legal_at (state_of x) e by ≡ false
  refused e by = sym (ap (λ o. is_none o && legal_at (state_of x) e by) running) ∙ h (record { effect = e; by = by })

  task_stays : (t : TaskId) (o : Option Task) → (state_of x).tasks t.process t.number ≡ o → moves_task (state_of x) o ≡ false
  task_stays t None r = refl
  task_stays t (Some k) r =
      let s = state_of x in
      or_both (goes_on s k.home k.life) _ (at_home k.home _ (sym (ap (may_run s k.home) r) ∙ refused (Ran t) k.home))
      (or_both (is_called k.life) _ (at_home k.home _ (sym (ap (may_start s k.home t.process) r) ∙ refused (Started t) k.home))
      (or_both (has_come s k.home (request_of s k.home k.life)) _ (at_home k.home _ (sym (ap (may_return s k.home) r) ∙ refused (Returned t) k.home))
      (at_home k.home _ (sym (ap (may_look s k.home) r) ∙ refused (Local t) k.home))))

  request_stays : (a : Ask) (o : Option Request) → (state_of x).requests a.process a.number ≡ o → moves_request (state_of x) o ≡ false
  request_stays a None r = refl
  request_stays a (Some q) r =
      at_home q.cell.owner _ (sym (ap (may_take (state_of x) q.cell.owner a.process) r) ∙ refused (Took a) q.cell.owner)

  pub nothing_moves : has_moving x ≡ false
  nothing_moves =
      or_both (has_moving_task x) _ (none_pass _ (keys x.tasks.held) (λ t. task_stays t ((state_of x).tasks t.process t.number) refl))
      (or_both (has_moving_request x) _ (none_pass _ (keys x.requests.held) (λ a. request_stays a ((state_of x).requests a.process a.number) refl))
      (refused Printed 1))

-- ---- where main has ended

no_end : (o : Option Ending) (b : Bool) → is_some o ≡ true → (is_none o && b) ≡ false
no_end None b h = cc
no_end (Some o) b h = refl

pub ended_stopped : (x : Plain) → is_some x.ending ≡ true → IsStopped (state_of x)
ended_stopped x h m = no_end x.ending (legal_at (state_of x) m.effect m.by) h

-- ---- the answer

pub false_of : (b : Bool) → IsTrue (not b) → b ≡ false
false_of true h = search rules
false_of false h = refl

pub true_of : (b : Bool) → b ≡ false → IsTrue (not b)
true_of true h = cc
true_of false h = search rules

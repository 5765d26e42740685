-- No step of a process prints: main's line is printed outside of steps.
use Rattle.std.proofs.Common.{◌≡◌, ℕ, ◌+◌, ◌==◌, List, [], ◌∷◌, ◌++◌, map, Option, Some, None, Bool, true, false, Ok, Err, refl, arith, ap, subst, ◌∙◌, if◌then◌else◌}
use Rattle.jd_value.specs.declared.reference.RefId.{RefId}
use Rattle.jd_value.specs.declared.reference.Ask.{Ask}
use Rattle.jd_value.specs.declared.value.Value.TheVariants.{Future}
use Rattle.jd_task.specs.declared.job.TaskId.{TaskId}
use Rattle.jd_task.specs.declared.place.Place.{Place}
use Rattle.jd_task.specs.declared.job.Turn.{Turn}
use Rattle.jd_task.specs.declared.job.Turn.TheVariants.{Asks, Ended}
use Rattle.jd_task.specs.declared.msg.Msg.{Msg}
use Rattle.jd_task.specs.declared.msg.Msg.TheVariants.{Begin, Call, Fetch, Reply}
use Rattle.jd_task.specs.Running.{advance}
use Rattle.jd_model.specs.Outcome.{Outcome}
use Rattle.jd_model.specs.declared.asking.Asking.{Asking}
use Rattle.jd_model.specs.declared.asking.Asking.TheVariants as asking
use Rattle.jd_model.specs.declared.life.Stage.{Stage}
use Rattle.jd_model.specs.declared.life.Stage.TheVariants as stage
use Rattle.jd_model.specs.declared.mark.Effect.{Effect}
use Rattle.jd_model.specs.declared.mark.Effect.TheVariants.{Ran, Took}
use Rattle.jd_model.specs.Table.{one, count}
use Rattle.jd_laws.proofs.Basics.{some_same, count-append}
use Rattle.jd_value.specs.declared.fault.Fault.TheVariants as fault
use Rattle.jd_model.specs.Machine.{is_same, passed_on}
use Rattle.jd_model.specs.Node as node
use Rattle.jd_model.specs.Node.{Node, Running as RunningTask, OpenAsk, Stepped, Waiting}
use Rattle.jd_model.specs.World.{marked}
use Rattle.jd_laws.specs.Laws.{is_line, prints}

-- None of these effects prints a line.
abbrev pub IsSilent : List Effect → Type 0
IsSilent es = count is_line es ≡ 0

pub silent_append : (es fs : List Effect) → IsSilent es → IsSilent fs → IsSilent (es ++ fs)
silent_append es fs a b = omega (arith, count-append is_line es fs)

pub silent_first : (es fs : List Effect) → IsSilent (es ++ fs) → IsSilent es
silent_first es fs a = omega (arith, count-append is_line es fs)

pub silent_marks : (p : ℕ) (es : List Effect) → IsSilent es → count prints (map (marked p) es) ≡ 0
silent_marks p es a = same es ∙ a
  where
    same : (xs : List Effect) → count prints (map (marked p) xs) ≡ count is_line xs
    same [] = refl
    same (x ∷ xs) = ap (λ i. one (is_line x) + i) (same xs)

-- ---- answers

silent_task : (n : Node) (t : TaskId) (r : RefId) (v : Outcome) (x : Option RunningTask) → IsSilent (node.answered_task n t r v x).effects
silent_task n t r v None = refl
silent_task n t r v (Some k) = refl

silent_ask : (n : Node) (c : ℕ) (v : Outcome) (x : Option OpenAsk) → IsSilent (node.answered_ask n c v x).effects
silent_ask n c v None = refl
silent_ask n c v (Some q) = silent_task _ q.task q.cell v _

silent_woken : (p : ℕ) (n : Node) (who : Ask) (v : Outcome) → IsSilent (node.woken p n who v).effects
silent_woken p n who v = by_test (who.process == p)
  where
    by_test : (b : Bool) → IsSilent (if b then node.answered_own n p who.number v else record { node = node.send n who.process (Reply who.number v); effects = Took who ∷ [] }).effects
    by_test true = silent_append (Took (record { process = p; number = who.number }) ∷ []) (node.answered_ask n who.number v (n.asks who.number)).effects refl (silent_ask n who.number v (n.asks who.number))
    by_test false = refl

silent_waking : (p : ℕ) (r : RefId) (v : Outcome) (ws : List Waiting) (st : Stepped) → IsSilent st.effects → IsSilent (node.then_woken p r v ws st).effects
silent_waking p r v [] st a = a
silent_waking p r v (x ∷ xs) st a =
    let rest = λ (z : Stepped) (h : IsSilent z.effects). silent_waking p r v xs z h in
    elim (is_same r x.cell) as (λ b. IsSilent (node.then_woken p r v xs (if b then node.behind st.effects (node.woken p st.node x.ask v) else st)).effects) [
      | true ↦ rest (node.behind st.effects (node.woken p st.node x.ask v)) (silent_append st.effects (node.woken p st.node x.ask v).effects a (silent_woken p st.node x.ask v))
      | false ↦ rest st a
    ]

-- ---- arrivals

pub silent_arrival : (p : ℕ) (m : Msg) (n : Node) → IsSilent (node.delivered p m n).effects
silent_arrival p (Begin r) n = refl
silent_arrival p (Call r t code args) n = refl
silent_arrival p (Fetch c r) n = by_store (node.stored_at n r)
  where
    by_store : (z : Option Outcome) → IsSilent (node.fetch_answered p c r n z).effects
    by_store None = refl
    by_store (Some v) = refl
silent_arrival p (Reply c v) n = silent_ask n c v (n.asks c)

-- ---- a task that goes on

silent_end : (p : ℕ) (n : Node) (cell : Option RefId) (v : Outcome) → IsSilent (node.ended p n cell v).effects
silent_end p n None v = refl
silent_end p n (Some r) v = by_store (node.stored_at n r)
  where
    by_store : (z : Option Outcome) → IsSilent (node.set_once_at p n r (passed_on p v) z).effects
    by_store (Some old) = refl
    by_store None = silent_waking p r (passed_on p v) n.waiting _ refl

silent_fetch : (p : ℕ) (n : Node) (t : TaskId) (cell : Option RefId) (x : Place) (r : RefId) (c : ℕ) (z : Option Outcome) → IsSilent (node.fetched p n t cell x r c z).effects
silent_fetch p n t cell x r c (Some v) = refl
silent_fetch p n t cell x r c None = by_tests (n.noticed r.owner) (r.owner == p) (node.stored_at n r)
  where
    by_tests : (a b : Bool) (y : Option Outcome) → IsSilent (if a then node.silent (node.readied n t cell x (Err (fault.Exited r.owner)))
        else (if b then node.fetched_own p n t cell x r c y else node.fetched_there n t cell x r c)).effects
    by_tests true b y = refl
    by_tests false true (Some v) = refl
    by_tests false true None = refl
    by_tests false false y = refl

silent_wants : (p : ℕ) (n : Node) (t : TaskId) (cell : Option RefId) (x : Place) (want : Asking) → IsSilent (node.wants p n t cell x want).effects
silent_wants p n t cell x (asking.Answers v) = refl
silent_wants p n t cell x (asking.Prints vs) = refl
silent_wants p n t cell x (asking.Fetches r) = silent_fetch p (record n { asked = n.asked + 1 }) t cell x r (n.asked + 1) (node.cached_at n r)
silent_wants p n t cell x (asking.Calls q code args) = by_test (q == p)
  where
    r : RefId
    r = record { maker = p; number = n.made + 1; owner = q }

    u : TaskId
    u = record { process = p; number = n.called + 1 }

    m : Node
    m = record (node.readied n t cell x (Ok (Future r))) { made = r.number; called = u.number }

    by_test : (b : Bool) → IsSilent (if b then node.called_here m r u code args else node.called_there m r u code args).effects
    by_test true = refl
    by_test false = refl

silent_turn : (p : ℕ) (n : Node) (t : TaskId) (cell : Option RefId) (x : Place) (turn : Turn) → IsSilent (node.turned p n t cell x turn).effects
silent_turn p n t cell x (Ended v) = silent_end p n cell v
silent_turn p n t cell x (Asks op) = silent_wants p n t cell x _

pub silent_run : (p : ℕ) (n : Node) (xs : List TaskId) (step : Stepped) → node.ran p n xs ≡ Some step → IsSilent step.effects
silent_run p n [] step h = cc
silent_run p n (t ∷ rest) step h = by_task (n.tasks t.process t.number) h
  where
    by_stage : (k : RunningTask) (st : Stage) → node.ran_from p (node.handed_out n t rest) t k st ≡ Some step → IsSilent step.effects
    by_stage k (stage.Waits c) h = cc
    by_stage k (stage.Prints vs) h = cc
    by_stage k (stage.Ready o) h = subst (λ (z : Stepped). IsSilent z.effects) (some_same _ _ h) (silent_append (Ran t ∷ []) (node.turned p (node.handed_out n t rest) t k.cell (advance k.place o).0 (advance k.place o).1).effects refl (silent_turn p (node.handed_out n t rest) t k.cell (advance k.place o).0 (advance k.place o).1))

    by_task : (x : Option RunningTask) → node.ran_task p n rest t x ≡ Some step → IsSilent step.effects
    by_task None h = cc
    by_task (Some k) h = by_stage k k.stage h

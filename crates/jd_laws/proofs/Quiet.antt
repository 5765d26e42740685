-- Where no event is possible and process 1 waits, the machine has stopped.
use Rattle.std.proofs.Common.{◌≡◌, ℕ, ◌+◌, ◌<◌, ◌==◌, List, [], ◌∷◌, ◌++◌, Option, Some, None, Bool, true, false, not, is_none, refl, arith, ap, sym, subst, ◌∙◌, if◌then◌else◌, option_map}
use Rattle.jd_value.specs.declared.reference.RefId.{RefId}
use Rattle.jd_value.specs.declared.value.Value.{Value}
use Rattle.jd_task.specs.declared.job.TaskId.{TaskId}
use Rattle.jd_task.specs.declared.closure.Closure.{Closure}
use Rattle.jd_task.specs.declared.msg.Msg.{Msg}
use Rattle.jd_task.specs.declared.msg.Msg.TheVariants.{Reply}
use Rattle.jd_model.specs.Outcome.{Outcome}
use Rattle.jd_model.specs.declared.life.Stage.{Stage}
use Rattle.jd_model.specs.declared.life.Stage.TheVariants as stage
use Rattle.jd_model.specs.declared.life.Life.TheVariants.{Called}
use Rattle.jd_model.specs.declared.life.Answer.TheVariants.{Asked}
use Rattle.jd_model.specs.declared.mark.Effect.{Effect}
use Rattle.jd_model.specs.declared.mark.Effect.TheVariants.{Ran, Started, Took, Returned, Local, Printed}
use Rattle.jd_model.specs.Table.{one, count, only, All}
use Rattle.jd_laws.proofs.Basics.{and_right, both, is_false, same_test, test_self, one_is, at_put}
use Rattle.jd_model.specs.Machine.{State, Task, Request, outcome_of, legal_at, ending_of, is_called, is_asked}
use Rattle.jd_model.specs.Node as node
use Rattle.jd_model.specs.Node.{Node, Running as RunningTask, Stepped, Waiting, ran, main_line, printing}
use Rattle.jd_model.specs.World.{Net, Told, Moved, IsQuiet, happens, moves, added, emitted, arrived, moved_by, is_outside}
use Rattle.jd_model.specs.declared.event.Event.{Event}
use Rattle.jd_model.specs.declared.event.Event.TheVariants.{Emit, Deliver, Run}
use Rattle.jd_model.specs.Refines.{IsUnset, way, is_task_of, is_ready, is_ready_stage, is_call, call_message, call_messages, is_fetch, is_waiting, is_pending, is_reply, reply_messages}
use Rattle.jd_laws.proofs.Reached.{IsReached}
use Rattle.jd_laws.proofs.Effects.{runnable, startable, takable, returnable, lookable, printable}
use Rattle.jd_laws.proofs.Fits.{NodeFits, Fits, runs_at}
use Rattle.jd_laws.proofs.Licences.{cell_is, cell_self}
use Rattle.jd_laws.proofs.AtWork.{task_at, shown_at, shows}
use Rattle.jd_laws.proofs.Standing.{cluster, waits_in, reached_state, fits_of}
use Rattle.jd_laws.specs.Laws.{IsWaitingHub, QuietIsStopped, EndedIsEnding, ReadyRuns}

-- ---- a ready task goes on

-- The first task that is ready is there and can go on.
first_runs : (p : ℕ) (n : Node) (s : State) (t : TaskId) (rest : List TaskId) → NodeFits p n s → n.ready ≡ t ∷ rest → node.ran p n (t ∷ rest) ≡ None → ⊥
first_runs p n s t rest f e h = by_task (n.tasks t.process t.number) refl h
  where
    can : is_ready (runs_at p (s.tasks t.process t.number)) ≡ true
    can =
        let all : count (is_task_of t.process t.number) (t ∷ rest) ≡ one (is_ready (runs_at p (s.tasks t.process t.number))) = ap (count (is_task_of t.process t.number)) (sym e) ∙ f.tasks.once t.process t.number in
        let self : is_task_of t.process t.number t ≡ true = rw (test_self t.process, test_self t.number) refl in
        one_is _ (count (is_task_of t.process t.number) (t ∷ rest)) (grind (arith, self)) all

    by_stage : (k : RunningTask) (st : Stage) → k.stage ≡ st → is_ready_stage st ≡ true → node.ran_from p (node.handed_out n t rest) t k st ≡ None → ⊥
    by_stage k (stage.Ready o) es r h = cc
    by_stage k (stage.Waits c) es r h = cc
    by_stage k (stage.Prints vs) es r h = cc

    by_task : (x : Option RunningTask) → n.tasks t.process t.number ≡ x → node.ran_task p n rest t x ≡ None → ⊥
    by_task None ex h = let none : is_ready (runs_at p (s.tasks t.process t.number)) ≡ false = ap is_ready (sym (f.tasks.same t.process t.number) ∙ ex) in let clash : false ≡ true = sym none ∙ can in cc
    by_task (Some k) ex h = by_stage k k.stage refl (sym (ap is_ready (sym (f.tasks.same t.process t.number) ∙ ex)) ∙ can) h

pub none_ready : (p : ℕ) (n : Node) (s : State) → NodeFits p n s → node.ran p n n.ready ≡ None → n.ready ≡ []
none_ready p n s f h = by_ready n.ready refl h
  where
    by_ready : (xs : List TaskId) → n.ready ≡ xs → node.ran p n xs ≡ None → n.ready ≡ []
    by_ready [] e h = e
    by_ready (t ∷ rest) e h = absurd (first_runs p n s t rest f e h)

pub ready_runs : ReadyRuns
ready_runs program start hub t lines f l h = none_ready 1 hub f.state ((fits_of program start hub t lines f l).nodes 1) h

-- ---- nothing is under way

-- An event that isn't possible has no step.
no_step : (t : Told) (e : Event) → happens t e ≡ None → is_outside e ≡ true → moves t.outside.net e ≡ None
unfolding happens
no_step t e h out = by_step (moves t.outside.net e) refl (subst (λ (b : Bool). (if b then added t (moves t.outside.net e) else None) ≡ None) out h)
  where
    by_step : (o : Option Moved) → moves t.outside.net e ≡ o → added t o ≡ None → moves t.outside.net e ≡ None
    by_step None eo h = eo
    by_step (Some m) eo h = cc

no_mail : (w : Net) (p q : ℕ) → moves w (Emit p q) ≡ None → (w.nodes p).outbox q ≡ []
unfolding moves
no_mail w p q h = by_list ((w.nodes p).outbox q) h
  where
    by_list : (xs : List Msg) → emitted w p q xs ≡ None → xs ≡ []
    by_list [] h = refl
    by_list (x ∷ xs) h = cc

no_arrival : (w : Net) (p q : ℕ) → moves w (Deliver p q) ≡ None → w.links p q ≡ []
unfolding moves
no_arrival w p q h = by_list (w.links p q) h
  where
    by_list : (xs : List Msg) → arrived w p q xs ≡ None → xs ≡ []
    by_list [] h = refl
    by_list (x ∷ xs) h = cc

no_run : (w : Net) (p : ℕ) → moves w (Run p) ≡ None → ran p (w.nodes p) (w.nodes p).ready ≡ None
unfolding moves
no_run w p h = by_step (ran p (w.nodes p) (w.nodes p).ready) h
  where
    by_step : (x : Option Stepped) → moved_by w p x ≡ None → x ≡ None
    by_step None h = refl
    by_step (Some st) h = cc

-- Nothing is on its way, and nothing is ready.
pub record IsIdle (w : Net) : Type 0 where
  pub ways : (p q : ℕ) → way w p q ≡ []
  pub ready : (p : ℕ) → (w.nodes p).ready ≡ []

quiet_idle : (hub : Node) (t : Told) (s : State) → Fits (cluster t hub) (waits_in (cluster t hub)) s → IsQuiet t → IsWaitingHub hub → IsIdle (cluster t hub)
quiet_idle hub t s f quiet waits = record {
  ways = λ p q. ap (λ ms. ms ++ ((cluster t hub).nodes p).outbox q) (links p q) ∙ outboxes p q;
  ready = readies;
}
  where
    net : Net
    net = t.outside.net

    by_main : (p : ℕ) (P : Node → Type 0) → P hub → ((p == 1) ≡ false → P (net.nodes p)) → P ((cluster t hub).nodes p)
    by_main p P main other = at_put net.nodes 1 hub p P (λ _. main) other

    is_worker : (p : ℕ) → (p == 1) ≡ false → not (p == 1) ≡ true
    is_worker p ne = ap not ne

    links : (p q : ℕ) → net.links p q ≡ []
    links p q = by_target (q == 1) refl
      where
        by_target : (b : Bool) → (q == 1) ≡ b → net.links p q ≡ []
        by_target true e = ap (net.links p) (same_test q 1 e) ∙ quiet.links p
        by_target false e = no_arrival net p q (no_step t (Deliver p q) (quiet.events (Deliver p q)) (is_worker q e))

    outboxes : (p q : ℕ) → ((cluster t hub).nodes p).outbox q ≡ []
    outboxes p q = by_main p (λ n. n.outbox q ≡ []) (waits.outbox q) (λ ne. no_mail net p q (no_step t (Emit p q) (quiet.events (Emit p q)) (is_worker p ne)))

    same_node : (p : ℕ) → (p == 1) ≡ false → (cluster t hub).nodes p ≡ net.nodes p
    same_node p ne = ap (λ (b : Bool). if b then hub else net.nodes p) ne

    readies : (p : ℕ) → ((cluster t hub).nodes p).ready ≡ []
    readies p = by_main p (λ n. n.ready ≡ []) waits.ready
        (λ ne. none_ready p (net.nodes p) s (subst (λ (n : Node). NodeFits p n s) (same_node p ne) (f.nodes p)) (no_run net p (no_step t (Run p) (quiet.events (Run p)) (is_worker p ne))))

-- ---- no mark is legal

-- One that is counted is there.
counted : {X : Type 0} (P : X → Type 0) (f : X → Bool) (xs : List X) → All P xs → 0 < count f xs → (x : X) × P x × (f x ≡ true)
counted P f [] a h = absurd (omega arith)
counted {X = X} P f (x ∷ xs) a h =
    let rest = λ (k : 0 < count f xs). counted P f xs a.1 k in
    elim (f x) as (λ b. f x ≡ b → 0 < one b + count f xs → (y : X) × P y × (f y ≡ true)) [
      | true ↦ λ e k. (x, a.0, e)
      | false ↦ λ e k. rest (omega arith)
    ] refl h

module _ (w : Net) (s : State) (a : IsReached s) (f : Fits w (waits_in w) s) (unset : (q : ℕ) → All (IsUnset s) (w.nodes q).waiting) (idle : IsIdle w) where
  no_ready : (t : TaskId) (p : ℕ) → is_ready (runs_at p (s.tasks t.process t.number)) ≡ true → ⊥
  no_ready t p r =
      let once : count (is_task_of t.process t.number) (w.nodes p).ready ≡ 1 = (f.nodes p).tasks.once t.process t.number ∙ ap one r in
      let none : count (is_task_of t.process t.number) (w.nodes p).ready ≡ 0 = ap (count (is_task_of t.process t.number)) (idle.ready p) in
      omega arith

  -- a request that isn't answered waits, and its cell isn't set
  no_set : (p c : ℕ) (q : Request) (o : Outcome) → s.requests p c ≡ Some q → q.answer ≡ Asked → outcome_of s q.cell ≡ Some o → ⊥
  no_set p c q o there asked outcome =
      let r = q.cell in
      let test = is_waiting p c r.maker r.number r.owner in
      let pending : is_pending r.maker r.number r.owner (s.requests p c) ≡ true = ap (is_pending r.maker r.number r.owner) there ∙ both (is_asked q.answer) _ (ap is_asked asked) (cell_self r) in
      let balance = f.ways.fetch p c r.maker r.number r.owner in
      let none : count (is_fetch c r.maker r.number r.owner) (way w p r.owner) ≡ 0 = ap (count (is_fetch c r.maker r.number r.owner)) (idle.ways p r.owner) in
      let some : 0 < count test (w.nodes r.owner).waiting = grind (arith, balance, none, pending) in
      let x = counted (IsUnset s) test (w.nodes r.owner).waiting (unset r.owner) some in
      let cell : x.0.cell ≡ r = cell_is x.0.cell r (and_right (x.0.ask.number == c) _ (and_right (x.0.ask.process == p) _ x.2)) in
      let clash : None ≡ Some o = sym (ap (outcome_of s) (sym cell) ∙ x.1) ∙ outcome in
      cc

  no_mark : (e : Effect) (by : ℕ) → main_line (w.nodes 1) ≡ None → legal_at s e by ≡ true → ⊥
  no_mark (Ran t) by line l =
      let r = runnable s t by a l in
      no_ready t r.0.home (ap (λ (x : Option Task). is_ready (runs_at r.0.home x)) (r.3.there ∙ (λ j. Some (record { home = r.0.home; cell = r.0.cell; life = r.3.life j }))) ∙ ap is_ready (shows r.0.home r.0.cell r.1 (stage.Ready r.2)))
  no_mark (Started t) by line l =
      let r = startable s t by l in
      let k = r.0 in
      let none : only (is_call t.number) (way w t.process k.home) ≡ [] = ap (only (is_call t.number)) (idle.ways t.process k.home) in
      let called : call_messages t.process k.home t.number (s.tasks t.process t.number) ≡ call_message t.process t.number k.cell (Called r.1 r.2) =
      ap (call_messages t.process k.home t.number) r.3.there ∙ ap (λ (b : Bool). if b then call_message t.process t.number k.cell k.life else []) (test_self k.home) ∙ ap (call_message t.process t.number k.cell) r.3.life in
      by_cell t k r.1 r.2 r.3.there r.3.life k.cell refl (sym none ∙ f.ways.call t.process k.home t.number ∙ called)
    where
      by_cell : (t : TaskId) (k : Task) (code : Closure) (args : List Value) → s.tasks t.process t.number ≡ Some k → k.life ≡ Called code args → (c : Option RefId) → k.cell ≡ c
          → [] ≡ call_message t.process t.number c (Called code args) → ⊥
      by_cell t k code args there life None ec e = let begun : is_called k.life ≡ false = a.begun t.process t.number k there ec in let called : is_called k.life ≡ true = ap is_called life in cc
      by_cell t k code args there life (Some r) ec e = cc
  no_mark (Took x) by line l = let r = takable s x.process x.number by l in no_set x.process x.number r.0 r.1 r.2.there r.2.asked r.2.outcome
  no_mark (Returned t) by line l =
      let r = returnable s t by l in
      let q = r.3 in
      let none : only (is_reply r.2) (way w q.cell.owner r.0.home) ≡ [] = ap (only (is_reply r.2)) (idle.ways q.cell.owner r.0.home) in
      let kept : reply_messages q.cell.owner r.2 (s.requests r.0.home r.2) ≡ Reply r.2 r.4 ∷ [] =
      ap (reply_messages q.cell.owner r.2) r.5.request ∙ rw (test_self q.cell.owner, r.6) refl in
      let clash : [] ≡ Reply r.2 r.4 ∷ [] = sym none ∙ f.ways.reply r.0.home q.cell.owner r.2 ∙ kept in
      cc
  no_mark (Local t) by line l = let r = lookable s t by l in no_set r.0.home r.2 r.3 r.4 r.5.request r.6 r.7
  no_mark Printed by line l =
      let r = printable s by l in
      let k = r.0 in
      let there : s.tasks 1 0 ≡ Some (task_at 1 k.cell r.1 (stage.Prints r.2)) = r.3.there ∙ (λ j. Some (record { home = a.main_home k r.3.there j; cell = k.cell; life = r.3.life j })) in
      let shown : (w.nodes 1).tasks 1 0 ≡ Some (shown_at k.cell r.1 (stage.Prints r.2)) = (f.nodes 1).tasks.same 1 0 ∙ ap (runs_at 1) there in
      let clash : Some r.2 ≡ None = sym (ap printing shown) ∙ line in
      cc

pub quiet_is_stopped : QuietIsStopped
quiet_is_stopped program start hub t lines f quiet waits m =
    let a = reached_state program start hub t lines f in
    let fits = fits_of program start hub t lines f waits.running in
    is_false _ (λ l. no_mark (cluster t hub) f.state a fits (f.refines waits.running).unset (quiet_idle hub t f.state fits quiet waits) m.effect m.by waits.line
    (and_right (is_none f.state.ending) (legal_at f.state m.effect m.by) l))

-- ---- the ending

pub ended_is_ending : EndedIsEnding
ended_is_ending program start hub t lines f = by_end hub.main_end refl
  where
    by_end : (x : Option Outcome) → hub.main_end ≡ x → f.state.ending ≡ option_map ending_of x
    by_end None e = f.running e
    by_end (Some o) e = f.ended o e

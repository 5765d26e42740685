-- The events of the simulated cluster and the steps of process 1 keep what they stand for.
use Rattle.std.proofs.Common.{◌≡◌, ℕ, ◌+◌, ◌==◌, List, [], ◌∷◌, ◌++◌, Option, Some, None, Bool, true, false, not, ◌&&◌, Ok, refl, arith, ap, sym, subst, ◌∙◌, if◌then◌else◌}
use Rattle.std.proofs.lemmas.Bool.Decides.{nat_tests}
use Rattle.jd_value.specs.declared.reference.RefId.{RefId}
use Rattle.jd_value.specs.declared.value.Value.{Value}
use Rattle.jd_value.specs.declared.value.Value.TheVariants.{Nothing}
use Rattle.jd_value.specs.declared.tree.Program.{Program}
use Rattle.jd_task.specs.declared.place.Place.{Place}
use Rattle.jd_task.specs.declared.msg.Msg.{Msg}
use Rattle.jd_task.specs.Places.{main_place}
use Rattle.jd_model.specs.declared.life.Stage.{Stage}
use Rattle.jd_model.specs.declared.life.Stage.TheVariants as stage
use Rattle.jd_model.specs.declared.life.Life.TheVariants.{Running}
use Rattle.jd_model.specs.declared.mark.Effect.TheVariants.{Printed}
use Rattle.jd_model.specs.declared.start.Start.{Start}
use Rattle.jd_model.specs.Table.{put, put2, one, All}
use Rattle.jd_laws.proofs.Basics.{not_is, some_same, at_put, at_put2}
use Rattle.std.proofs.Common.{append-nil}
use Rattle.jd_model.specs.Machine.{State, Task, first, after, replayed, line, main_id}
use Rattle.jd_model.specs.Node.{Node, Running as RunningTask, Stepped, Waiting, delivered, ran, main_line, main_answered, main_node, first_node, readied}
use Rattle.jd_model.specs.World.{Net, Told, Moved, Leads, first_net, happens, moves, added, emitted, arrived, moved_by, with_node, with_main, off_link, is_outside}
use Rattle.jd_model.specs.declared.event.Event.{Event}
use Rattle.jd_model.specs.declared.event.Event.TheVariants.{Emit, Deliver, Run}
use Rattle.jd_model.specs.Refines.{Refines, Stands, IsUnset, way, is_ready, call_messages}
use Rattle.jd_laws.proofs.Reached.{IsReached, first_reached}
use Rattle.jd_laws.proofs.Sound.{after-append, replay_reached}
use Rattle.jd_laws.proofs.Silent.{silent_arrival, silent_run}
use Rattle.jd_laws.proofs.RunSteps.{Left, steps_left, run_left}
use Rattle.jd_laws.proofs.Arrivals.{arrives}
use Rattle.jd_model.specs.Node.{printing, printing_at, main_answered_to}
use Rattle.jd_laws.proofs.Effects.{IsPrintable, print_legal, print_state, printed_state, mark}
use Rattle.jd_laws.proofs.Fits.{NodeFits, Fits, runs_at, ways_same, mail_same, agrees_fits, fits_agrees, readies}
use Rattle.jd_laws.proofs.Answered.{woken_ways}
use Rattle.jd_laws.proofs.AtWork.{task_at, shown_at}
use Rattle.jd_laws.proofs.Here.{Here, Steps, starts_here, here_kept, goes, steps_refine}
use Rattle.jd_laws.proofs.NodeParts.{node_tasks, state_rest}
use Rattle.jd_laws.proofs.RunSteps.{shown_is}
use Rattle.jd_laws.proofs.TaskWays.{no_call}
use Rattle.jd_laws.proofs.Keeps.{emit_refines, other_main, beside, emitted_beside, main_again, stepped_stands}
use Rattle.jd_laws.specs.Laws.{FirstStands, HappensKeeps, MovesKeep, EmitStands, RunStands, ArriveStands, PrintStands}

-- ---- the cluster that a told outside makes with process 1

abbrev pub cluster : Told → Node → Net
cluster t hub = with_main t.outside.net hub

abbrev pub waits_in : Net → ℕ → List Waiting
waits_in w x = (w.nodes x).waiting

pub reached_state : (program : Program) (start : Start) (hub : Node) (t : Told) (lines : List (List ℕ)) (f : Stands program start hub t lines) → IsReached f.state
reached_state program start hub t lines f = replay_reached program start t.marks f.state f.replay

pub fits_of : (program : Program) (start : Start) (hub : Node) (t : Told) (lines : List (List ℕ)) (f : Stands program start hub t lines) → hub.main_end ≡ None
    → Fits (cluster t hub) (waits_in (cluster t hub)) f.state
fits_of program start hub t lines f l = agrees_fits (cluster t hub) (waits_in (cluster t hub)) f.state (reached_state program start hub t lines f) (f.refines l).agrees

-- ---- steps of any process

-- A step of the process that is this node.
pub run_of : (w : Net) (p : ℕ) (n : Node) (s : State) (step : Stepped) → IsReached s → s.ending ≡ None → Refines w s → w.nodes p ≡ n → ran p n n.ready ≡ Some step → Left w p s step
run_of w p n s step a running r en e =
    let f = agrees_fits w (waits_in w) s a r.agrees in
    run_left w p n s step a running (λ q _. f.nodes q) (subst (λ (z : Node). Here w p z s) en (starts_here w p s f r.unset)) e

pub arrival_of : (w : Net) (p q : ℕ) (n : Node) (m : Msg) (rest : List Msg) (s : State) → IsReached s → s.ending ≡ None → Refines w s → w.nodes q ≡ n → w.links p q ≡ m ∷ rest
    → Left (off_link w p q rest) q s (delivered p m n)
arrival_of w p q n m rest s a running r en e =
    let f = agrees_fits w (waits_in w) s a r.agrees in
    steps_left (off_link w p q rest) q s (delivered p m n) a (λ x _. f.nodes x)
    (subst (λ (z : Node). Steps (off_link w p q rest) q s (delivered p m z).node (delivered p m z).effects) en (arrives w p q rest s a running f r.unset m e))

-- ---- events of workers and links

-- What an event that happens is.
pub record Happened (t u : Told) (e : Event) : Type 0 where
  pub outside : is_outside e ≡ true
  pub moved : Moved
  pub moves : moves t.outside.net e ≡ Some moved
  pub told : u ≡ record { outside = record { net = moved.net; events = t.outside.events + 1 }; marks = t.marks ++ moved.marks }

pub happened : (t u : Told) (e : Event) → happens t e ≡ Some u → Happened t u e
unfolding happens
happened t u e h = by_test (is_outside e) (moves t.outside.net e) refl refl h
  where
    by_test : (b : Bool) (o : Option Moved) → is_outside e ≡ b → moves t.outside.net e ≡ o → (if b then added t o else None) ≡ Some u → Happened t u e
    by_test false o eb eo h = cc
    by_test true None eb eo h = cc
    by_test true (Some m) eb eo h = record { outside = eb; moved = m; moves = eo; told = sym (some_same _ _ h) }

not_main : (p : ℕ) → not (p == 1) ≡ true → (p == 1) ≡ false
not_main p h = not_is (p == 1) h

not_one : (p : ℕ) → (p == 1) ≡ false → p ≡ 1 → ⊥
not_one p ne e = grind (arith, nat_tests, ne, e)

event_stands : (program : Program) (start : Start) (hub : Node) (t : Told) (lines : List (List ℕ)) (m : Moved) (e : Event) → Stands program start hub t lines → hub.main_end ≡ None
    → is_outside e ≡ true → moves t.outside.net e ≡ Some m
    → Stands program start hub (record { outside = record { net = m.net; events = t.outside.events + 1 }; marks = t.marks ++ m.marks }) lines
unfolding moves
event_stands program start hub t lines m (Emit p q) f l out h = of_outbox ((net.nodes p).outbox q) refl h
  where
    net : Net
    net = t.outside.net

    of_outbox : (xs : List Msg) → (net.nodes p).outbox q ≡ xs → emitted net p q xs ≡ Some m
        → Stands program start hub (record { outside = record { net = m.net; events = t.outside.events + 1 }; marks = t.marks ++ m.marks }) lines
    of_outbox [] e h = cc
    of_outbox (x ∷ rest) e h =
        subst (λ (z : Moved). Stands program start hub (record { outside = record { net = z.net; events = t.outside.events + 1 }; marks = t.marks ++ z.marks }) lines) (some_same _ _ h)
        (record {
          state = f.state;
          replay = ap (replayed program start) (append-nil t.marks) ∙ f.replay;
          printed = f.printed;
          ended = f.ended;
          running = f.running;
          refines = λ l. subst (λ (z : Net). Refines z f.state) (emitted_beside net hub p q (net.nodes p) x rest (not_main p out))
              (emit_refines (with_main net hub) p q (net.nodes p) x rest f.state (reached_state program start hub t lines f) (f.refines l) (other_main net hub p (not_main p out)) e);
        })
event_stands program start hub t lines m (Deliver p q) f l out h = of_link (net.links p q) refl h
  where
    net : Net
    net = t.outside.net

    of_link : (xs : List Msg) → net.links p q ≡ xs → arrived net p q xs ≡ Some m
        → Stands program start hub (record { outside = record { net = m.net; events = t.outside.events + 1 }; marks = t.marks ++ m.marks }) lines
    of_link [] e h = cc
    of_link (x ∷ rest) e h =
        let step = delivered p x (net.nodes q) in
        let left = arrival_of (with_main net hub) p q (net.nodes q) x rest f.state (reached_state program start hub t lines f) (f.running l) (f.refines l) (other_main net hub q (not_main q out)) e in
        subst (λ (z : Moved). Stands program start hub (record { outside = record { net = z.net; events = t.outside.events + 1 }; marks = t.marks ++ z.marks }) lines) (some_same _ _ h)
        (stepped_stands program start hub hub t lines (off_link (with_main net hub) p q rest) (with_node (off_link net p q rest) q step.node) q (t.outside.events + 1) step f left
        (silent_arrival p x (net.nodes q)) (λ o i. cc) (λ i. left.main (not_one q (not_main q out))) (beside (off_link net p q rest) hub q step.node (not_main q out)))
event_stands program start hub t lines m (Run p) f l out h = of_step (ran p (net.nodes p) (net.nodes p).ready) refl h
  where
    net : Net
    net = t.outside.net

    of_step : (x : Option Stepped) → ran p (net.nodes p) (net.nodes p).ready ≡ x → moved_by net p x ≡ Some m
        → Stands program start hub (record { outside = record { net = m.net; events = t.outside.events + 1 }; marks = t.marks ++ m.marks }) lines
    of_step None e h = cc
    of_step (Some step) e h =
        let left = run_of (with_main net hub) p (net.nodes p) f.state step (reached_state program start hub t lines f) (f.running l) (f.refines l) (other_main net hub p (not_main p out)) e in
        subst (λ (z : Moved). Stands program start hub (record { outside = record { net = z.net; events = t.outside.events + 1 }; marks = t.marks ++ z.marks }) lines) (some_same _ _ h)
        (stepped_stands program start hub hub t lines (with_main net hub) (with_node net p step.node) p (t.outside.events + 1) step f left
        (silent_run p (net.nodes p) (net.nodes p).ready step e) (λ o i. cc) (λ i. left.main (not_one p (not_main p out))) (beside net hub p step.node (not_main p out)))

pub happens_keeps : HappensKeeps
happens_keeps program start hub t u e lines f l h =
    let x = happened t u e h in
    subst (λ (z : Told). Stands program start hub z lines) (sym x.told) (event_stands program start hub t lines x.moved e f l x.outside x.moves)

leads_keep : (program : Program) (start : Start) (hub : Node) (es : List Event) (t u : Told) (lines : List (List ℕ)) → Stands program start hub t lines → hub.main_end ≡ None
    → Leads es t u → Stands program start hub u lines
leads_keep program start hub [] t u lines f l h = subst (λ (z : Told). Stands program start hub z lines) (sym h) f
leads_keep program start hub (e ∷ es) t u lines f l h = leads_keep program start hub es h.0 u lines (happens_keeps program start hub t h.0 e lines f l h.1) l h.2

pub moves_keep : MovesKeep
moves_keep program start hub t u lines f l m = leads_keep program start hub m.events t u lines f l m.leads

-- ---- steps of process 1

pub emit_stands : EmitStands
emit_stands program start hub t lines q m rest f e = record {
  state = f.state;
  replay = f.replay;
  printed = f.printed;
  ended = f.ended;
  running = f.running;
  refines = λ l.
      let net = t.outside.net in
      let after_net : Net = record net { links = put2 net.links 1 q (net.links 1 q ++ m ∷ []) } in
      subst (λ (z : Net). Refines z f.state) (main_again after_net hub (record hub { outbox = put hub.outbox q rest }))
      (emit_refines (with_main net hub) 1 q hub m rest f.state (reached_state program start hub t lines f) (f.refines l) refl e);
}

pub run_stands : RunStands
run_stands program start hub t lines step f l e =
    stepped_stands program start hub step.node t lines (cluster t hub) t.outside.net 1 t.outside.events step f
    (run_of (cluster t hub) 1 hub f.state step (reached_state program start hub t lines f) (f.running l) (f.refines l) refl e)
    (silent_run 1 hub hub.ready step e) (λ o h. h) (λ h. h) (main_again t.outside.net hub step.node)

pub arrive_stands : ArriveStands
arrive_stands program start hub t lines q m rest f l e =
    let step = delivered q m hub in
    stepped_stands program start hub step.node t lines (off_link (cluster t hub) q 1 rest) (off_link t.outside.net q 1 rest) 1 t.outside.events step f
    (arrival_of (cluster t hub) q 1 hub m rest f.state (reached_state program start hub t lines f) (f.running l) (f.refines l) refl e)
    (silent_arrival q m hub) (λ o h. h) (λ h. h) (main_again (off_link t.outside.net q 1 rest) hub step.node)

-- ---- main's line

-- Main as its process shows it, where it wants to print.
pub record Printing (hub : Node) (values : List Value) : Type 0 where
  pub cell : Option RefId
  pub place : Place
  pub there : hub.tasks 1 0 ≡ Some (shown_at cell place (stage.Prints values))

pub printing_main : (hub : Node) (values : List Value) → main_line hub ≡ Some values → Printing hub values
printing_main hub values h = find (hub.tasks 1 0) refl h
  where
    of_stage : (k : RunningTask) (st : Stage) → hub.tasks 1 0 ≡ Some k → k.stage ≡ st → printing_at st ≡ Some values → Printing hub values
    of_stage k (stage.Ready o) e es h = cc
    of_stage k (stage.Waits c) e es h = cc
    of_stage k (stage.Prints vs) e es h = record { cell = k.cell; place = k.place; there = e ∙ (λ j. Some (record { cell = k.cell; place = k.place; stage = (es ∙ ap stage.Prints (some_same _ _ h)) j })) }

    find : (x : Option RunningTask) → hub.tasks 1 0 ≡ x → printing x ≡ Some values → Printing hub values
    find None e h = cc
    find (Some k) e h = of_stage k k.stage e refl h

pub print_stands : PrintStands
print_stands program start hub t lines values f l e =
    subst (λ (z : Node). Stands program start z (record t { marks = t.marks ++ mark Printed 1 ∷ [] }) (lines ++ line values ∷ [])) (sym answered) (record {
      state = u;
      replay = after-append (Some (first program start)) t.marks (mark Printed 1 ∷ []) ∙ ap (λ o. after o (mark Printed 1 ∷ [])) f.replay ∙ one_mark;
      printed = ap (λ ls. ls ++ line values ∷ []) f.printed;
      ended = λ o h. let clash : None ≡ Some o = sym l ∙ h in cc;
      running = λ h. f.running l;
      refines = λ h. subst (λ (z : Net). Refines z u) (main_again t.outside.net hub m)
          (steps_refine (cluster t hub) 1 s m (Printed ∷ []) a (λ q _. fits.nodes q) (record {
            state = u;
            replay = one_mark;
            running = f.running l;
            here = here_kept (cluster t hub) 1 hub m s u here node refl refl (woken_ways _ _ _ _ main_id 1 x.cell x.place (stage.Prints values) (stage.Ready (Ok Nothing)) here.ways there) refl (λ y i. i);
          }));
    })
  where
    s : State
    s = f.state

    a : IsReached s
    a = reached_state program start hub t lines f

    fits : Fits (cluster t hub) (waits_in (cluster t hub)) s
    fits = fits_of program start hub t lines f l

    x : Printing hub values
    x = printing_main hub values e

    here : Here (cluster t hub) 1 hub s
    here = starts_here (cluster t hub) 1 s fits (f.refines l).unset

    there : s.tasks 1 0 ≡ Some (task_at 1 x.cell x.place (stage.Prints values))
    there = shown_is 1 (s.tasks 1 0) (shown_at x.cell x.place (stage.Prints values)) (sym (here.node.tasks.same 1 0) ∙ x.there)

    k : Task
    k = task_at 1 x.cell x.place (stage.Prints values)

    u : State
    u = printed_state s k x.place values

    prints : IsPrintable s k x.place values
    prints = record { there = there; life = refl }

    one_mark : after (Some s) (mark Printed 1 ∷ []) ≡ Some u
    one_mark = goes s (mark Printed 1) u [] u (print_legal s k x.place values (f.running l) prints) (print_state s k x.place values prints) refl

    m : Node
    m = readied hub main_id x.cell x.place (Ok Nothing)

    answered : main_answered hub (Ok Nothing) ≡ m
    answered = ap (main_answered_to hub (Ok Nothing)) x.there

    idle : is_ready (runs_at 1 (s.tasks 1 0)) ≡ false
    idle = ap (λ (z : Option Task). is_ready (runs_at 1 z)) there

    node : NodeFits 1 m u
    node = state_rest 1 m (record s { tasks = u.tasks }) u.running u.lines u.ending
        (node_tasks 1 hub s m.tasks m.ready u.tasks here.node
        (readies 1 hub.tasks hub.ready s.tasks main_id (shown_at x.cell x.place (stage.Ready (Ok Nothing))) (Some (task_at 1 x.cell x.place (stage.Ready (Ok Nothing)))) here.node.tasks idle refl refl))

-- ---- the beginning

pub first_stands : FirstStands
first_stands program start = record {
  state = s;
  replay = refl;
  printed = refl;
  ended = λ o h. cc;
  running = λ h. refl;
  refines = λ h. record {
    sound = a.sound;
    agrees = fits_agrees w (waits_in w) s a (record {
      nodes = λ p. at_put (λ _. first_node start.workers) 1 hub p (λ z. NodeFits p z s)
          (λ e. subst (λ q. NodeFits q hub s) (sym e) main)
          (λ ne. worker p ne);
      ways = ways_same (λ x y. []) (way w) (λ q. []) (waits_in w) s.tasks s.tasks s.requests s.requests no_ways no_waits (λ x y. refl) (λ x y. refl) (record {
        call = λ p q n. at_put2 (λ i j. None) 1 0 (Some main_task) p n (λ z. [] ≡ call_messages p q n z) (λ ep en. sym (no_call main_task refl p q n)) (λ _. refl);
        fetch = λ p c i j k. refl;
        fetch_owner = λ p q c i j k ne. refl;
        reply = λ p q c. refl;
        own = λ p. refl;
        away = λ p c q e asked. cc;
      });
      mail = mail_same (λ x y. []) (way w) (λ q. []) (waits_in w) s.workers no_ways no_waits (record { mail = λ p q e. refl; askers = λ q. tt });
    });
    unset = λ q. subst (All (IsUnset s)) (sym (no_waits q)) tt;
  };
}
  where
    s : State
    s = first program start

    a : IsReached s
    a = first_reached program start

    hub : Node
    hub = main_node program start.workers

    w : Net
    w = with_main (first_net start.workers) hub

    main_task : Task
    main_task = record { home = 1; cell = None; life = Running (main_place program) (stage.Ready (Ok Nothing)) }

    no_ways : (x y : ℕ) → way w x y ≡ []
    no_ways x y = at_put (λ _. first_node start.workers) 1 hub x (λ z. [] ++ z.outbox y ≡ []) (λ _. refl) (λ _. refl)

    no_waits : (x : ℕ) → waits_in w x ≡ []
    no_waits x = at_put (λ _. first_node start.workers) 1 hub x (λ z. z.waiting ≡ []) (λ _. refl) (λ _. refl)

    main : NodeFits 1 hub s
    main = record {
      workers = refl;
      noticed = refl;
      called = refl;
      asked = refl;
      made = refl;
      tasks = record {
        same = λ i j. elim (i == 1 && j == 0) as (λ b. (if b then Some (shown_at None (main_place program) (stage.Ready (Ok Nothing))) else None) ≡ runs_at 1 (if b then Some main_task else None)) [
          | true ↦ refl
          | false ↦ refl
        ];
        once = λ i j. grind (arith, nat_tests);
      };
      stored = λ m i. refl;
      asks = λ c. refl;
      cache = λ m i o v e. cc;
      fetched = tt;
      running = refl;
    }

    worker : (p : ℕ) → (p == 1) ≡ false → NodeFits p (first_node start.workers) s
    worker p ne = record {
      workers = refl;
      noticed = refl;
      called = refl;
      asked = refl;
      made = refl;
      tasks = record {
        same = λ i j. sym (elsewhere i j);
        once = λ i j. ap (λ z. one (is_ready z)) (sym (elsewhere i j));
      };
      stored = λ m i. refl;
      asks = λ c. refl;
      cache = λ m i o v e. cc;
      fetched = tt;
      running = refl;
    }
      where
        elsewhere : (i j : ℕ) → runs_at p (s.tasks i j) ≡ None
        elsewhere i j = at_put2 (λ i j. None) 1 0 (Some main_task) i j (λ z. runs_at p z ≡ None)
            (λ _ _. let other : (1 == p) ≡ false = grind (arith, nat_tests, ne) in rw other refl)
            (λ _. refl)

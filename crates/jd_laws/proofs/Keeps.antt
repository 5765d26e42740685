-- Every event keeps what a cluster stands for.
use Rattle.std.proofs.Common.{◌≡◌, ℕ, ◌==◌, List, [], ◌∷◌, ◌++◌, map, Some, None, Bool, true, false, ◌&&◌, refl, arith, ap, sym, subst, ◌∙◌, if◌then◌else◌}
use Rattle.std.proofs.lemmas.Bool.Decides.{nat_tests}
use Rattle.jd_value.specs.declared.tree.Program.{Program}
use Rattle.jd_task.specs.declared.msg.Msg.{Msg}
use Rattle.jd_model.specs.Outcome.{Outcome}
use Rattle.jd_model.specs.declared.start.Start.{Start}
use Rattle.jd_model.specs.Table.{put, put2, All}
use Rattle.jd_laws.proofs.Basics.{same_test, test_self, at_put, no_length}
use Rattle.std.proofs.Common.{append-nil, append_assoc}
use Rattle.jd_model.specs.Machine.{State, first, after, replayed}
use Rattle.jd_model.specs.Node.{Node, Stepped}
use Rattle.jd_model.specs.World.{Net, Told, marked, with_node, with_main}
use Rattle.jd_model.specs.Refines.{Refines, Stands, IsUnset, way}
use Rattle.jd_laws.proofs.Reached.{IsReached}
use Rattle.jd_laws.proofs.Sound.{after-append, replay_reached}
use Rattle.jd_laws.proofs.Prefix.{after_lines}
use Rattle.jd_laws.proofs.Silent.{IsSilent, silent_marks}
use Rattle.jd_laws.proofs.Fits.{NodeFits, Fits, ways_same, mail_same, agrees_fits, fits_agrees}
use Rattle.jd_laws.proofs.NodeParts.{node_rest}
use Rattle.jd_laws.proofs.RunSteps.{Left}
use Rattle.jd_laws.specs.Laws.{StandsIsOfNetAndMarks}

-- ---- a message leaves

abbrev pub emitted_net : Net → ℕ → ℕ → Node → Msg → List Msg → Net
emitted_net w p q n m rest = record { nodes = put w.nodes p (record n { outbox = put n.outbox q rest }); links = put2 w.links p q (w.links p q ++ m ∷ []) }

pub emit_refines : (w : Net) (p q : ℕ) (n : Node) (m : Msg) (rest : List Msg) (s : State) → IsReached s → Refines w s → w.nodes p ≡ n → n.outbox q ≡ m ∷ rest
    → Refines (emitted_net w p q n m rest) s
emit_refines w p q n m rest s a r en eo = record {
  sound = r.sound;
  agrees = fits_agrees u (λ x. (u.nodes x).waiting) s a (record {
    nodes = λ x. at_put w.nodes p sender x (λ z. NodeFits x z s)
        (λ e. subst (λ i. NodeFits i sender s) (sym e) (node_rest p n s sender.outbox n.waiting (subst (λ (z : Node). NodeFits p z s) en (f.nodes p))))
        (λ _. f.nodes x);
    ways = ways_same (way w) (way u) (λ x. (w.nodes x).waiting) (λ x. (u.nodes x).waiting) s.tasks s.tasks s.requests s.requests same_ways same_waits (λ x y. refl) (λ x y. refl) f.ways;
    mail = mail_same (way w) (way u) (λ x. (w.nodes x).waiting) (λ x. (u.nodes x).waiting) s.workers same_ways same_waits f.mail;
  });
  unset = λ x. subst (All (IsUnset s)) (sym (same_waits x)) (r.unset x);
}
  where
    u : Net
    u = emitted_net w p q n m rest

    sender : Node
    sender = record n { outbox = put n.outbox q rest }

    f : Fits w (λ x. (w.nodes x).waiting) s
    f = agrees_fits w (λ x. (w.nodes x).waiting) s a r.agrees

    same_waits : (x : ℕ) → (put w.nodes p sender x).waiting ≡ (w.nodes x).waiting
    same_waits x = at_put w.nodes p sender x (λ z. z.waiting ≡ (w.nodes x).waiting) (λ e. ap (λ (z : Node). z.waiting) (sym (ap w.nodes e ∙ en))) (λ _. refl)

    moved : (w.links p q ++ m ∷ []) ++ rest ≡ w.links p q ++ n.outbox q
    moved = append_assoc (w.links p q) (m ∷ []) rest ∙ ap (λ ms. w.links p q ++ ms) (sym eo)

    same_ways : (x y : ℕ) → put2 w.links p q (w.links p q ++ m ∷ []) x y ++ (put w.nodes p sender x).outbox y ≡ w.links x y ++ (w.nodes x).outbox y
    same_ways x y = at_put w.nodes p sender x (λ z. put2 w.links p q (w.links p q ++ m ∷ []) x y ++ z.outbox y ≡ w.links x y ++ (w.nodes x).outbox y)
        (λ ex. ap (λ (i : ℕ). put2 w.links p q (w.links p q ++ m ∷ []) i y ++ put n.outbox q rest y) ex ∙ of_sender y (y == q) refl ∙ (λ j. w.links (sym ex j) y ++ (sym (ap w.nodes ex ∙ en) j).outbox y))
        (λ ne. ap (λ (b : Bool). (if b && y == q then w.links p q ++ m ∷ [] else w.links x y) ++ (w.nodes x).outbox y) ne)
      where
        of_sender : (y : ℕ) (b : Bool) → (y == q) ≡ b → (if p == p && y == q then w.links p q ++ m ∷ [] else w.links p y) ++ (if y == q then rest else n.outbox y) ≡ w.links p y ++ n.outbox y
        of_sender y true e = rw (e, test_self p) (moved ∙ (λ j. w.links p (sym (same_test y q e) j) ++ n.outbox (sym (same_test y q e) j)))
        of_sender y false e = rw (e, test_self p) refl

-- ---- processes beside process 1

pub other_main : (net : Net) (hub : Node) (p : ℕ) → (p == 1) ≡ false → (with_main net hub).nodes p ≡ net.nodes p
other_main net hub p ne = ap (λ (b : Bool). if b then hub else net.nodes p) ne

two_puts : (f : ℕ → Node) (p q : ℕ) (m n : Node) → (p == q) ≡ false → (x : ℕ) → put (put f q n) p m x ≡ put (put f p m) q n x
two_puts f p q m n ne x = by_tests (x == p) (x == q) refl refl
  where
    by_tests : (a b : Bool) → (x == p) ≡ a → (x == q) ≡ b → (if a then m else (if b then n else f x)) ≡ (if b then n else (if a then m else f x))
    by_tests true true ea eb = absurd (let ep : x ≡ p = same_test x p ea in let eq : x ≡ q = same_test x q eb in grind (arith, nat_tests, ne, ep, eq))
    by_tests true false ea eb = refl
    by_tests false true ea eb = refl
    by_tests false false ea eb = refl

-- The node of another process changes beside that of process 1.
pub beside : (net : Net) (hub : Node) (p : ℕ) (n : Node) → (p == 1) ≡ false → with_node (with_main net hub) p n ≡ with_main (with_node net p n) hub
beside net hub p n ne = λ j. record { nodes = λ x. two_puts net.nodes p 1 n hub ne x j; links = net.links }

pub emitted_beside : (net : Net) (hub : Node) (p q : ℕ) (n : Node) (m : Msg) (rest : List Msg) → (p == 1) ≡ false
    → emitted_net (with_main net hub) p q n m rest ≡ with_main (emitted_net net p q n m rest) hub
emitted_beside net hub p q n m rest ne = λ j. record { nodes = λ x. two_puts net.nodes p 1 (record n { outbox = put n.outbox q rest }) hub ne x j; links = put2 net.links p q (net.links p q ++ m ∷ []) }

-- Process 1 changes.
pub main_again : (net : Net) (hub n : Node) → with_node (with_main net hub) 1 n ≡ with_main net n
main_again net hub n = λ j. record { nodes = λ x. again x j; links = net.links }
  where
    again : (x : ℕ) → put (put net.nodes 1 hub) 1 n x ≡ put net.nodes 1 n x
    again x = elim (x == 1) as (λ b. (if b then n else (if b then hub else net.nodes x)) ≡ (if b then n else net.nodes x)) [
      | true ↦ refl
      | false ↦ refl
    ]

-- ---- what is told

pub stands_is_of_net_and_marks : StandsIsOfNetAndMarks
stands_is_of_net_and_marks program start hub t u lines f en em = record {
  state = f.state;
  replay = ap (replayed program start) em ∙ f.replay;
  printed = f.printed;
  ended = f.ended;
  running = f.running;
  refines = λ l. subst (λ (z : Net). Refines (with_main z hub) f.state) (sym en) (f.refines l);
}

-- A step of process p, with the marks that it makes.
pub stepped_stands : (program : Program) (start : Start) (hub after_hub : Node) (t : Told) (lines : List (List ℕ)) (w net : Net) (p events : ℕ) (step : Stepped) (f : Stands program start hub t lines)
    → (x : Left w p f.state step) → IsSilent step.effects → ((o : Outcome) → after_hub.main_end ≡ Some o → step.node.main_end ≡ Some o) → (after_hub.main_end ≡ None → step.node.main_end ≡ None)
    → with_node w p step.node ≡ with_main net after_hub
    → Stands program start after_hub (record { outside = record { net = net; events = events }; marks = t.marks ++ map (marked p) step.effects }) lines
stepped_stands program start hub after_hub t lines w net p events step f x silent ends goes e =
    let reached = replay_reached program start t.marks f.state f.replay in
    let ls = after_lines f.state (map (marked p) step.effects) x.state reached x.replay in
    let no_more : ls.later ≡ [] = no_length ls.later (ls.count ∙ silent_marks p step.effects silent) in
    record {
      state = x.state;
      replay = after-append (Some (first program start)) t.marks (map (marked p) step.effects) ∙ ap (λ o. after o (map (marked p) step.effects)) f.replay ∙ x.replay;
      printed = ls.lines ∙ ap (λ zs. f.state.lines ++ zs) no_more ∙ append-nil f.state.lines ∙ f.printed;
      ended = λ o h. x.ended o (ends o h);
      running = λ h. x.running (goes h);
      refines = λ h. subst (λ (z : Net). Refines z x.state) e (x.refines (goes h));
    }

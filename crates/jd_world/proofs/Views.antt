-- What the calls of the outside do to the told world.
use Rattle.std.specs.Prelude.{◌≡◌, ◌≢◌, ℕ, ◌+◌, ◌==◌, ◌&&◌, List, [], ◌∷◌, ◌++◌, Option, None, Some, Bool, true, false, if◌then◌else◌, Err, MatchOption, nat_eq}
use Rattle.std.proofs.Common.{refl, sym, ap, subst, ◌∙◌, arith}
use Rattle.std.proofs.lemmas.Bool.Decides.{nat_tests}
use Rattle.std.proofs.Math.Path.{fun_ext}
use Rattle.std.specs.Ordering.{nat_cmp}
use Rattle.std.specs.BTreeMap.{get, is_at}
use Rattle.std.specs.Cmp.{unsigned_ties}
use Rattle.std.specs.List.{list_any}
use Rattle.std.specs.Map.{lookup, keys_of}
use Rattle.jd_task.specs.declared.msg.Msg.{Msg}
use Rattle.jd_model.specs.declared.mark.Mark.{Mark}
use Rattle.jd_model.specs.declared.event.Event.{Event}
use Rattle.jd_model.specs.declared.event.Event.TheVariants.{Emit, Deliver, Run}
use Rattle.jd_model.specs.Table.{put, put2}
use Rattle.jd_model.specs.Node.{Node, ran, first_node}
use Rattle.jd_model.specs.World.{Told, happens}
use Rattle.jd_node.specs.Mail.{mail_of, no_mail}
use Rattle.jd_node.specs.declared.fault.NodeFault.{NodeFault}
use Rattle.jd_node.specs.declared.fault.NodeFault.TheVariants as node
use Rattle.jd_node.specs.declared.mail.Mail.{Mail}
use Rattle.jd_world.specs.declared.step_fault.StepFault.{StepFault}
use Rattle.jd_world.specs.declared.worker.Worker.{Worker}
use Rattle.jd_world.specs.declared.workers.Workers.{Workers}
use Rattle.jd_world.specs.Workers.{nodes_of, links_to, no_links, EmitsAt, ArrivesAt, RunsAt, IsIdle, CanMove}
use Rattle.jd_world.specs.Outside.{links_of, told_with, told_first, linked, later, broken_by, IsStill, CanHappen, Tries, TakesOff}
use Rattle.jd_world.proofs.Events.{inside_not, emit_not, emit_happens, emit_can, deliver_not, deliver_happens, deliver_can, run_not, run_happens, run_can}
use Rattle.jd_world.proofs.Written.{node_at, link_at, no_node, no_link}

-- ---- the links by both processes

pub link_main : (m : ℕ → List Msg) (w : ℕ → ℕ → List Msg) (p : ℕ) → links_of m w p 1 ≡ m p
unfolding links_of
link_main m w p = refl

pub link_worker : (m : ℕ → List Msg) (w : ℕ → ℕ → List Msg) (p q : ℕ) → (q == 1) ≡ false → links_of m w p q ≡ w q p
unfolding links_of
link_worker m w p q c = ap (λ (b : Bool). if b then m p else w q p) c

pub links_first : links_of no_mail no_links ≡ (λ p q. [])
unfolding links_of
links_first = fun_ext (λ p. fun_ext (λ q. by_test (q == 1)))
  where
    by_test : (b : Bool) → (if b then no_mail 0 else no_links 0 0) ≡ no_mail 0
    by_test true = refl
    by_test false = refl

pub links_main : (m : ℕ → List Msg) (w : ℕ → ℕ → List Msg) (p : ℕ) (ms : List Msg) → links_of (put m p ms) w ≡ put2 (links_of m w) p 1 ms
unfolding links_of
links_main m w p ms = fun_ext (λ x. fun_ext (λ y. by_tests x y (y == 1) (x == p)))
  where
    by_tests : (x y : ℕ) (b a : Bool) → (if b then (if a then ms else m x) else w y x) ≡ (if a && b then ms else (if b then m x else w y x))
    by_tests x y true true = refl
    by_tests x y true false = refl
    by_tests x y false true = refl
    by_tests x y false false = refl

pub links_worker : (m : ℕ → List Msg) (w : ℕ → ℕ → List Msg) (p q : ℕ) (ms : List Msg) → (q == 1) ≡ false → links_of m (put2 w q p ms) ≡ put2 (links_of m w) p q ms
unfolding links_of
links_worker m w p q ms c = fun_ext (λ x. fun_ext (λ y. by_tests x y (y == 1) refl (x == p) (y == q) refl))
  where
    by_tests : (x y : ℕ) (b : Bool) → (y == 1) ≡ b → (a d : Bool) → (y == q) ≡ d
        → (if b then m x else (if d && a then ms else w y x)) ≡ (if a && d then ms else (if b then m x else w y x))
    by_tests x y true e true true f = let same : y ≡ 1 = grind (arith, nat_tests, e) in let at : (q == 1) ≡ true = grind (arith, nat_tests, f, same) in cc (c, at)
    by_tests x y true e true false f = refl
    by_tests x y true e false true f = refl
    by_tests x y true e false false f = refl
    by_tests x y false e true true f = refl
    by_tests x y false e true false f = refl
    by_tests x y false e false true f = refl
    by_tests x y false e false false f = refl

-- ---- nothing changed

pub told_same : (a b : Workers) (m : Mail) (n : ℕ) (ms : List Mark) → nodes_of b ≡ nodes_of a → links_to b ≡ links_to a → told_with b m n ms ≡ told_with a m n ms
told_same a b m n ms e l =
    λ i. record { outside = record { net = record { nodes = e i; links = links_of (mail_of m) (l i) }; events = n }; marks = ms }

pub told_start : (a : Workers) (m : Mail) (count : ℕ) (ms : List Mark) → nodes_of a ≡ (λ p. first_node count) → links_to a ≡ no_links → mail_of m ≡ no_mail → ms ≡ []
    → told_with a m 0 ms ≡ told_first count
told_start a m count ms e l k z =
    (λ i. record { outside = record { net = record { nodes = e i; links = links_of (k i) (l i) }; events = 0 }; marks = z i })
    ∙ (λ i. record { outside = record { net = record { nodes = λ p. first_node count; links = links_first i }; events = 0 }; marks = [] })

-- ---- events

pub emit_nothing : (a b : Workers) (m : Mail) (n : ℕ) (ms : List Mark) (p q : ℕ) → (nodes_of a p).outbox q ≡ [] → nodes_of b ≡ nodes_of a → links_to b ≡ links_to a
    → (happens (told_with a m n ms) (Emit p q) ≡ None) × (told_with b m n ms ≡ told_with a m n ms)
emit_nothing a b m n ms p q none e l = (emit_not (told_with a m n ms) p q none, told_same a b m n ms e l)

-- a message stands at the end of a link to process 1
pub linked_main : (a : Workers) (m k : Mail) (n : ℕ) (ms : List Mark) (p : ℕ) (x : Msg) → mail_of k ≡ put (mail_of m) p (mail_of m p ++ x ∷ [])
    → told_with a k n ms ≡ linked (told_with a m n ms) p 1 x
linked_main a m k n ms p x h =
    let links : links_of (mail_of k) (links_to a) ≡ put2 (links_of (mail_of m) (links_to a)) p 1 (links_of (mail_of m) (links_to a) p 1 ++ x ∷ []) =
    ap (λ (l : ℕ → List Msg). links_of l (links_to a)) h ∙ links_main (mail_of m) (links_to a) p (mail_of m p ++ x ∷ [])
    ∙ ap (λ (xs : List Msg). put2 (links_of (mail_of m) (links_to a)) p 1 (xs ++ x ∷ [])) (sym (link_main (mail_of m) (links_to a) p)) in
    λ i. record { outside = record { net = record { nodes = nodes_of a; links = links i }; events = n }; marks = ms }

-- or of a link to a worker
pub linked_worker : (a b : Workers) (m : Mail) (n : ℕ) (ms : List Mark) (p q : ℕ) (x : Msg) → (q == 1) ≡ false → nodes_of b ≡ nodes_of a
    → links_to b ≡ put2 (links_to a) q p (links_to a q p ++ x ∷ []) → told_with b m n ms ≡ linked (told_with a m n ms) p q x
linked_worker a b m n ms p q x c e h =
    let links : links_of (mail_of m) (links_to b) ≡ put2 (links_of (mail_of m) (links_to a)) p q (links_of (mail_of m) (links_to a) p q ++ x ∷ []) =
    ap (links_of (mail_of m)) h ∙ links_worker (mail_of m) (links_to a) p q (links_to a q p ++ x ∷ []) c
    ∙ ap (λ (xs : List Msg). put2 (links_of (mail_of m) (links_to a)) p q (xs ++ x ∷ [])) (sym (link_worker (mail_of m) (links_to a) p q c)) in
    λ i. record { outside = record { net = record { nodes = e i; links = links i }; events = n }; marks = ms }

pub emit_made : (a w : Workers) (m : Mail) (n : ℕ) (ms : List Mark) (p q : ℕ) (x : Msg) (u : Told) → (p == 1) ≡ false → EmitsAt p q x (nodes_of a) (nodes_of w)
    → links_to w ≡ links_to a → u ≡ linked (told_with w m n ms) p q x → happens (told_with a m n ms) (Emit p q) ≡ Some (later u)
emit_made a w m n ms p q x u c e l h =
    emit_happens (told_with a m n ms) p q x e.rest (nodes_of w) _ c e.front e.after
    (ap (λ (t : ℕ → ℕ → List Msg). put2 (links_of (mail_of m) t) p q (links_of (mail_of m) t p q ++ x ∷ [])) l)
    ∙ ap (λ (z : Told). Some (later z)) (sym h)

pub emit_broken : (a w : Workers) (m : Mail) (n : ℕ) (ms : List Mark) (p q : ℕ) (x : Msg) → (p == 1) ≡ false → EmitsAt p q x (nodes_of a) (nodes_of w)
    → CanHappen (told_with a m n ms) (Emit p q)
emit_broken a w m n ms p q x c e = emit_can (told_with a m n ms) p q c (λ none. let f = e.front in cc)

-- the event is possible, and a step of its process failed
pub tries_broken : (A : Type 0) (e : Event) (t u : Told) (f : NodeFault) (g : StepFault) → g ≡ broken_by f → CanHappen t e → u.marks ≡ t.marks → Tries {A = A} e t u (Err g)
tries_broken A e t u f g same can h = subst (λ (x : StepFault). Tries {A = A} e t u (Err x)) (sym same) (by_fault f)
  where
    by_fault : (x : NodeFault) → Tries {A = A} e t u (Err (broken_by x))
    by_fault node.Limit = (can, h)
    by_fault node.OutOfMemory = (can, h)

pub arrive_nothing : (a b : Workers) (m : Mail) (n : ℕ) (ms ms' : List Mark) (p q : ℕ) → (q == 1) ≡ false → links_to a q p ≡ [] → nodes_of b ≡ nodes_of a → links_to b ≡ links_to a
    → ms' ≡ ms → (happens (told_with a m n ms) (Deliver p q) ≡ None) × (told_with b m n ms' ≡ told_with a m n ms)
arrive_nothing a b m n ms ms' p q c none e l k =
    (deliver_not (told_with a m n ms) p q (link_worker (mail_of m) (links_to a) p q c ∙ none), ap (told_with b m n) k ∙ told_same a b m n ms e l)

pub arrive_happens : (a b : Workers) (m : Mail) (n : ℕ) (ms ms' : List Mark) (p q : ℕ) → (q == 1) ≡ false → ArrivesAt q p a b ms ms'
    → happens (told_with a m n ms) (Deliver p q) ≡ Some (later (told_with b m n ms'))
arrive_happens a b m n ms ms' p q c x =
    deliver_happens (told_with a m n ms) p q x.msg x.rest (nodes_of b) _ ms' c (link_worker (mail_of m) (links_to a) p q c ∙ x.front) x.nodes
    (ap (links_of (mail_of m)) x.links ∙ links_worker (mail_of m) (links_to a) p q x.rest c) x.recorded

pub arrive_can : (a : Workers) (m : Mail) (n : ℕ) (ms : List Mark) (p q : ℕ) → (q == 1) ≡ false → links_to a q p ≢ [] → CanHappen (told_with a m n ms) (Deliver p q)
arrive_can a m n ms p q c some = deliver_can (told_with a m n ms) p q c (λ none. some (sym (link_worker (mail_of m) (links_to a) p q c) ∙ none))

pub run_nothing : (a b : Workers) (m : Mail) (n : ℕ) (ms ms' : List Mark) (p : ℕ) → ran p (nodes_of a p) (nodes_of a p).ready ≡ None → nodes_of b ≡ nodes_of a → links_to b ≡ links_to a
    → ms' ≡ ms → (happens (told_with a m n ms) (Run p) ≡ None) × (told_with b m n ms' ≡ told_with a m n ms)
run_nothing a b m n ms ms' p none e l k = (run_not (told_with a m n ms) p none, ap (told_with b m n) k ∙ told_same a b m n ms e l)

pub run_made : (a b : Workers) (m : Mail) (n : ℕ) (ms ms' : List Mark) (p : ℕ) → (p == 1) ≡ false → RunsAt p a b ms ms' → links_to b ≡ links_to a
    → happens (told_with a m n ms) (Run p) ≡ Some (later (told_with b m n ms'))
run_made a b m n ms ms' p c x l = run_happens (told_with a m n ms) p x.step (nodes_of b) _ ms' c x.ran x.nodes (ap (links_of (mail_of m)) l) x.recorded

-- ---- what can move

pub still_main : (t : Told) (p : ℕ) → (p == 1) ≡ true → IsStill t p
still_main t p c = let one : p ≡ 1 = grind (arith, nat_tests, c) in subst (IsStill t) (sym one) (record {
  emit = λ q. inside_not t (Emit 1 q) refl;
  deliver = λ q. inside_not t (Deliver q 1) refl;
  run = inside_not t (Run 1) refl;
})

pub still_none : (a : Workers) (m : Mail) (n : ℕ) (ms : List Mark) (p : ℕ) → (p == 1) ≡ false → get nat_cmp a.rows p ≡ None → IsStill (told_with a m n ms) p
still_none a m n ms p c e = record {
  emit = λ q. emit_not (told_with a m n ms) p q (ap (λ (x : Node). x.outbox q) (no_node a p e));
  deliver = λ q. deliver_not (told_with a m n ms) q p (link_worker (mail_of m) (links_to a) q p c ∙ ap (λ (l : ℕ → List Msg). l q) (no_link a p e));
  run = run_not (told_with a m n ms) p (subst (λ (x : Node). ran p x x.ready ≡ None) (sym (no_node a p e)) refl);
}

pub still_idle : (a : Workers) (m : Mail) (n : ℕ) (ms : List Mark) (p : ℕ) (w : Worker) → (p == 1) ≡ false → Some w ≡ get nat_cmp a.rows p → IsIdle w → IsStill (told_with a m n ms) p
still_idle a m n ms p w c e idle = record {
  emit = λ q. emit_not (told_with a m n ms) p q (ap (λ (x : Node). x.outbox q) (node_at a p w e) ∙ idle.outbox q);
  deliver = λ q. deliver_not (told_with a m n ms) q p (link_worker (mail_of m) (links_to a) q p c ∙ ap (λ (l : ℕ → List Msg). l q) (link_at a p w e) ∙ idle.link q);
  run = run_not (told_with a m n ms) p (subst (λ (x : Node). ran p x x.ready ≡ None) (sym (node_at a p w e)) (idle.ready p));
}

pub moves_can : (a : Workers) (m : Mail) (n : ℕ) (ms : List Mark) (p : ℕ) (w : Worker) (x : Event) → (p == 1) ≡ false → Some w ≡ get nat_cmp a.rows p → CanMove w p x
    → CanHappen (told_with a m n ms) x
moves_can a m n ms p w (Emit r q) c e h = subst (λ (z : ℕ). CanHappen (told_with a m n ms) (Emit z q)) (sym h.0)
    (emit_can (told_with a m n ms) p q c (λ none. h.1 (sym (ap (λ (x : Node). x.outbox q) (node_at a p w e)) ∙ none)))
moves_can a m n ms p w (Deliver q r) c e h = subst (λ (z : ℕ). CanHappen (told_with a m n ms) (Deliver q z)) (sym h.0)
    (deliver_can (told_with a m n ms) q p c (λ none. h.1 (sym (link_worker (mail_of m) (links_to a) q p c ∙ ap (λ (l : ℕ → List Msg). l q) (link_at a p w e)) ∙ none)))
moves_can a m n ms p w (Run r) c e h = subst (λ (z : ℕ). CanHappen (told_with a m n ms) (Run z)) (sym h.0)
    (run_can (told_with a m n ms) p c (subst (λ (x : Node). ran p x x.ready ≢ None) (sym (node_at a p w e)) (h.1 p)))

-- what the worker of a number says of the world
pub possible_row : (a : Workers) (m : Mail) (n : ℕ) (ms : List Mark) (p : ℕ) (w : Worker) (r : Option Event) → (p == 1) ≡ false → Some w ≡ get nat_cmp a.rows p
    → MatchOption r (IsIdle w) (CanMove w p) → MatchOption r (IsStill (told_with a m n ms) p) (λ event. CanHappen (told_with a m n ms) event)
possible_row a m n ms p w None c e h = still_idle a m n ms p w c e h
possible_row a m n ms p w (Some x) c e h = moves_can a m n ms p w x c e h

-- what is among no keys isn't found
absent : {V : Type 0} (q : ℕ) (es : List (ℕ × V)) → list_any (nat_eq q) (keys_of es) ≡ false → lookup (is_at (nat_cmp q)) es ≡ None
absent q [] h = refl
absent q (e ∷ es) h = grind (arith, unsigned_ties q e.0, absent q es, h)

-- a process that is no row is still
pub still_absent : (a : Workers) (m : Mail) (n : ℕ) (ms : List Mark) (q : ℕ) → list_any (nat_eq q) (keys_of a.rows.entries) ≡ false → IsStill (told_with a m n ms) q
still_absent a m n ms q h = by_test (q == 1) refl
  where
    by_test : (b : Bool) → (q == 1) ≡ b → IsStill (told_with a m n ms) q
    by_test true e = still_main (told_with a m n ms) q e
    by_test false e = still_none a m n ms q e (absent q a.rows.entries h)

-- one more process is still
pub still_more : (t : Told) (k : ℕ) (old rest : List ℕ) → old ≡ k ∷ rest → ((q : ℕ) → list_any (nat_eq q) old ≡ false → IsStill t q) → IsStill t k
    → (q : ℕ) → list_any (nat_eq q) rest ≡ false → IsStill t q
still_more t k old rest e before here q h = by_test (q == k) refl
  where
    by_test : (b : Bool) → (q == k) ≡ b → IsStill t q
    by_test true is = let same : k ≡ q = grind (arith, nat_tests, is) in subst (IsStill t) same here
    by_test false is =
        let other : list_any (nat_eq q) (k ∷ rest) ≡ false = grind (arith, nat_tests, is, h) in
        before q (ap (λ (ks : List ℕ). list_any (nat_eq q) ks) e ∙ other)

-- a message is taken off a link to process 1
pub taken : (a : Workers) (m k : Mail) (n : ℕ) (ms : List Mark) (p : ℕ) (x : Msg) (rest : List Msg) → mail_of m p ≡ x ∷ rest → mail_of k ≡ put (mail_of m) p rest
    → TakesOff p x (told_with a m n ms) (told_with a k (n + 1) ms)
taken a m k n ms p x rest front e = record {
  rest = rest;
  front = link_main (mail_of m) (links_to a) p ∙ front;
  after = let links : links_of (mail_of k) (links_to a) ≡ put2 (links_of (mail_of m) (links_to a)) p 1 rest =
      ap (λ (t : ℕ → List Msg). links_of t (links_to a)) e ∙ links_main (mail_of m) (links_to a) p rest in
      λ i. record { outside = record { net = record { nodes = nodes_of a; links = links i }; events = n + 1 }; marks = ms };
}

pub nothing_taken : (a : Workers) (m : Mail) (n : ℕ) (ms : List Mark) → ((p : ℕ) → mail_of m p ≡ []) → (p : ℕ) → (told_with a m n ms).outside.net.links p 1 ≡ []
nothing_taken a m n ms h p = link_main (mail_of m) (links_to a) p ∙ h p

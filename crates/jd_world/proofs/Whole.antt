-- The whole cluster: the told outside with the node of process 1.
use Rattle.std.specs.Prelude.{◌≡◌, ◌≢◌, ℕ, ◌+◌, ◌==◌, not, List, [], ◌∷◌, ◌++◌, map, Option, None, Some, Bool, true, false, if◌then◌else◌, option_map, is_some, MatchOption, Result, Ok, Err}
use Rattle.std.proofs.Common.{refl, sym, ap, subst, ◌∙◌, arith, append-nil}
use Rattle.std.proofs.lemmas.Bool.Decides.{nat_tests}
use Rattle.std.proofs.Math.Path.{fun_ext}
use Rattle.jd_task.specs.declared.msg.Msg.{Msg}
use Rattle.jd_model.specs.declared.mark.Mark.{Mark}
use Rattle.jd_model.specs.declared.event.Event.{Event}
use Rattle.jd_model.specs.declared.event.Event.TheVariants.{Emit, Deliver, Run}
use Rattle.jd_model.specs.Table.{put, put2}
use Rattle.jd_model.specs.Node.{Node, Stepped, delivered, ran}
use Rattle.jd_model.specs.World.{Net, Told, Moved, happens, moves, added, emitted, arrived, moved_by, off_link, stepped, is_outside, marked, with_main}
use Rattle.jd_node.specs.declared.fault.NodeFault.{NodeFault}
use Rattle.jd_node.specs.declared.fault.NodeFault.TheVariants as node
use Rattle.jd_node.specs.declared.mail.Mail.{Mail}
use Rattle.jd_node.specs.Mail.{mail_of}
use Rattle.jd_node.specs.Steps.{Sends}
use Rattle.jd_world.specs.declared.step_fault.StepFault.{StepFault}
use Rattle.jd_world.specs.declared.step_fault.StepFault.TheVariants.{NotPossible, Limit, Stranger, Spent, OutOfMemory}
use Rattle.jd_world.specs.declared.workers.Workers.{Workers}
use Rattle.jd_world.specs.Workers.{nodes_of, links_to, Arrives, Runs}
use Rattle.jd_world.specs.Outside.{told_with, linked, later, links_of, broken_by, IsStill, CanHappen, Tries}
use Rattle.jd_world.specs.World.{joined_with, Leaves, WorldTries, IsMainStuck, IsStuck}
use Rattle.jd_world.proofs.Events.{inside_not}
use Rattle.jd_world.proofs.Views.{link_main, links_main}

-- ---- tables

put_twice : {A : Type 0} (f : ℕ → A) (k : ℕ) (a b : A) → put (put f k a) k b ≡ put f k b
put_twice f k a b = fun_ext (λ x. by_test x (x == k))
  where
    by_test : (x : ℕ) (t : Bool) → (if t then b else (if t then a else f x)) ≡ (if t then b else f x)
    by_test x true = refl
    by_test x false = refl

put_other : {A : Type 0} (f : ℕ → A) (j k : ℕ) (a b : A) → (k == j) ≡ false → put (put f j a) k b ≡ put (put f k b) j a
put_other f j k a b c = fun_ext (λ x. by_tests x (x == k) refl (x == j) refl)
  where
    by_tests : (x : ℕ) (t : Bool) → (x == k) ≡ t → (s : Bool) → (x == j) ≡ s → (if t then b else (if s then a else f x)) ≡ (if s then a else (if t then b else f x))
    by_tests x true e true d = let same : (k == j) ≡ true = grind (arith, nat_tests, e, d) in cc (c, same)
    by_tests x true e false d = refl
    by_tests x false e true d = refl
    by_tests x false e false d = refl

-- ---- events of the workers and the links to them

rejoined : Node → Moved → Moved
rejoined n m = record { net = with_main m.net n; marks = m.marks }

node_other : (w : Net) (n : Node) (p : ℕ) → (p == 1) ≡ false → put w.nodes 1 n p ≡ w.nodes p
node_other w n p c = ap (λ (b : Bool). if b then n else w.nodes p) c

other : (p : ℕ) → not (p == 1) ≡ true → (p == 1) ≡ false
other p h = grind (arith, nat_tests, h)

emit_rejoined : (w : Net) (n : Node) (p q : ℕ) → (p == 1) ≡ false → (xs : List Msg) → emitted (with_main w n) p q xs ≡ option_map (rejoined n) (emitted w p q xs)
unfolding rejoined
emit_rejoined w n p q c [] = refl
emit_rejoined w n p q c (m ∷ rest) =
    let nodes : put (put w.nodes 1 n) p (record (put w.nodes 1 n p) { outbox = put (put w.nodes 1 n p).outbox q rest })
    ≡ put (put w.nodes p (record (w.nodes p) { outbox = put (w.nodes p).outbox q rest })) 1 n =
    ap (λ (x : Node). put (put w.nodes 1 n) p (record x { outbox = put x.outbox q rest })) (node_other w n p c) ∙ put_other w.nodes 1 p n _ c in
    λ i. Some (record { net = record { nodes = nodes i; links = put2 w.links p q (w.links p q ++ m ∷ []) }; marks = [] })

step_rejoined : (w : Net) (n : Node) (p : ℕ) (s : Stepped) → (p == 1) ≡ false → stepped (with_main w n) p s ≡ rejoined n (stepped w p s)
unfolding rejoined
step_rejoined w n p s c = λ i. record { net = record { nodes = put_other w.nodes 1 p n s.node c i; links = w.links }; marks = map (marked p) s.effects }

arrive_rejoined : (w : Net) (n : Node) (p q : ℕ) → (q == 1) ≡ false → (xs : List Msg) → arrived (with_main w n) p q xs ≡ option_map (rejoined n) (arrived w p q xs)
arrive_rejoined w n p q c [] = refl
arrive_rejoined w n p q c (m ∷ rest) =
    ap (λ (x : Node). Some (stepped (off_link (with_main w n) p q rest) q (delivered p m x))) (node_other w n q c)
    ∙ ap (λ (x : Moved). Some x) (step_rejoined (off_link w p q rest) n q (delivered p m (w.nodes q)) c)

run_rejoined : (w : Net) (n : Node) (p : ℕ) → (p == 1) ≡ false → (s : Option Stepped) → moved_by (with_main w n) p s ≡ option_map (rejoined n) (moved_by w p s)
run_rejoined w n p c None = refl
run_rejoined w n p c (Some s) = ap (λ (x : Moved). Some x) (step_rejoined w n p s c)

moves_rejoined : (w : Net) (n : Node) (e : Event) → is_outside e ≡ true → moves (with_main w n) e ≡ option_map (rejoined n) (moves w e)
unfolding moves
moves_rejoined w n (Emit p q) o =
    let c = other p o in ap (λ (x : Node). emitted (with_main w n) p q (x.outbox q)) (node_other w n p c) ∙ emit_rejoined w n p q c ((w.nodes p).outbox q)
moves_rejoined w n (Deliver p q) o = arrive_rejoined w n p q (other q o) (w.links p q)
moves_rejoined w n (Run p) o =
    let c = other p o in ap (λ (x : Node). moved_by (with_main w n) p (ran p x x.ready)) (node_other w n p c) ∙ run_rejoined w n p c (ran p (w.nodes p) (w.nodes p).ready)

happens_is : (t : Told) (e : Event) → is_outside e ≡ true → happens t e ≡ added t (moves t.outside.net e)
unfolding happens
happens_is t e o = ap (λ (b : Bool). if b then added t (moves t.outside.net e) else None) o

told_inj : (a b : Told) → Some a ≡ Some b → a ≡ b
told_inj a b e = cc

outside_leaves : (t u : Told) (n : Node) (e : Event) → is_outside e ≡ true → happens t e ≡ Some (later u) → Leaves (moves (with_main t.outside.net n) e) 0 (joined_with t n) (joined_with u n)
unfolding rejoined
outside_leaves t u n e o h = by_move (moves t.outside.net e) refl
  where
    by_move : (m : Option Moved) → moves t.outside.net e ≡ m → Leaves (moves (with_main t.outside.net n) e) 0 (joined_with t n) (joined_with u n)
    by_move None k = let none : happens t e ≡ None = happens_is t e o ∙ ap (added t) k in cc (none, h)
    by_move (Some m) k =
        let some : Some (record { outside = record { net = m.net; events = t.outside.events + 1 }; marks = t.marks ++ m.marks }) ≡ Some (later u) = sym (happens_is t e o ∙ ap (added t) k) ∙ h in
        let same = told_inj _ (later u) some in
        let net : u.outside.net ≡ m.net = ap (λ (x : Told). x.outside.net) (sym same) in
        let up : u.outside.events + 1 ≡ t.outside.events + 1 = ap (λ (x : Told). x.outside.events) (sym same) in
        let events : u.outside.events ≡ t.outside.events + 0 = omega (arith, up) in
        let marks : u.marks ≡ t.marks ++ m.marks = ap (λ (x : Told). x.marks) (sym same) in
        record {
          moved = rejoined n m;
          possible = moves_rejoined t.outside.net n e o ∙ ap (option_map (rejoined n)) k;
          after = λ i. record { outside = record { net = with_main (net i) n; events = events i }; marks = marks i };
        }

pub outside_not : (t : Told) (n : Node) (e : Event) → is_outside e ≡ true → happens t e ≡ None → moves (with_main t.outside.net n) e ≡ None
outside_not t n e o h = by_move (moves t.outside.net e) refl
  where
    by_move : (m : Option Moved) → moves t.outside.net e ≡ m → moves (with_main t.outside.net n) e ≡ None
    by_move None k = moves_rejoined t.outside.net n e o ∙ ap (option_map (rejoined n)) k
    by_move (Some m) k = let some : happens t e ≡ added t (Some m) = happens_is t e o ∙ ap (added t) k in cc (some, h)

outside_can : (t : Told) (n : Node) (e : Event) → is_outside e ≡ true → happens t e ≢ None → moves (with_main t.outside.net n) e ≢ None
outside_can t n e o h = by_move (moves t.outside.net e) refl
  where
    by_move : (m : Option Moved) → moves t.outside.net e ≡ m → moves (with_main t.outside.net n) e ≢ None
    by_move None k = λ _. h (happens_is t e o ∙ ap (added t) k)
    by_move (Some m) k = λ none. let some = moves_rejoined t.outside.net n e o ∙ ap (option_map (rejoined n)) k in cc (some, none)

-- an event of the outside is one of the whole
pub tries_outside : (A : Type 0) (t u : Told) (n : Node) (e : Event) (r : Result A StepFault) → is_outside e ≡ true → Tries {A = A} e t u r
    → WorldTries {A = A} (moves (with_main t.outside.net n) e) (joined_with t n) (joined_with u n) r
tries_outside A t u n e (Ok x) o h = outside_leaves t u n e o h
tries_outside A t u n e (Err NotPossible) o h = (outside_not t n e o h.0, ap (λ (x : Told). joined_with x n) h.1)
tries_outside A t u n e (Err Limit) o h = h
tries_outside A t u n e (Err Stranger) o h = (outside_can t n e o h.0, h.1)
tries_outside A t u n e (Err Spent) o h = (outside_can t n e o h.0, h.1)
tries_outside A t u n e (Err OutOfMemory) o h = (outside_can t n e o h.0, h.1)

-- ---- events of process 1

add_none : (n : ℕ) → n ≡ n + 0
add_none n = omega arith

-- the node of process 1 is another
node_again : (t : Told) (n n' m : Node) → n' ≡ m → put t.outside.net.nodes 1 n' ≡ put (put t.outside.net.nodes 1 n) 1 m
node_again t n n' m e = ap (put t.outside.net.nodes 1) e ∙ sym (put_twice t.outside.net.nodes 1 n m)

pub emit_leaves : (t u : Told) (n n' : Node) (q : ℕ) (m : Msg) → Sends n q m n' → u ≡ linked t 1 q m
    → Leaves (moves (with_main t.outside.net n) (Emit 1 q)) 0 (joined_with t n) (joined_with u n')
unfolding moves
emit_leaves t u n n' q m s h = record {
  moved = record {
    net = record {
      nodes = put (put t.outside.net.nodes 1 n) 1 (record n { outbox = put n.outbox q s.rest });
      links = put2 t.outside.net.links 1 q (t.outside.net.links 1 q ++ m ∷ []);
    };
    marks = [];
  };
  possible = ap (emitted (with_main t.outside.net n) 1 q) s.oldest;
  after = ap (λ (x : Told). joined_with x n') h ∙ (λ i. record {
    outside = record {
      net = record { nodes = node_again t n n' _ s.node i; links = put2 t.outside.net.links 1 q (t.outside.net.links 1 q ++ m ∷ []) };
      events = add_none t.outside.events i;
    };
    marks = sym (append-nil t.marks) i;
  });
}

pub emit_none : (w : Net) (n : Node) (q : ℕ) → n.outbox q ≡ [] → moves (with_main w n) (Emit 1 q) ≡ None
unfolding moves
emit_none w n q e = ap (emitted (with_main w n) 1 q) e

pub emit_some : (w : Net) (n : Node) (q : ℕ) → n.outbox q ≢ [] → moves (with_main w n) (Emit 1 q) ≢ None
unfolding moves
emit_some w n q some = by_list (n.outbox q) refl
  where
    by_list : (xs : List Msg) → n.outbox q ≡ xs → emitted (with_main w n) 1 q (n.outbox q) ≢ None
    by_list [] e = λ _. some e
    by_list (m ∷ rest) e = λ none. let h = ap (emitted (with_main w n) 1 q) e in cc (h, none)

-- a message that left was there
pub emit_sent : (w : Net) (n n' : Node) (q : ℕ) (m : Msg) → Sends n q m n' → moves (with_main w n) (Emit 1 q) ≢ None
emit_sent w n n' q m s = emit_some w n q (λ none. let front = s.oldest in cc (front, none))

-- nothing changed
pub whole_same : (ws : Workers) (m k : Mail) (ev : ℕ) (ms ms' : List Mark) (n n' : Node) → mail_of k ≡ mail_of m → n' ≡ n → ms' ≡ ms
    → joined_with (told_with ws k ev ms') n' ≡ joined_with (told_with ws m ev ms) n
whole_same ws m k ev ms ms' n n' l e h = λ i. record {
  outside = record { net = record { nodes = put (nodes_of ws) 1 (e i); links = links_of (l i) (links_to ws) }; events = ev };
  marks = h i;
}

pub arrive_leaves : (ws : Workers) (m k : Mail) (ev : ℕ) (ms ms' : List Mark) (n n' : Node) (p : ℕ) → Arrives 1 p n n' (mail_of m) (mail_of k) ms ms'
    → Leaves (moves (with_main (told_with ws m ev ms).outside.net n) (Deliver p 1)) 0 (joined_with (told_with ws m ev ms) n) (joined_with (told_with ws k ev ms') n')
unfolding moves
arrive_leaves ws m k ev ms ms' n n' p x =
    let t = told_with ws m ev ms in
    let links : links_of (mail_of k) (links_to ws) ≡ put2 (links_of (mail_of m) (links_to ws)) p 1 x.rest =
    ap (λ (l : ℕ → List Msg). links_of l (links_to ws)) x.links ∙ links_main (mail_of m) (links_to ws) p x.rest in
    record {
      moved = stepped (off_link (with_main t.outside.net n) p 1 x.rest) 1 (delivered p x.msg n);
      possible = ap (arrived (with_main t.outside.net n) p 1) (link_main (mail_of m) (links_to ws) p ∙ x.front);
      after = λ i. record {
        outside = record { net = record { nodes = node_again t n n' _ x.node i; links = links i }; events = add_none ev i };
        marks = x.recorded i;
      };
    }

pub arrive_none : (ws : Workers) (m : Mail) (ev : ℕ) (ms : List Mark) (n : Node) (p : ℕ) → mail_of m p ≡ []
    → moves (with_main (told_with ws m ev ms).outside.net n) (Deliver p 1) ≡ None
unfolding moves
arrive_none ws m ev ms n p e = ap (arrived (with_main (told_with ws m ev ms).outside.net n) p 1) (link_main (mail_of m) (links_to ws) p ∙ e)

pub arrive_some : (ws : Workers) (m : Mail) (ev : ℕ) (ms : List Mark) (n : Node) (p : ℕ) → mail_of m p ≢ []
    → moves (with_main (told_with ws m ev ms).outside.net n) (Deliver p 1) ≢ None
unfolding moves
arrive_some ws m ev ms n p some = by_list (mail_of m p) refl
  where
    by_list : (xs : List Msg) → mail_of m p ≡ xs → moves (with_main (told_with ws m ev ms).outside.net n) (Deliver p 1) ≢ None
    by_list [] e = λ _. some e
    by_list (x ∷ rest) e = λ none. let h = ap (arrived (with_main (told_with ws m ev ms).outside.net n) p 1) (link_main (mail_of m) (links_to ws) p ∙ e) in cc (h, none)

pub run_leaves : (ws : Workers) (m : Mail) (ev : ℕ) (ms ms' : List Mark) (n n' : Node) → Runs 1 n n' ms ms'
    → Leaves (moves (with_main (told_with ws m ev ms).outside.net n) (Run 1)) 0 (joined_with (told_with ws m ev ms) n) (joined_with (told_with ws m ev ms') n')
unfolding moves
run_leaves ws m ev ms ms' n n' x =
    let t = told_with ws m ev ms in
    record {
      moved = stepped (with_main t.outside.net n) 1 x.step;
      possible = ap (moved_by (with_main t.outside.net n) 1) x.ran;
      after = λ i. record {
        outside = record { net = record { nodes = node_again t n n' _ x.node i; links = t.outside.net.links }; events = add_none ev i };
        marks = x.recorded i;
      };
    }

pub run_none : (w : Net) (n : Node) → ran 1 n n.ready ≡ None → moves (with_main w n) (Run 1) ≡ None
unfolding moves
run_none w n e = ap (moved_by (with_main w n) 1) e

pub run_some : (w : Net) (n : Node) → ran 1 n n.ready ≢ None → moves (with_main w n) (Run 1) ≢ None
unfolding moves
run_some w n some = by_step (ran 1 n n.ready) refl
  where
    by_step : (x : Option Stepped) → ran 1 n n.ready ≡ x → moved_by (with_main w n) 1 (ran 1 n n.ready) ≢ None
    by_step None e = λ _. some e
    by_step (Some s) e = λ none. cc (e, none)

-- a step that is possible failed
pub world_broken : (A : Type 0) (step : Option Moved) (t u : Told) (f : NodeFault) (g : StepFault) → g ≡ broken_by f → step ≢ None → u.marks ≡ t.marks
    → WorldTries {A = A} step t u (Err g)
world_broken A step t u f g same can h = subst (λ (x : StepFault). WorldTries {A = A} step t u (Err x)) (sym same) (by_fault f)
  where
    by_fault : (x : NodeFault) → WorldTries {A = A} step t u (Err (broken_by x))
    by_fault node.Limit = (can, h)
    by_fault node.OutOfMemory = (can, h)

-- a step is counted
pub counted : (step : Option Moved) (t u : Told) (k : ℕ) → Leaves step 0 t u → Leaves step k t (record u { outside = record u.outside { events = u.outside.events + k } })
counted step t u k x = record {
  moved = x.moved;
  possible = x.possible;
  after = ap (λ (z : Told). record z { outside = record z.outside { events = z.outside.events + k } }) x.after
      ∙ (let none : t.outside.events + 0 + k ≡ t.outside.events + k = omega arith in
      λ i. record { outside = record { net = x.moved.net; events = none i }; marks = t.marks ++ x.moved.marks });
}

-- ---- what can move

-- process 1 and the links to it are still
pub main_still : (ws : Workers) (m : Mail) (ev : ℕ) (ms : List Mark) (n : Node) → ((q : ℕ) → n.outbox q ≡ []) → ((p : ℕ) → mail_of m p ≡ []) → ran 1 n n.ready ≡ None
    → IsMainStuck (with_main (told_with ws m ev ms).outside.net n)
main_still ws m ev ms n outbox links ready (Emit p q) o =
    let one : p ≡ 1 = grind (arith, nat_tests, o) in
    subst (λ (z : ℕ). moves (with_main (told_with ws m ev ms).outside.net n) (Emit z q) ≡ None) (sym one) (emit_none (told_with ws m ev ms).outside.net n q (outbox q))
main_still ws m ev ms n outbox links ready (Deliver p q) o =
    let one : q ≡ 1 = grind (arith, nat_tests, o) in
    subst (λ (z : ℕ). moves (with_main (told_with ws m ev ms).outside.net n) (Deliver p z) ≡ None) (sym one) (arrive_none ws m ev ms n p (links p))
main_still ws m ev ms n outbox links ready (Run p) o =
    let one : p ≡ 1 = grind (arith, nat_tests, o) in
    subst (λ (z : ℕ). moves (with_main (told_with ws m ev ms).outside.net n) (Run z) ≡ None) (sym one) (run_none (told_with ws m ev ms).outside.net n ready)

still_event : (t : Told) → ((p : ℕ) → IsStill t p) → (e : Event) → happens t e ≡ None
still_event t still (Emit p q) = (still p).emit q
still_event t still (Deliver p q) = (still q).deliver p
still_event t still (Run p) = (still p).run

-- what the outside says of the whole, where process 1 is still
pub all_possible : (t : Told) (n : Node) (r : Option Event) → IsMainStuck (with_main t.outside.net n) → MatchOption r ((p : ℕ) → IsStill t p) (λ e. CanHappen t e)
    → MatchOption r (IsStuck (with_main t.outside.net n)) (λ e. moves (with_main t.outside.net n) e ≢ None)
all_possible t n None main h = λ e. by_test e (is_outside e) refl
  where
    by_test : (e : Event) (b : Bool) → is_outside e ≡ b → moves (with_main t.outside.net n) e ≡ None
    by_test e true o = outside_not t n e o (still_event t h e)
    by_test e false o = main e o
all_possible t n (Some e) main h = by_test (is_outside e) refl
  where
    by_test : (b : Bool) → is_outside e ≡ b → moves (with_main t.outside.net n) e ≢ None
    by_test true o = outside_can t n e o h
    by_test false o = absurd (h (inside_not t e o))

-- a task of process 1 can go on
pub ready_some : (n : Node) → is_some (ran 1 n n.ready) ≡ true → ran 1 n n.ready ≢ None
ready_some n h none = let test : is_some (ran 1 n n.ready) ≡ false = ap (λ (x : Option Stepped). is_some x) none in cc (h, test)

pub ready_none : (n : Node) → is_some (ran 1 n n.ready) ≡ false → ran 1 n n.ready ≡ None
ready_none n h = by_step (ran 1 n n.ready) h
  where
    by_step : (x : Option Stepped) → is_some x ≡ false → x ≡ None
    by_step None h = refl
    by_step (Some s) h = cc

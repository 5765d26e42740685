-- Rows of workers as functions.
use Rattle.std.specs.Prelude.{◌≡◌, ◌≢◌, ℕ, ◌==◌, ◌&&◌, ◌∷◌, ◌++◌, List, [], Option, None, Some, Bool, true, false, cond, if◌then◌else◌, IsSome, Result, Ok, Err, OnOk, OnErr, IfOk, MatchOption, map}
use Rattle.std.specs.Ordering.{nat_cmp}
use Rattle.std.specs.BTreeMap.{BTreeMap, is_at, get, Updates}
use Rattle.std.specs.Map.{lookup}
use Rattle.std.specs.Cmp.{unsigned_ties}
use Rattle.std.proofs.Common.{refl, sym, ap, subst, ◌∙◌, arith}
use Rattle.std.proofs.lemmas.Bool.Decides.{nat_tests}
use Rattle.std.proofs.Math.Path.{fun_ext}
use Rattle.jd_task.specs.declared.msg.Msg.{Msg}
use Rattle.jd_model.specs.Table.{put, put2}
use Rattle.jd_model.specs.declared.mark.Mark.{Mark}
use Rattle.jd_model.specs.Node.{Node, first_node, delivered, ran}
use Rattle.jd_model.specs.World.{marked}
use Rattle.jd_node.specs.View.{node_of, id_of}
use Rattle.jd_node.specs.Mail.{mail_of, no_mail}
use Rattle.jd_node.specs.Steps.{Sends}
use Rattle.jd_world.specs.declared.worker.Worker.{Worker}
use Rattle.jd_world.specs.declared.workers.Workers.{Workers}
use Rattle.jd_world.specs.Rows.{AreKeyed}
use Rattle.jd_world.specs.Workers.{worker_node, worker_links, nodes_of, links_to, Arrives, Runs, EmitsAt, ArrivesAt, RunsAt}

-- a look-up at a number
same_test : (q p : ℕ) → is_at (nat_cmp q) p ≡ (p == q)
same_test q p = sym (unsigned_ties q p) ∙ flip
  where
    flip : (q == p) ≡ (p == q)
    flip = grind (arith, nat_tests)

node_by : (t : Bool) (x o : Option Worker) (w : Worker) (n : ℕ) → x ≡ cond t (Some w) o → worker_node n x ≡ (if t then node_of w.node else worker_node n o)
node_by true x o w n e = ap (worker_node n) e
node_by false x o w n e = ap (worker_node n) e

links_by : (t : Bool) (x o : Option Worker) (w : Worker) → x ≡ cond t (Some w) o → worker_links x ≡ (if t then mail_of w.links else worker_links o)
links_by true x o w e = ap worker_links e
links_by false x o w e = ap worker_links e

-- the rows with another worker at a number
pub nodes_put : (a b : Workers) (q : ℕ) (w : Worker) → b.count ≡ a.count → Updates nat_cmp a.rows b.rows q (Some w) → nodes_of b ≡ put (nodes_of a) q (node_of w.node)
unfolding nodes_of
nodes_put a b q w c u = fun_ext (λ p.
    ap (λ (n : ℕ). worker_node n (get nat_cmp b.rows p)) c ∙ node_by (is_at (nat_cmp q) p) (get nat_cmp b.rows p) (get nat_cmp a.rows p) w a.count (u.0 p)
    ∙ ap (λ (t : Bool). if t then node_of w.node else worker_node a.count (get nat_cmp a.rows p)) (same_test q p))

pub links_put : (a b : Workers) (q : ℕ) (w : Worker) → Updates nat_cmp a.rows b.rows q (Some w) → links_to b ≡ put (links_to a) q (mail_of w.links)
unfolding links_to
links_put a b q w u = fun_ext (λ p.
    links_by (is_at (nat_cmp q) p) (get nat_cmp b.rows p) (get nat_cmp a.rows p) w (u.0 p)
    ∙ ap (λ (t : Bool). if t then mail_of w.links else worker_links (get nat_cmp a.rows p)) (same_test q p))

-- a table with what it has
pub put_own : {A : Type 0} (f : ℕ → A) (q : ℕ) → put f q (f q) ≡ f
put_own f q = fun_ext (λ x. by_test x (x == q) refl)
  where
    by_test : (x : ℕ) (t : Bool) → (x == q) ≡ t → (if t then f q else f x) ≡ f x
    by_test x true e = let same : q ≡ x = grind (arith, nat_tests, e) in ap f same
    by_test x false e = refl

pub put_in : (f : ℕ → ℕ → List Msg) (q p : ℕ) (ms : List Msg) → put f q (put (f q) p ms) ≡ put2 f q p ms
put_in f q p ms = fun_ext (λ x. fun_ext (λ y. by_test x y (x == q) refl))
  where
    by_test : (x y : ℕ) (t : Bool) → (x == q) ≡ t → (if t then put (f q) p ms else f x) y ≡ (if t && (y == p) then ms else f x y)
    by_test x y true e = let same : q ≡ x = grind (arith, nat_tests, e) in ap (λ (z : ℕ). if y == p then ms else f z y) same
    by_test x y false e = refl

-- what the rows have at a number, and what they have after another worker was written there
pub record Written (a b : Workers) (q : ℕ) (w w' : Worker) : Type 0 where
  pub node : nodes_of a q ≡ node_of w.node
  pub link : links_to a q ≡ mail_of w.links
  pub nodes : nodes_of b ≡ put (nodes_of a) q (node_of w'.node)
  pub links : links_to b ≡ put (links_to a) q (mail_of w'.links)

pub node_at : (a : Workers) (q : ℕ) (w : Worker) → Some w ≡ get nat_cmp a.rows q → nodes_of a q ≡ node_of w.node
unfolding nodes_of
node_at a q w e = ap (worker_node a.count) (sym e)

pub link_at : (a : Workers) (q : ℕ) (w : Worker) → Some w ≡ get nat_cmp a.rows q → links_to a q ≡ mail_of w.links
unfolding links_to
link_at a q w e = ap worker_links (sym e)

pub written : (a b : Workers) (q : ℕ) (w w' : Worker) → b.count ≡ a.count → Some w ≡ get nat_cmp a.rows q
    → (IsSome (get nat_cmp a.rows q) → Updates nat_cmp a.rows b.rows q (Some w')) → Written a b q w w'
written a b q w w' c e u = let up = u (subst IsSome e refl) in record {
  node = node_at a q w e;
  link = link_at a q w e;
  nodes = nodes_put a b q w' c up;
  links = links_put a b q w' up;
}

pub same_nodes : (a b : Workers) (q : ℕ) (w w' : Worker) → Written a b q w w' → node_of w'.node ≡ node_of w.node → nodes_of b ≡ nodes_of a
same_nodes a b q w w' h e = h.nodes ∙ ap (put (nodes_of a) q) (e ∙ sym h.node) ∙ put_own (nodes_of a) q

pub same_links : (a b : Workers) (q : ℕ) (w w' : Worker) → Written a b q w w' → mail_of w'.links ≡ mail_of w.links → links_to b ≡ links_to a
same_links a b q w w' h e = h.links ∙ ap (put (links_to a) q) (e ∙ sym h.link) ∙ put_own (links_to a) q

-- one queue of the worker is another
pub link_written : (a b : Workers) (q p : ℕ) (w w' : Worker) (f : List Msg → List Msg) → Written a b q w w' → mail_of w'.links ≡ put (mail_of w.links) p (f (mail_of w.links p))
    → links_to b ≡ put2 (links_to a) q p (f (links_to a q p))
link_written a b q p w w' f h e =
    let P : (ℕ → List Msg) → Type 0 = λ l. mail_of w'.links ≡ put l p (f (l p)) in
    let e' = subst P (sym h.link) e in
    h.links ∙ ap (put (links_to a) q) e' ∙ put_in (links_to a) q p (f (links_to a q p))

-- a number without a worker
pub no_node : (a : Workers) (q : ℕ) → get nat_cmp a.rows q ≡ None → nodes_of a q ≡ first_node a.count
unfolding nodes_of
no_node a q none = ap (worker_node a.count) none

pub no_link : (a : Workers) (q : ℕ) → get nat_cmp a.rows q ≡ None → links_to a q ≡ no_mail
unfolding links_to
no_link a q none = ap worker_links none

-- the first worker of a number
pub first_nodes : (a b : Workers) (q : ℕ) (w : Worker) → b.count ≡ a.count → get nat_cmp a.rows q ≡ None → Updates nat_cmp a.rows b.rows q (Some w)
    → node_of w.node ≡ first_node a.count → nodes_of b ≡ nodes_of a
first_nodes a b q w c none u e = nodes_put a b q w c u ∙ ap (put (nodes_of a) q) (e ∙ sym (no_node a q none)) ∙ put_own (nodes_of a) q

pub first_links : (a b : Workers) (q p : ℕ) (w : Worker) (m : Msg) → get nat_cmp a.rows q ≡ None → Updates nat_cmp a.rows b.rows q (Some w)
    → mail_of w.links ≡ put no_mail p (m ∷ []) → links_to b ≡ put2 (links_to a) q p (links_to a q p ++ m ∷ [])
first_links a b q p w m none u e =
    let P : (ℕ → List Msg) → Type 0 = λ l. mail_of w.links ≡ put l p (l p ++ m ∷ []) in
    let e' = subst P (sym (no_link a q none)) e in
    links_put a b q w u ∙ ap (put (links_to a) q) e' ∙ put_in (links_to a) q p (links_to a q p ++ m ∷ [])

pub on_ok : {T E P Q : Type 0} (r : Result T E) → OnOk r P → (P → Q) → OnOk r Q
on_ok (Ok v) p f = f p
on_ok (Err e) p f = p

pub on_ok_two : {T E P Q R : Type 0} (r : Result T E) → OnOk r P → OnOk r Q → (P → Q → R) → OnOk r R
on_ok_two (Ok v) p q f = f p q
on_ok_two (Err e) p q f = p

pub on_err : {T E P Q : Type 0} (r : Result T E) → OnErr r P → (P → Q) → OnErr r Q
on_err (Ok v) p f = p
on_err (Err e) p f = f p

pub if_ok : {T E : Type 0} {P Q : T → Type 0} (r : Result T E) → IfOk r P → ((v : T) → P v → Q v) → IfOk r Q
if_ok (Ok v) p f = f v p
if_ok (Err e) p f = p

-- a message leaves the outbox of a worker, or there is none
pub emitted_at : (a b : Workers) (p q : ℕ) (w w' : Worker) (r : Option Msg) → Written a b p w w'
    → MatchOption r (((node_of w.node).outbox q ≡ []) × (node_of w'.node ≡ node_of w.node)) (λ m. Sends (node_of w.node) q m (node_of w'.node))
    → MatchOption r (((nodes_of a p).outbox q ≡ []) × (nodes_of b ≡ nodes_of a)) (λ m. EmitsAt p q m (nodes_of a) (nodes_of b))
emitted_at a b p q w w' None h e = (ap (λ (n : Node). n.outbox q) h.node ∙ e.0, same_nodes a b p w w' h e.1)
emitted_at a b p q w w' (Some m) h s =
    let P : Node → Type 0 = λ n. put (nodes_of a) p (node_of w'.node) ≡ put (nodes_of a) p (record n { outbox = put n.outbox q s.rest }) in
    record {
      rest = s.rest;
      front = ap (λ (n : Node). n.outbox q) h.node ∙ s.oldest;
      after = h.nodes ∙ subst P (sym h.node) (ap (put (nodes_of a) p) s.node);
    }

-- a message arrives at a worker
pub arrives_at : (a b : Workers) (q from : ℕ) (w w' : Worker) (ms ms' : List Mark) → Written a b q w w' → Arrives q from (node_of w.node) (node_of w'.node) (mail_of w.links) (mail_of w'.links) ms ms' → ArrivesAt q from a b ms ms'
arrives_at a b q from w w' ms ms' h x = record {
  msg = x.msg;
  rest = x.rest;
  front = ap (λ (l : ℕ → List Msg). l from) h.link ∙ x.front;
  links = link_written a b q from w w' (λ _. x.rest) h x.links;
  nodes = h.nodes ∙ ap (put (nodes_of a) q) (x.node ∙ ap (λ (n : Node). (delivered from x.msg n).node) (sym h.node));
  recorded = x.recorded ∙ ap (λ (n : Node). ms ++ map (marked q) (delivered from x.msg n).effects) (sym h.node);
}

pub arrives_not : (a b : Workers) (q from : ℕ) (w w' : Worker) → Written a b q w w' → mail_of w.links from ≡ [] → mail_of w'.links ≡ mail_of w.links → node_of w'.node ≡ node_of w.node
    → (links_to a q from ≡ []) × (nodes_of b ≡ nodes_of a) × (links_to b ≡ links_to a)
arrives_not a b q from w w' h none l n = (ap (λ (k : ℕ → List Msg). k from) h.link ∙ none, same_nodes a b q w w' h n, same_links a b q w w' h l)

pub arrives_can : (a : Workers) (q from : ℕ) (w : Worker) → Some w ≡ get nat_cmp a.rows q → mail_of w.links from ≢ [] → links_to a q from ≢ []
arrives_can a q from w e some = λ none. some (sym (ap (λ (k : ℕ → List Msg). k from) (link_at a q w e)) ∙ none)

-- a task of a worker goes on
pub runs_at : (a b : Workers) (q : ℕ) (w w' : Worker) (ms ms' : List Mark) → Written a b q w w' → Runs q (node_of w.node) (node_of w'.node) ms ms' → RunsAt q a b ms ms'
runs_at a b q w w' ms ms' h x = record {
  step = x.step;
  ran = subst (λ (n : Node). ran q n n.ready ≡ Some x.step) (sym h.node) x.ran;
  nodes = h.nodes ∙ ap (put (nodes_of a) q) x.node;
  recorded = x.recorded;
}

pub runs_not : (a b : Workers) (q : ℕ) (w w' : Worker) → Written a b q w w' → ran q (node_of w.node) (node_of w.node).ready ≡ None → node_of w'.node ≡ node_of w.node
    → (ran q (nodes_of a q) (nodes_of a q).ready ≡ None) × (nodes_of b ≡ nodes_of a)
runs_not a b q w w' h none n = (subst (λ (m : Node). ran q m m.ready ≡ None) (sym h.node) none, same_nodes a b q w w' h n)

pub runs_can : (a : Workers) (q : ℕ) (w : Worker) → Some w ≡ get nat_cmp a.rows q → ran q (node_of w.node) (node_of w.node).ready ≢ None → ran q (nodes_of a q) (nodes_of a q).ready ≢ None
runs_can a q w e some = subst (λ (m : Node). ran q m m.ready ≢ None) (sym (node_at a q w e)) some

-- ---- each worker stands under the number of its node

pub keyed_at : (a : BTreeMap ℕ Worker) (q : ℕ) (w : Worker) → AreKeyed a → Some w ≡ get nat_cmp a q → id_of w.node ≡ q
keyed_at a q w k e = k q w (sym e)

pub keyed_put : (a b : BTreeMap ℕ Worker) (q : ℕ) (w : Worker) → AreKeyed a → Updates nat_cmp a b q (Some w) → id_of w.node ≡ q → AreKeyed b
keyed_put a b q w k u e p x h = by_test (is_at (nat_cmp q) p) refl (sym (u.0 p) ∙ h)
  where
    by_test : (t : Bool) → is_at (nat_cmp q) p ≡ t → cond t (Some w) (get nat_cmp a p) ≡ Some x → id_of x.node ≡ p
    by_test true at is = let test : (p == q) ≡ true = sym (same_test q p) ∙ at in let here : q ≡ p = grind (arith, nat_tests, test) in cc
    by_test false at is = k p x is

pub keyed_written : (a b : BTreeMap ℕ Worker) (q : ℕ) (w w' : Worker) → AreKeyed a → Some w ≡ get nat_cmp a q
    → (IsSome (get nat_cmp a q) → Updates nat_cmp a b q (Some w')) → id_of w'.node ≡ id_of w.node → AreKeyed b
keyed_written a b q w w' k e u same = keyed_put a b q w' k (u (subst IsSome e refl)) (same ∙ keyed_at a q w k e)

pub keyed_same : (a b : BTreeMap ℕ Worker) → AreKeyed a → b.entries ≡ a.entries → AreKeyed b
keyed_same a b k e p x h = k p x (ap (λ (es : List (ℕ × Worker)). lookup (is_at (nat_cmp p)) es) (sym e) ∙ h)

-- or the worker couldn't be placed
pub keyed_placed : {T E : Type 0} (r : Result T E) (a b : BTreeMap ℕ Worker) (q : ℕ) (w : Worker) → AreKeyed a → OnOk r (Updates nat_cmp a b q (Some w)) → OnErr r (b.entries ≡ a.entries)
    → id_of w.node ≡ q → AreKeyed b
keyed_placed (Ok v) a b q w k u n e = keyed_put a b q w k u e
keyed_placed (Err f) a b q w k u n e = keyed_same a b k n

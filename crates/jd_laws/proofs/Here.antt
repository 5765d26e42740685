-- A process in the middle of a step, with the machine at the marks so far.
use Rattle.std.proofs.Common.{◌≡◌, ℕ, ◌==◌, List, [], ◌∷◌, ◌++◌, map, Some, None, Bool, true, false, ◌&&◌, refl, arith, ap, sym, subst, ◌∙◌, if◌then◌else◌}
use Rattle.std.proofs.lemmas.Bool.Decides.{nat_tests}
use Rattle.jd_task.specs.declared.msg.Msg.{Msg}
use Rattle.jd_model.specs.declared.mark.Mark.{Mark}
use Rattle.jd_model.specs.declared.mark.Effect.{Effect}
use Rattle.jd_model.specs.Table.{put, put2, All}
use Rattle.jd_laws.proofs.Basics.{at_put, at_put2, put-same, all-append, all-map, ap_both}
use Rattle.std.proofs.Common.{append_assoc}
use Rattle.jd_model.specs.Asking.{is_known}
use Rattle.jd_model.specs.Machine.{State, legal, does, after}
use Rattle.jd_model.specs.Node.{Node, Waiting}
use Rattle.jd_model.specs.World.{Net, with_node, marked}
use Rattle.jd_model.specs.Refines.{way, IsUnset, Refines}
use Rattle.jd_laws.proofs.Reached.{IsReached}
use Rattle.jd_laws.proofs.Sound.{after_reached}
use Rattle.jd_laws.proofs.Fits.{NodeFits, WaysFit, MailFits, Fits, Same, ways_same, mail_same, fits_agrees}
use Rattle.jd_laws.proofs.Unseen.{unseen_fits, effects_unseen}

-- What is on its way and what waits, where process p is this node.
abbrev pub way_from : Net → ℕ → Node → ℕ → ℕ → List Msg
way_from w p n x y = w.links x y ++ (put w.nodes p n x).outbox y

abbrev pub wait_from : Net → ℕ → Node → ℕ → List Waiting
wait_from w p n x = (put w.nodes p n x).waiting

pub record Here (w : Net) (p : ℕ) (n : Node) (s : State) : Type 0 where
  pub node : NodeFits p n s
  pub ways : WaysFit (way_from w p n) (wait_from w p n) s.tasks s.requests
  pub mail : MailFits (way_from w p n) (wait_from w p n) s.workers
  pub unset : (q : ℕ) → All (IsUnset s) (wait_from w p n q)

-- The effects of a step so far are legal in their order, and the process is this node.
pub record Steps (w : Net) (p : ℕ) (s : State) (n : Node) (es : List Effect) : Type 0 where
  pub state : State
  pub replay : after (Some s) (map (marked p) es) ≡ Some state
  pub running : state.ending ≡ None
  pub here : Here w p n state

-- ---- ways

pub way_kept : (w : Net) (p : ℕ) (n m : Node) → m.outbox ≡ n.outbox → Same (way_from w p m) (way_from w p n)
way_kept w p n m e x y = elim (x == p) as (λ b. w.links x y ++ (if b then m else w.nodes x).outbox y ≡ w.links x y ++ (if b then n else w.nodes x).outbox y) [
  | true ↦ ap (λ (f : ℕ → List Msg). w.links x y ++ f y) e
  | false ↦ refl
]

pub wait_kept : (w : Net) (p : ℕ) (n m : Node) → m.waiting ≡ n.waiting → (q : ℕ) → wait_from w p m q ≡ wait_from w p n q
wait_kept w p n m e q = elim (q == p) as (λ b. (if b then m else w.nodes q).waiting ≡ (if b then n else w.nodes q).waiting) [
  | true ↦ e
  | false ↦ refl
]

pub wait_at : (w : Net) (p : ℕ) (n : Node) → wait_from w p n p ≡ n.waiting
wait_at w p n = ap (λ (x : Node). x.waiting) (put-same w.nodes p n)

pub way_at : (w : Net) (p : ℕ) (n : Node) (y : ℕ) → way_from w p n p y ≡ w.links p y ++ n.outbox y
way_at w p n y = ap (λ (x : Node). w.links p y ++ x.outbox y) (put-same w.nodes p n)

pub wait_changed : (w : Net) (p : ℕ) (n m : Node) (f : ℕ → List Waiting) → f p ≡ m.waiting → ((q : ℕ) → (q == p) ≡ false → f q ≡ wait_from w p n q) → (q : ℕ) → wait_from w p m q ≡ f q
wait_changed w p n m f e others q = at_put w.nodes p m q (λ (x : Node). x.waiting ≡ f q)
    (λ eq. sym (ap f eq ∙ e))
    (λ ne. sym (others q ne ∙ ap (λ (b : Bool). (if b then n else w.nodes q).waiting) ne))

pub wait_added : (w : Net) (p : ℕ) (n m : Node) (v : Waiting) → m.waiting ≡ n.waiting ++ v ∷ []
    → (q : ℕ) → wait_from w p m q ≡ put (wait_from w p n) p (wait_from w p n p ++ v ∷ []) q
wait_added w p n m v e =
    wait_changed w p n m (put (wait_from w p n) p (wait_from w p n p ++ v ∷ []))
    (put-same (wait_from w p n) p (wait_from w p n p ++ v ∷ []) ∙ ap (λ xs. xs ++ v ∷ []) (wait_at w p n) ∙ sym e)
    (λ q ne. ap (λ (b : Bool). if b then wait_from w p n p ++ v ∷ [] else wait_from w p n q) ne)

-- A message is sent.
pub way_sent : (w : Net) (p : ℕ) (n m : Node) (q : ℕ) (x : Msg) → m.outbox ≡ put n.outbox q (n.outbox q ++ x ∷ [])
    → Same (way_from w p m) (put2 (way_from w p n) p q (way_from w p n p q ++ x ∷ []))
way_sent w p n m q x e i j =
    at_put2 (way_from w p n) p q (way_from w p n p q ++ x ∷ []) i j (λ z. way_from w p m i j ≡ z)
    (λ ei ej. ap_both (way_from w p m) ei ej ∙ way_at w p m q ∙ ap (λ (f : ℕ → List Msg). w.links p q ++ f q) e
    ∙ ap (λ ms. w.links p q ++ ms) (put-same n.outbox q (n.outbox q ++ x ∷ [])) ∙ sym (append_assoc (w.links p q) (n.outbox q) (x ∷ [])) ∙ ap (λ ms. ms ++ x ∷ []) (sym (way_at w p n q)))
    (λ other. at_put w.nodes p m i (λ (z : Node). w.links i j ++ z.outbox j ≡ way_from w p n i j)
    (λ ei. ap (λ (f : ℕ → List Msg). w.links i j ++ f j) e ∙ ap (λ ms. w.links i j ++ ms) (elsewhere i j ei other) ∙ ap (λ k. w.links k j ++ n.outbox j) ei ∙ sym (ap (λ k. way_from w p n k j) ei ∙ way_at w p n j))
    (λ ne. ap (λ (b : Bool). w.links i j ++ (if b then n else w.nodes i).outbox j) (sym ne)))
  where
    elsewhere : (i j : ℕ) → i ≡ p → (i == p && j == q) ≡ false → put n.outbox q (n.outbox q ++ x ∷ []) j ≡ n.outbox j
    elsewhere i j ei other = at_put n.outbox q (n.outbox q ++ x ∷ []) j (λ z. z ≡ n.outbox j) (λ ej. absurd (grind (arith, nat_tests, other, ei, ej))) (λ _. refl)

-- ---- marks

pub goes : (s : State) (m : Mark) (x : State) (ms : List Mark) (u : State) → legal s m ≡ true → does s m.effect ≡ x → after (Some x) ms ≡ Some u → after (Some s) (m ∷ ms) ≡ Some u
goes s m x ms u l d r = rw (l, d) r

-- ---- from a cluster to a process of it, and back

pub starts_here : (w : Net) (p : ℕ) (s : State) → Fits w (λ q. (w.nodes q).waiting) s → ((q : ℕ) → All (IsUnset s) (w.nodes q).waiting) → Here w p (w.nodes p) s
starts_here w p s f unset = record {
  node = f.nodes p;
  ways = ways_same (way w) (way_from w p (w.nodes p)) (λ q. (w.nodes q).waiting) (wait_from w p (w.nodes p)) s.tasks s.tasks s.requests s.requests
      (λ x y. ap (λ (n : Node). w.links x y ++ n.outbox y) (back x)) (λ q. ap (λ (n : Node). n.waiting) (back q)) (λ x y. refl) (λ x y. refl) f.ways;
  mail = mail_same (way w) (way_from w p (w.nodes p)) (λ q. (w.nodes q).waiting) (wait_from w p (w.nodes p)) s.workers
      (λ x y. ap (λ (n : Node). w.links x y ++ n.outbox y) (back x)) (λ q. ap (λ (n : Node). n.waiting) (back q)) f.mail;
  unset = λ q. subst (All (IsUnset s)) (ap (λ (n : Node). n.waiting) (sym (back q))) (unset q);
}
  where
    back : (x : ℕ) → put w.nodes p (w.nodes p) x ≡ w.nodes x
    back x = at_put w.nodes p (w.nodes p) x (λ z. z ≡ w.nodes x) (λ e. ap w.nodes (sym e)) (λ _. refl)

pub steps_refine : (w : Net) (p : ℕ) (s : State) (n : Node) (es : List Effect) → IsReached s → ((q : ℕ) → (q == p) ≡ false → NodeFits q (w.nodes q) s) → (x : Steps w p s n es)
    → Refines (with_node w p n) x.state
steps_refine w p s n es a others x =
    let reached = after_reached s (map (marked p) es) x.state a x.replay in
    let fits : Fits (with_node w p n) (wait_from w p n) x.state = record {
      nodes = λ q. at_put w.nodes p n q (λ z. NodeFits q z x.state)
          (λ e. subst (λ i. NodeFits i n x.state) (sym e) x.here.node)
          (λ ne. unseen_fits q (w.nodes q) s x.state (effects_unseen q p s es x.state a x.replay ne) (others q ne));
      ways = x.here.ways;
      mail = x.here.mail;
    } in
    record {
      sound = reached.sound;
      agrees = fits_agrees (with_node w p n) (wait_from w p n) x.state reached fits;
      unset = x.here.unset;
    }

-- ---- messages between processes of the cluster

pub mail_put : (u : ℕ → ℕ → List Msg) (v : ℕ → List Waiting) (workers p q : ℕ) (ms : List Msg) → MailFits u v workers → (is_known workers p && is_known workers q) ≡ true
    → MailFits (put2 u p q ms) v workers
mail_put u v workers p q ms a known = record {
  mail = λ x y e. at_put2 u p q ms x y (λ z. z ≡ [])
      (λ ex ey. let same : (is_known workers x && is_known workers y) ≡ (is_known workers p && is_known workers q) = λ j. is_known workers (ex j) && is_known workers (ey j) in cc)
      (λ _. a.mail x y e);
  askers = a.askers;
}

pub mail_wait : (u : ℕ → ℕ → List Msg) (v : ℕ → List Waiting) (workers q : ℕ) (x : Waiting) → MailFits u v workers → is_known workers x.ask.process ≡ true
    → MailFits u (put v q (v q ++ x ∷ [])) workers
mail_wait u v workers q x a known = record {
  mail = a.mail;
  askers = λ y. at_put v q (v q ++ x ∷ []) y (All (λ z. is_known workers z.ask.process ≡ true)) (λ _. all-append (λ z. is_known workers z.ask.process ≡ true) (v q) (x ∷ []) (a.askers q) (known, tt)) (λ _. a.askers y);
}

-- A message on its way is between processes of the cluster.
pub mail_known : (u : ℕ → ℕ → List Msg) (v : ℕ → List Waiting) (workers p q : ℕ) (m : Msg) (rest : List Msg) → MailFits u v workers → u p q ≡ m ∷ rest
    → (is_known workers p && is_known workers q) ≡ true
mail_known u v workers p q m rest a e = by_test (is_known workers p && is_known workers q) refl
  where
    by_test : (b : Bool) → (is_known workers p && is_known workers q) ≡ b → b ≡ true
    by_test true k = refl
    by_test false k = let none = a.mail p q k in cc

-- ---- a step's parts put together

pub here_by : (w : Net) (p : ℕ) (m : Node) (u : State) (ways : ℕ → ℕ → List Msg) (waiting : ℕ → List Waiting) → NodeFits p m u → Same (way_from w p m) ways → ((q : ℕ) → wait_from w p m q ≡ waiting q)
    → WaysFit ways waiting u.tasks u.requests → MailFits ways waiting u.workers → ((q : ℕ) → All (IsUnset u) (waiting q)) → Here w p m u
here_by w p m u ways waiting node ew ev fits mail unset = record {
  node = node;
  ways = ways_same ways (way_from w p m) waiting (wait_from w p m) u.tasks u.tasks u.requests u.requests ew ev (λ x y. refl) (λ x y. refl) fits;
  mail = mail_same ways (way_from w p m) waiting (wait_from w p m) u.workers ew ev mail;
  unset = λ q. subst (All (IsUnset u)) (sym (ev q)) (unset q);
}

-- Nothing is sent, and nothing more waits.
pub here_kept : (w : Net) (p : ℕ) (n m : Node) (s u : State) → Here w p n s → NodeFits p m u → m.outbox ≡ n.outbox → m.waiting ≡ n.waiting
    → WaysFit (way_from w p n) (wait_from w p n) u.tasks u.requests → u.workers ≡ s.workers → ((x : Waiting) → IsUnset s x → IsUnset u x) → Here w p m u
here_kept w p n m s u h node eo ew fits workers unset =
    here_by w p m u (way_from w p n) (wait_from w p n) node (way_kept w p n m eo) (wait_kept w p n m ew) fits
    (subst (MailFits (way_from w p n) (wait_from w p n)) (sym workers) h.mail)
    (λ q. all-map (IsUnset s) (IsUnset u) (wait_from w p n q) unset (h.unset q))

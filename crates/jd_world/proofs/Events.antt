-- Events of a told world.
use Rattle.std.specs.Prelude.{◌≡◌, ◌≢◌, ℕ, ◌+◌, ◌==◌, not, List, [], ◌∷◌, ◌++◌, map, Option, None, Some, Bool, true, false, if◌then◌else◌}
use Rattle.std.proofs.Common.{refl, sym, ap, ◌∙◌, append-nil}
use Rattle.jd_task.specs.declared.msg.Msg.{Msg}
use Rattle.jd_model.specs.declared.mark.Mark.{Mark}
use Rattle.jd_model.specs.declared.event.Event.{Event}
use Rattle.jd_model.specs.declared.event.Event.TheVariants.{Emit, Deliver, Run}
use Rattle.jd_model.specs.Table.{put, put2}
use Rattle.jd_model.specs.Node.{Node, Stepped, delivered, ran}
use Rattle.jd_model.specs.World.{Told, Moved, happens, moves, added, emitted, arrived, moved_by, is_outside, marked}

abbrev pub if_outside : Told → Bool → Option Moved → Option Told
if_outside t b m = if b then added t m else None

pub inside_not : (t : Told) (e : Event) → is_outside e ≡ false → happens t e ≡ None
unfolding happens
inside_not t e c = ap (λ (b : Bool). if_outside t b (moves t.outside.net e)) c

nowhere : (t : Told) (b : Bool) → if_outside t b None ≡ None
nowhere t true = refl
nowhere t false = refl

outside : (p : ℕ) → (p == 1) ≡ false → not (p == 1) ≡ true
outside p c = ap not c

-- ---- a message leaves

emit_is : (t : Told) (p q : ℕ) → happens t (Emit p q) ≡ if_outside t (not (p == 1)) (emitted t.outside.net p q ((t.outside.net.nodes p).outbox q))
unfolding happens moves
emit_is t p q = refl

pub emit_not : (t : Told) (p q : ℕ) → (t.outside.net.nodes p).outbox q ≡ [] → happens t (Emit p q) ≡ None
emit_not t p q e = emit_is t p q ∙ ap (λ (xs : List Msg). if_outside t (not (p == 1)) (emitted t.outside.net p q xs)) e ∙ nowhere t (not (p == 1))

pub emit_happens : (t : Told) (p q : ℕ) (m : Msg) (rest : List Msg) (nodes : ℕ → Node) (links : ℕ → ℕ → List Msg) → (p == 1) ≡ false
    → (t.outside.net.nodes p).outbox q ≡ m ∷ rest
    → nodes ≡ put t.outside.net.nodes p (record (t.outside.net.nodes p) { outbox = put (t.outside.net.nodes p).outbox q rest })
    → links ≡ put2 t.outside.net.links p q (t.outside.net.links p q ++ m ∷ [])
    → happens t (Emit p q) ≡ Some (record { outside = record { net = record { nodes = nodes; links = links }; events = t.outside.events + 1 }; marks = t.marks })
emit_happens t p q m rest nodes links c front n l =
    emit_is t p q ∙ ap (λ (xs : List Msg). if_outside t (not (p == 1)) (emitted t.outside.net p q xs)) front
    ∙ ap (λ (b : Bool). if_outside t b (emitted t.outside.net p q (m ∷ rest))) (outside p c)
    ∙ (λ i. Some (record { outside = record { net = record { nodes = sym n i; links = sym l i }; events = t.outside.events + 1 }; marks = append-nil t.marks i }))

pub emit_can : (t : Told) (p q : ℕ) → (p == 1) ≡ false → (t.outside.net.nodes p).outbox q ≢ [] → happens t (Emit p q) ≢ None
emit_can t p q c some = by_list ((t.outside.net.nodes p).outbox q) refl
  where
    by_list : (xs : List Msg) → (t.outside.net.nodes p).outbox q ≡ xs → happens t (Emit p q) ≢ None
    by_list [] e = λ _. some e
    by_list (m ∷ rest) e = λ none. let h = emit_happens t p q m rest _ _ c e refl refl in cc

-- ---- a message arrives

deliver_is : (t : Told) (p q : ℕ) → happens t (Deliver p q) ≡ if_outside t (not (q == 1)) (arrived t.outside.net p q (t.outside.net.links p q))
unfolding happens moves
deliver_is t p q = refl

pub deliver_not : (t : Told) (p q : ℕ) → t.outside.net.links p q ≡ [] → happens t (Deliver p q) ≡ None
deliver_not t p q e = deliver_is t p q ∙ ap (λ (xs : List Msg). if_outside t (not (q == 1)) (arrived t.outside.net p q xs)) e ∙ nowhere t (not (q == 1))

pub deliver_happens : (t : Told) (p q : ℕ) (m : Msg) (rest : List Msg) (nodes : ℕ → Node) (links : ℕ → ℕ → List Msg) (marks : List Mark) → (q == 1) ≡ false
    → t.outside.net.links p q ≡ m ∷ rest
    → nodes ≡ put t.outside.net.nodes q (delivered p m (t.outside.net.nodes q)).node
    → links ≡ put2 t.outside.net.links p q rest
    → marks ≡ t.marks ++ map (marked q) (delivered p m (t.outside.net.nodes q)).effects
    → happens t (Deliver p q) ≡ Some (record { outside = record { net = record { nodes = nodes; links = links }; events = t.outside.events + 1 }; marks = marks })
deliver_happens t p q m rest nodes links marks c front n l ms =
    deliver_is t p q ∙ ap (λ (xs : List Msg). if_outside t (not (q == 1)) (arrived t.outside.net p q xs)) front
    ∙ ap (λ (b : Bool). if_outside t b (arrived t.outside.net p q (m ∷ rest))) (outside q c)
    ∙ (λ i. Some (record { outside = record { net = record { nodes = sym n i; links = sym l i }; events = t.outside.events + 1 }; marks = sym ms i }))

pub deliver_can : (t : Told) (p q : ℕ) → (q == 1) ≡ false → t.outside.net.links p q ≢ [] → happens t (Deliver p q) ≢ None
deliver_can t p q c some = by_list (t.outside.net.links p q) refl
  where
    by_list : (xs : List Msg) → t.outside.net.links p q ≡ xs → happens t (Deliver p q) ≢ None
    by_list [] e = λ _. some e
    by_list (m ∷ rest) e = λ none. let h = deliver_happens t p q m rest _ _ _ c e refl refl refl in cc

-- ---- a task goes on

run_is : (t : Told) (p : ℕ) → happens t (Run p) ≡ if_outside t (not (p == 1)) (moved_by t.outside.net p (ran p (t.outside.net.nodes p) (t.outside.net.nodes p).ready))
unfolding happens moves
run_is t p = refl

pub run_not : (t : Told) (p : ℕ) → ran p (t.outside.net.nodes p) (t.outside.net.nodes p).ready ≡ None → happens t (Run p) ≡ None
run_not t p e = run_is t p ∙ ap (λ (s : Option Stepped). if_outside t (not (p == 1)) (moved_by t.outside.net p s)) e ∙ nowhere t (not (p == 1))

pub run_happens : (t : Told) (p : ℕ) (s : Stepped) (nodes : ℕ → Node) (links : ℕ → ℕ → List Msg) (marks : List Mark) → (p == 1) ≡ false
    → ran p (t.outside.net.nodes p) (t.outside.net.nodes p).ready ≡ Some s → nodes ≡ put t.outside.net.nodes p s.node → links ≡ t.outside.net.links
    → marks ≡ t.marks ++ map (marked p) s.effects
    → happens t (Run p) ≡ Some (record { outside = record { net = record { nodes = nodes; links = links }; events = t.outside.events + 1 }; marks = marks })
run_happens t p s nodes links marks c front n l ms =
    run_is t p ∙ ap (λ (x : Option Stepped). if_outside t (not (p == 1)) (moved_by t.outside.net p x)) front
    ∙ ap (λ (b : Bool). if_outside t b (moved_by t.outside.net p (Some s))) (outside p c)
    ∙ (λ i. Some (record { outside = record { net = record { nodes = sym n i; links = sym l i }; events = t.outside.events + 1 }; marks = sym ms i }))

pub run_can : (t : Told) (p : ℕ) → (p == 1) ≡ false → ran p (t.outside.net.nodes p) (t.outside.net.nodes p).ready ≢ None → happens t (Run p) ≢ None
run_can t p c some = by_step (ran p (t.outside.net.nodes p) (t.outside.net.nodes p).ready) refl
  where
    by_step : (x : Option Stepped) → ran p (t.outside.net.nodes p) (t.outside.net.nodes p).ready ≡ x → happens t (Run p) ≢ None
    by_step None e = λ _. some e
    by_step (Some s) e = λ none. let h = run_happens t p s _ _ _ c e refl refl refl in cc

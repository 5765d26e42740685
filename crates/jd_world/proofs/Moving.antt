-- Several events, one after another.
use Rattle.std.specs.Prelude.{◌≡◌, ℕ, ◌+◌, ◌==◌, ◌≤◌, ◌<◌, List, [], ◌∷◌, ◌++◌, Option, None, Some, Bool, true, false, if◌then◌else◌, Err}
use Rattle.std.proofs.Common.{refl, sym, ap, subst, arith}
use Rattle.std.proofs.lemmas.Bool.Decides.{nat_tests}
use Rattle.jd_task.specs.declared.msg.Msg.{Msg}
use Rattle.jd_model.specs.declared.event.Event.{Event}
use Rattle.jd_model.specs.declared.event.Event.TheVariants.{Emit, Deliver, Run}
use Rattle.jd_model.specs.declared.start.Start.{Start}
use Rattle.jd_model.specs.World.{Told, Moved, Moves, Leads, IsQuiet, happens, moves, added, is_outside}
use Rattle.jd_world.specs.declared.step_fault.StepFault.{StepFault}
use Rattle.jd_world.specs.declared.step_fault.StepFault.TheVariants.{NotPossible, Limit, Stranger, Spent, OutOfMemory}
use Rattle.jd_world.specs.Fabric.{IsWorker, Receives, GoesQuiet, IsFull, max_events}
use Rattle.jd_world.specs.Outside.{Tries, Steps, Finds, IsStill, TakesOff, IsEmptyToMain}

pub steps_err : (A : Type 0) (e : Event) (t u : Told) (f : StepFault) → Tries {A = A} e t u (Err f) → Steps {A = A} e t u (Err f)
steps_err A e t u NotPossible h = h
steps_err A e t u Limit h = absurd h
steps_err A e t u Stranger h = h.1
steps_err A e t u Spent h = h.1
steps_err A e t u OutOfMemory h = h.1

pub not_main : (begun : Option Start) (p : ℕ) → IsWorker begun p → (p == 1) ≡ false
not_main None p h = absurd h
not_main (Some start) p h = let above : 2 ≤ p = h.0 in grind (arith, nat_tests, above)

-- no event
pub moves_none : (t : Told) → Moves t t
moves_none t = record { events = []; leads = refl }

-- one more event
pub moves_more : (t u v : Told) (e : Event) → Moves t u → happens u e ≡ Some v → Moves t v
moves_more t u v e m h = record { events = m.events ++ e ∷ []; leads = more m.events t m.leads }
  where
    more : (es : List Event) (t : Told) → Leads es t u → Leads (es ++ e ∷ []) t v
    more [] t l = (v, subst (λ (z : Told). happens z e ≡ Some v) l h, refl)
    more (x ∷ es) t l = (l.0, l.1, more es l.0 l.2)

-- a message comes after these events
pub comes : (t u v : Told) (p : ℕ) (m : Msg) → Moves t u → u.outside.events < max_events → TakesOff p m u v → Receives p m t v
comes t u v p m moves room x = record { mid = u; rest = x.rest; moves = moves; front = x.front; room = room; after = x.after }

-- nothing can move after these events
pub quiet : (t : Told) → ((p : ℕ) → IsStill t p) → IsEmptyToMain t → IsQuiet t
quiet t still empty = record { events = event; links = empty }
  where
    event : (e : Event) → happens t e ≡ None
    event (Emit p q) = (still p).emit q
    event (Deliver p q) = (still q).deliver p
    event (Run p) = (still p).run

-- the step after these events failed
pub fails : (A : Type 0) (t u v : Told) (e : Event) (f : StepFault) → Moves t u → Steps {A = A} e u v (Err f) → Finds t v (Err f)
fails A t u v e NotPossible m h = record { to = u; moves = m; marks = ap (λ (x : Told). x.marks) h.1 }
fails A t u v e Limit m h = (record { to = u; moves = m; marks = ap (λ (x : Told). x.marks) h.1 }, subst IsFull (sym h.1) h.0)
fails A t u v e Stranger m h = record { to = u; moves = m; marks = h }
fails A t u v e Spent m h = record { to = u; moves = m; marks = h }
fails A t u v e OutOfMemory m h = record { to = u; moves = m; marks = h }

-- nothing was taken, and nothing can move
pub goes_quiet : (t u v : Told) → Moves t u → IsEmptyToMain u × (v ≡ u) → ((p : ℕ) → IsStill v p) → GoesQuiet t v
goes_quiet t u v m h still = record { moves = subst (Moves t) (sym h.1) m; quiet = quiet v still (subst IsEmptyToMain (sym h.1) h.0) }

-- nothing was taken, and an event happened
pub goes_on : (t u v w : Told) (e : Event) → Moves t u → v ≡ u → happens v e ≡ Some w → Moves t w
goes_on t u v w e m same h = moves_more t v w e (subst (Moves t) (sym same) m) h

some_inj : (a b : Told) → Some a ≡ Some b → a ≡ b
some_inj a b e = cc

-- an event is counted
pub counted : (t u : Told) (e : Event) → happens t e ≡ Some u → u.outside.events ≡ t.outside.events + 1
unfolding happens
counted t u e h = by_test (is_outside e) (moves t.outside.net e) h
  where
    by_test : (b : Bool) (m : Option Moved) → (if b then added t m else None) ≡ Some u → u.outside.events ≡ t.outside.events + 1
    by_test true (Some m) h = let made : Some (record { outside = record { net = m.net; events = t.outside.events + 1 }; marks = t.marks ++ m.marks }) ≡ Some u = h in
        ap (λ (x : Told). x.outside.events) (sym (some_inj _ u made))
    by_test true None h = cc
    by_test false m h = cc

-- Every state that the machine comes to is sound.
use Rattle.std.proofs.Common.{◌≡◌, ℕ, List, [], ◌∷◌, ◌++◌, Option, Some, None, Bool, true, false, not, is_none, refl, ap, sym, subst, ◌∙◌, if◌then◌else◌}
use Rattle.std.specs.Prelude.{filter}
use Rattle.jd_value.specs.declared.reference.RefId.{RefId}
use Rattle.jd_value.specs.declared.tree.Program.{Program}
use Rattle.jd_task.specs.declared.job.TaskId.{TaskId}
use Rattle.jd_task.specs.declared.place.Place.{Place}
use Rattle.jd_task.specs.declared.job.Turn.{Turn}
use Rattle.jd_task.specs.declared.job.Turn.TheVariants.{Asks, Ended}
use Rattle.jd_task.specs.Running.{advance}
use Rattle.jd_model.specs.Outcome.{Outcome}
use Rattle.jd_model.specs.declared.asking.Asking.{Asking}
use Rattle.jd_model.specs.declared.asking.Asking.TheVariants as asking
use Rattle.jd_model.specs.declared.life.Life.TheVariants.{Over}
use Rattle.jd_model.specs.declared.mark.Mark.{Mark}
use Rattle.jd_model.specs.declared.mark.Effect.{Effect}
use Rattle.jd_model.specs.declared.mark.Effect.TheVariants.{Ran, Started, Took, Returned, Local, Printed}
use Rattle.jd_model.specs.declared.start.Start.{Start}
use Rattle.jd_laws.proofs.Basics.{and_right, some_same}
use Rattle.jd_model.specs.Machine.{State, Task, first, legal_at, legal, does, with_life, refreshed, turned, wants, set_by_end, is_task, is_main, takes, after, replayed}
use Rattle.jd_model.specs.Asking.{asking}
use Rattle.jd_laws.proofs.Reached.{IsReached, first_reached}
use Rattle.jd_laws.proofs.Effects.{runnable, startable, takable, returnable, lookable, printable, ran_state, start_state, took_state, returned_state, looked_state, print_state}
use Rattle.jd_laws.proofs.Marks.{effect_sound}
use Rattle.jd_laws.specs.Laws.{ReplaysAreSound}

-- ---- nothing is lost

-- Losses are those before.
record SameLosses (s u : State) : Type 0 where
  pub lost : u.lost ≡ s.lost
  pub noticed : u.noticed ≡ s.noticed

end_losses : (s : State) (p : ℕ) (c : Option RefId) (o : Outcome) → SameLosses s (set_by_end s p c o)
end_losses s p None o = record { lost = refl; noticed = refl }
end_losses s p (Some r) o = record { lost = refl; noticed = refl }

wants_losses : (s : State) (t : TaskId) (k : Task) (x : Place) (want : Asking) → SameLosses s (wants s t k x want)
wants_losses s t k x (asking.Answers v) = record { lost = refl; noticed = refl }
wants_losses s t k x (asking.Prints vs) = record { lost = refl; noticed = refl }
wants_losses s t k x (asking.Fetches r) = record { lost = refl; noticed = refl }
wants_losses s t k x (asking.Calls p code args) = record { lost = refl; noticed = refl }

turn_losses : (s : State) (t : TaskId) (k : Task) (x : Place) (turn : Turn) (p : ℕ) → SameLosses s (refreshed (turned s t k x turn) p)
turn_losses s t k x (Asks op) p = let w = wants_losses s t k x (asking s.workers (s.noticed k.home) (is_main t) op) in record { lost = w.lost; noticed = w.noticed }
turn_losses s t k x (Ended v) p =
    let e = end_losses (record (with_life s t k Over) { running = filter (λ u. not (is_task t u)) s.running }) k.home k.cell v in record { lost = e.lost; noticed = e.noticed }

effect_losses : (s : State) (e : Effect) (by : ℕ) → IsReached s → legal_at s e by ≡ true → SameLosses s (does s e)
effect_losses s (Ran t) by a l =
    let r = runnable s t by a l in
    subst (SameLosses s) (sym (ran_state s t by r.0 r.1 r.2 r.3)) (turn_losses s t r.0 (advance r.1 r.2).0 (advance r.1 r.2).1 r.0.home)
effect_losses s (Started t) by a l = let r = startable s t by l in subst (SameLosses s) (sym (start_state s t by r.0 r.1 r.2 r.3)) (record { lost = refl; noticed = refl })
effect_losses s (Took x) by a l =
    let r = takable s x.process x.number by l in subst (SameLosses s) (sym (took_state s x.process x.number by r.0 r.1 r.2)) (record { lost = refl; noticed = refl })
effect_losses s (Returned t) by a l =
    let r = returnable s t by l in subst (SameLosses s) (sym (returned_state s t by r.0 r.1 r.2 r.3 r.4 r.5 r.6)) (record { lost = refl; noticed = refl })
effect_losses s (Local t) by a l =
    let r = lookable s t by l in subst (SameLosses s) (sym (looked_state s t by r.0 r.1 r.2 r.3 r.4 r.5 r.7)) (record { lost = refl; noticed = refl })
effect_losses s Printed by a l = let r = printable s by l in subst (SameLosses s) (sym (print_state s r.0 r.1 r.2 r.3)) (record { lost = refl; noticed = refl })

pub effect_reached : (s : State) (e : Effect) (by : ℕ) → IsReached s → legal_at s e by ≡ true → IsReached (does s e)
effect_reached s e by a l =
    let same = effect_losses s e by a l in
    record {
      sound = effect_sound s e by a.sound l;
      alive = λ p. ap (λ (f : ℕ → Bool). f p) same.lost ∙ a.alive p;
      calm = λ p w. ap (λ (f : ℕ → ℕ → Bool). f p w) same.noticed ∙ a.calm p w;
    }

-- ---- runs

pub after-append : (o : Option State) (xs ys : List Mark) → after o (xs ++ ys) ≡ after (after o xs) ys
after-append o [] ys = refl
after-append o (x ∷ xs) ys = after-append (takes o x) xs ys

pub after-none : (ms : List Mark) → after None ms ≡ None
after-none [] = refl
after-none (m ∷ ms) = after-none ms

-- The first of some marks is legal, and the others are legal behind it.
pub record First (s : State) (m : Mark) (ms : List Mark) (u : State) : Type 0 where
  pub legal : legal s m ≡ true
  pub rest : after (Some (does s m.effect)) ms ≡ Some u

pub first_mark : (s : State) (m : Mark) (ms : List Mark) (u : State) → after (Some s) (m ∷ ms) ≡ Some u → First s m ms u
first_mark s m ms u h = by_test (legal s m) refl h
  where
    by_test : (b : Bool) → legal s m ≡ b → after (if b then Some (does s m.effect) else None) ms ≡ Some u → First s m ms u
    by_test true e h = record { legal = e; rest = h }
    by_test false e h = let none = after-none ms in let clash : None ≡ Some u = sym none ∙ h in cc

pub after_reached : (s : State) (ms : List Mark) (u : State) → IsReached s → after (Some s) ms ≡ Some u → IsReached u
after_reached s [] u a h = subst IsReached (some_same _ _ h) a
after_reached s (m ∷ ms) u a h =
    let f = first_mark s m ms u h in
    after_reached (does s m.effect) ms u (effect_reached s m.effect m.by a (and_right _ _ f.legal)) f.rest

pub replay_reached : (program : Program) (start : Start) (ms : List Mark) (s : State) → replayed program start ms ≡ Some s → IsReached s
replay_reached program start ms s h = after_reached (first program start) ms s (first_reached program start) h

pub replays_are_sound : ReplaysAreSound
replays_are_sound program start ms s h = (replay_reached program start ms s h).sound

pub is_legal_at : (s : State) (m : Mark) → legal s m ≡ true → legal_at s m.effect m.by ≡ true
is_legal_at s m l = and_right (is_none s.ending) (legal_at s m.effect m.by) l

-- The beginnings of a record can be replayed, and the lines that they lack.
use Rattle.std.proofs.Common.{◌≡◌, ℕ, List, [], ◌∷◌, ◌++◌, length, Option, Some, None, true, refl, arith, ap, sym, ◌∙◌}
use Rattle.jd_value.specs.declared.reference.RefId.{RefId}
use Rattle.jd_task.specs.declared.job.TaskId.{TaskId}
use Rattle.jd_task.specs.declared.place.Place.{Place}
use Rattle.jd_task.specs.declared.job.Turn.{Turn}
use Rattle.jd_task.specs.declared.job.Turn.TheVariants.{Asks, Ended}
use Rattle.jd_task.specs.Running.{advance}
use Rattle.jd_model.specs.Outcome.{Outcome}
use Rattle.jd_model.specs.declared.asking.Asking.{Asking}
use Rattle.jd_model.specs.declared.asking.Asking.TheVariants as asking
use Rattle.jd_model.specs.declared.mark.Mark.{Mark}
use Rattle.jd_model.specs.declared.mark.Effect.{Effect}
use Rattle.jd_model.specs.declared.mark.Effect.TheVariants.{Ran, Started, Took, Returned, Local, Printed}
use Rattle.jd_model.specs.Table.{one, count}
use Rattle.jd_laws.proofs.Basics.{some_same}
use Rattle.std.proofs.Common.{append_assoc, append-nil, length-append}
use Rattle.jd_model.specs.Machine.{State, Task, first, legal_at, does, turned, wants, set_by_end, line, after, replayed}
use Rattle.jd_laws.proofs.Reached.{IsReached}
use Rattle.jd_laws.proofs.Effects.{runnable, startable, takable, returnable, lookable, printable, ran_state, start_state, took_state, returned_state, looked_state, print_state}
use Rattle.jd_laws.proofs.Sound.{after-append, after-none, first_mark, is_legal_at, replay_reached, effect_reached}
use Rattle.jd_laws.specs.Laws.{is_line, prints, PrefixReplays}

end_lines : (s : State) (p : ℕ) (c : Option RefId) (o : Outcome) → (set_by_end s p c o).lines ≡ s.lines
end_lines s p None o = refl
end_lines s p (Some r) o = refl

wants_lines : (s : State) (t : TaskId) (k : Task) (place : Place) (want : Asking) → (wants s t k place want).lines ≡ s.lines
wants_lines s t k place (asking.Answers o) = refl
wants_lines s t k place (asking.Prints vs) = refl
wants_lines s t k place (asking.Fetches r) = refl
wants_lines s t k place (asking.Calls p code args) = refl

turn_lines : (s : State) (t : TaskId) (k : Task) (place : Place) (turn : Turn) → (turned s t k place turn).lines ≡ s.lines
turn_lines s t k place (Ended o) = end_lines _ k.home k.cell o
turn_lines s t k place (Asks op) = wants_lines s t k place _

-- These lines came.
pub record Added (before after_it : List (List ℕ)) (number : ℕ) : Type 0 where
  pub later : List (List ℕ)
  pub lines : after_it ≡ before ++ later
  pub count : length later ≡ number

none_added : (xs ys : List (List ℕ)) → ys ≡ xs → Added xs ys 0
none_added xs ys e = record { later = []; lines = e ∙ sym (append-nil xs); count = refl }

effect_lines : (s : State) (e : Effect) (by : ℕ) → IsReached s → legal_at s e by ≡ true → Added s.lines (does s e).lines (one (is_line e))
effect_lines s (Ran t) by a l =
    let r = runnable s t by a l in
    none_added s.lines _ (ap (λ (x : State). x.lines) (ran_state s t by r.0 r.1 r.2 r.3) ∙ turn_lines s t r.0 (advance r.1 r.2).0 (advance r.1 r.2).1)
effect_lines s (Started t) by a l = let r = startable s t by l in none_added s.lines _ (ap (λ (x : State). x.lines) (start_state s t by r.0 r.1 r.2 r.3))
effect_lines s (Took x) by a l = let r = takable s x.process x.number by l in none_added s.lines _ (ap (λ (x : State). x.lines) (took_state s x.process x.number by r.0 r.1 r.2))
effect_lines s (Returned t) by a l =
    let r = returnable s t by l in none_added s.lines _ (ap (λ (x : State). x.lines) (returned_state s t by r.0 r.1 r.2 r.3 r.4 r.5 r.6))
effect_lines s (Local t) by a l =
    let r = lookable s t by l in none_added s.lines _ (ap (λ (x : State). x.lines) (looked_state s t by r.0 r.1 r.2 r.3 r.4 r.5 r.7))
effect_lines s Printed by a l =
    let r = printable s by l in
    record { later = line r.2 ∷ []; lines = ap (λ (x : State). x.lines) (print_state s r.0 r.1 r.2 r.3); count = refl }

pub after_lines : (s : State) (ms : List Mark) (u : State) → IsReached s → after (Some s) ms ≡ Some u → Added s.lines u.lines (count prints ms)
after_lines s [] u a h = none_added s.lines u.lines (ap (λ (x : State). x.lines) (sym (some_same _ _ h)))
after_lines s (m ∷ ms) u a h =
    let f = first_mark s m ms u h in
    let l = is_legal_at s m f.legal in
    let here = effect_lines s m.effect m.by a l in
    let rest = after_lines (does s m.effect) ms u (effect_reached s m.effect m.by a l) f.rest in
    record {
      later = here.later ++ rest.later;
      lines = rest.lines ∙ ap (λ ls. ls ++ rest.later) here.lines ∙ append_assoc s.lines here.later rest.later;
      count = let here_count = here.count in let rest_count = rest.count in omega (arith, length-append here.later rest.later);
    }

-- Where marks and more are legal, so are they.
pub after_some : (o : Option State) (ms : List Mark) (u : State) → after o ms ≡ Some u → (x : State) × (o ≡ Some x)
after_some None ms u h = let none = after-none ms in let clash : None ≡ Some u = sym none ∙ h in cc
after_some (Some x) ms u h = (x, refl)

pub prefix_replays : PrefixReplays
prefix_replays program start marks rest s h =
    let both_runs = sym (after-append (Some (first program start)) marks rest) ∙ h in
    let x = after_some (replayed program start marks) rest s both_runs in
    let reached = replay_reached program start marks x.0 x.1 in
    let ls = after_lines x.0 rest s reached (ap (λ o. after o rest) (sym x.1) ∙ both_runs) in
    record { state = x.0; replay = x.1; later = ls.later; lines = ls.lines; count = ls.count }

-- What a part of a step leaves, and numbers.
use Rattle.std.proofs.Common.{◌≡◌, ℕ, ◌+◌, ◌≤◌, List, [], ◌∷◌, ◌++◌, length, map, Option, Some, None, true, false, ◌&&◌, inl, inr, refl, arith, ap, sym, subst, ◌∙◌}
use Rattle.std.proofs.lemmas.Bool.Decides.{nat_tests}
use Rattle.jd_value.specs.declared.reference.RefId.{RefId}
use Rattle.jd_value.specs.declared.tree.Program.{Program}
use Rattle.jd_task.specs.declared.job.TaskId.{TaskId}
use Rattle.jd_task.specs.declared.place.Place.{Place}
use Rattle.jd_task.specs.declared.job.Turn.{Turn}
use Rattle.jd_task.specs.declared.job.Turn.TheVariants.{Asks, Ended}
use Rattle.jd_task.specs.declared.msg.Msg.{Msg}
use Rattle.jd_task.specs.Running.{advance}
use Rattle.jd_model.specs.Outcome.{Outcome}
use Rattle.jd_model.specs.declared.asking.Asking.{Asking}
use Rattle.jd_model.specs.declared.asking.Asking.TheVariants as asking
use Rattle.jd_model.specs.declared.mark.Mark.{Mark}
use Rattle.jd_model.specs.declared.mark.Effect.{Effect}
use Rattle.jd_model.specs.declared.mark.Effect.TheVariants.{Ran, Started, Took, Returned, Local, Printed}
use Rattle.jd_model.specs.declared.start.Start.{Start}
use Rattle.jd_model.specs.Table.{count}
use Rattle.jd_laws.proofs.Basics.{some_same, map-append, no_length}
use Rattle.std.proofs.Common.{append-nil, ◌*◌}
use Rattle.jd_model.specs.Asking.{is_known, asking}
use Rattle.jd_model.specs.Machine.{State, Task, first, legal_at, does, after, wants, turned, refreshed, set_by_end, is_main}
use Rattle.jd_model.specs.Node.{Node}
use Rattle.jd_model.specs.World.{Told, marked}
use Rattle.jd_model.specs.Refines.{Stands}
use Rattle.jd_laws.proofs.Reached.{IsReached, first_reached}
use Rattle.jd_laws.proofs.Effects.{runnable, startable, takable, returnable, lookable, printable, ran_state, start_state, took_state, returned_state, looked_state, print_state}
use Rattle.jd_laws.proofs.Sound.{after-append, first_mark, is_legal_at, effect_reached}
use Rattle.jd_laws.proofs.Prefix.{after_lines, after_some}
use Rattle.jd_laws.proofs.Silent.{IsSilent, silent_marks, silent_first, silent_run, silent_arrival}
use Rattle.jd_laws.proofs.Standing.{cluster, reached_state, fits_of, run_of, arrival_of}
use Rattle.jd_laws.specs.Laws.{is_line, ReplaysPart, PartOfRun, PartOfArrival, WorkersStay, CountsWithin, HubCountsWithin, MailIsForWorkers}

-- ---- parts of steps

-- Where effects and more are legal and silent, so are they.
part_of : (program : Program) (start : Start) (hub : Node) (t : Told) (lines : List (List ℕ)) (es rest : List Effect) (u : State) (f : Stands program start hub t lines)
    → after (Some f.state) (map (marked 1) (es ++ rest)) ≡ Some u → IsSilent (es ++ rest) → ReplaysPart program start t lines es
part_of program start hub t lines es rest u f h silent =
    let split = ap (after (Some f.state)) (sym (map-append (marked 1) es rest)) ∙ h in
    let x = after_some (after (Some f.state) (map (marked 1) es)) (map (marked 1) rest) u (sym (after-append (Some f.state) (map (marked 1) es) (map (marked 1) rest)) ∙ split) in
    let ls = after_lines f.state (map (marked 1) es) x.0 (reached_state program start hub t lines f) x.1 in
    let none = no_length ls.later (ls.count ∙ silent_marks 1 es (silent_first es rest silent)) in (
      x.0,
      after-append (Some (first program start)) t.marks (map (marked 1) es) ∙ ap (λ o. after o (map (marked 1) es)) f.replay ∙ x.1,
      ls.lines ∙ ap (λ zs. f.state.lines ++ zs) none ∙ append-nil f.state.lines ∙ f.printed,
    )

pub part_of_run : PartOfRun
part_of_run program start hub t lines step es rest f l e all =
    let left = run_of (cluster t hub) 1 hub f.state step (reached_state program start hub t lines f) (f.running l) (f.refines l) refl e in
    part_of program start hub t lines es rest left.state f (ap (λ xs. after (Some f.state) (map (marked 1) xs)) (sym all) ∙ left.replay) (ap (count is_line) (sym all) ∙ silent_run 1 hub hub.ready step e)

pub part_of_arrival : PartOfArrival
part_of_arrival program start hub t lines q m rest_link es rest f l e all =
    let left = arrival_of (cluster t hub) q 1 hub m rest_link f.state (reached_state program start hub t lines f) (f.running l) (f.refines l) refl e in
    part_of program start hub t lines es rest left.state f (ap (λ xs. after (Some f.state) (map (marked 1) xs)) (sym all) ∙ left.replay) (ap (count is_line) (sym all) ∙ silent_arrival q m hub)

-- ---- numbers

-- How an effect changes the numbers of a process.
pub record Grows (s u : State) : Type 0 where
  pub workers : u.workers ≡ s.workers
  pub called : (p : ℕ) → u.called p + u.made p ≤ s.called p + s.made p + 2
  pub asked : (p : ℕ) → u.asked p ≤ s.asked p + 1

grows_none : (s u : State) → u.workers ≡ s.workers → u.called ≡ s.called → u.made ≡ s.made → u.asked ≡ s.asked → Grows s u
grows_none s u ew ec em ea = record {
  workers = ew;
  called = λ p. let c : u.called p ≡ s.called p = ap (λ f. f p) ec in let m : u.made p ≡ s.made p = ap (λ f. f p) em in omega arith;
  asked = λ p. let x : u.asked p ≡ s.asked p = ap (λ f. f p) ea in omega arith;
}

end_grows : (s : State) (p : ℕ) (c : Option RefId) (o : Outcome) → Grows s (set_by_end s p c o)
end_grows s p None o = grows_none s _ refl refl refl refl
end_grows s p (Some r) o = grows_none s _ refl refl refl refl

wants_grows : (s : State) (t : TaskId) (k : Task) (x : Place) (want : Asking) → Grows s (wants s t k x want)
wants_grows s t k x (asking.Answers v) = grows_none s _ refl refl refl refl
wants_grows s t k x (asking.Prints vs) = grows_none s _ refl refl refl refl
wants_grows s t k x (asking.Fetches r) = record {
  workers = refl;
  called = λ p. omega arith;
  asked = λ p. grind (arith, nat_tests);
}
wants_grows s t k x (asking.Calls q code args) = record {
  workers = refl;
  called = λ p. grind (arith, nat_tests);
  asked = λ p. omega arith;
}

turn_grows : (s : State) (t : TaskId) (k : Task) (x : Place) (turn : Turn) → Grows s (turned s t k x turn)
turn_grows s t k x (Asks op) = wants_grows s t k x (asking s.workers (s.noticed k.home) (is_main t) op)
turn_grows s t k x (Ended v) = let e = end_grows _ k.home k.cell v in record { workers = e.workers; called = e.called; asked = e.asked }

refreshed_grows : (s u : State) (p : ℕ) → Grows s u → Grows s (refreshed u p)
refreshed_grows s u p g = record { workers = g.workers; called = g.called; asked = g.asked }

effect_grows : (s : State) (e : Effect) (by : ℕ) → IsReached s → legal_at s e by ≡ true → Grows s (does s e)
effect_grows s (Ran t) by a l =
    let r = runnable s t by a l in
    subst (Grows s) (sym (ran_state s t by r.0 r.1 r.2 r.3)) (refreshed_grows s _ r.0.home (turn_grows s t r.0 (advance r.1 r.2).0 (advance r.1 r.2).1))
effect_grows s (Started t) by a l = let r = startable s t by l in subst (Grows s) (sym (start_state s t by r.0 r.1 r.2 r.3)) (grows_none s _ refl refl refl refl)
effect_grows s (Took x) by a l = let r = takable s x.process x.number by l in subst (Grows s) (sym (took_state s x.process x.number by r.0 r.1 r.2)) (grows_none s _ refl refl refl refl)
effect_grows s (Returned t) by a l = let r = returnable s t by l in subst (Grows s) (sym (returned_state s t by r.0 r.1 r.2 r.3 r.4 r.5 r.6)) (grows_none s _ refl refl refl refl)
effect_grows s (Local t) by a l = let r = lookable s t by l in subst (Grows s) (sym (looked_state s t by r.0 r.1 r.2 r.3 r.4 r.5 r.7)) (grows_none s _ refl refl refl refl)
effect_grows s Printed by a l = let r = printable s by l in subst (Grows s) (sym (print_state s r.0 r.1 r.2 r.3)) (grows_none s _ refl refl refl refl)

-- After some marks.
pub record GrewBy (s u : State) (n : ℕ) : Type 0 where
  pub workers : u.workers ≡ s.workers
  pub called : (p : ℕ) → u.called p + u.made p ≤ s.called p + s.made p + 2 * n
  pub asked : (p : ℕ) → u.asked p ≤ s.asked p + n

after_grows : (s : State) (ms : List Mark) (u : State) → IsReached s → after (Some s) ms ≡ Some u → GrewBy s u (length ms)
after_grows s [] u a h = subst (λ (z : State). GrewBy s z 0) (some_same _ _ h) (record { workers = refl; called = λ p. omega arith; asked = λ p. omega arith })
after_grows s (m ∷ ms) u a h =
    let f = first_mark s m ms u h in
    let l = is_legal_at s m f.legal in
    let here = effect_grows s m.effect m.by a l in
    let rest = after_grows (does s m.effect) ms u (effect_reached s m.effect m.by a l) f.rest in
    record {
      workers = rest.workers ∙ here.workers;
      called = λ p. let x = here.called p in let y = rest.called p in omega arith;
      asked = λ p. let x = here.asked p in let y = rest.asked p in omega arith;
    }

pub workers_stay : WorkersStay
workers_stay program start marks s h = (after_grows (first program start) marks s (first_reached program start) h).workers

pub counts_within : CountsWithin
counts_within program start marks s h p =
    let g = after_grows (first program start) marks s (first_reached program start) h in
    (let c = g.called p in omega arith, let x = g.asked p in omega arith)

pub hub_counts_within : HubCountsWithin
hub_counts_within program start hub t lines f l =
    let n = (fits_of program start hub t lines f l).nodes 1 in
    let c = counts_within program start t.marks f.state f.replay 1 in
    let called : hub.called ≡ f.state.called 1 = n.called in
    let made : hub.made ≡ f.state.made 1 = n.made in
    let asked : hub.asked ≡ f.state.asked 1 = n.asked in
    (let x = c.0 in omega arith, let x = c.1 in omega arith)

-- ---- messages

after_links : (xs ys : List Msg) → xs ++ ys ≡ [] → ys ≡ []
after_links [] ys h = h
after_links (x ∷ xs) ys h = cc

pub mail_is_for_workers : MailIsForWorkers
mail_is_for_workers program start hub t lines q f l (inr own) =
    after_links (t.outside.net.links 1 q) (hub.outbox q) (ap (λ x. t.outside.net.links 1 x ++ hub.outbox x) own ∙ (fits_of program start hub t lines f l).ways.own 1)
mail_is_for_workers program start hub t lines q f l (inl stranger) =
    let workers = workers_stay program start t.marks f.state f.replay in
    let unknown : (is_known f.state.workers 1 && is_known f.state.workers q) ≡ false = rw (workers, stranger) (grind (arith, nat_tests)) in
    after_links (t.outside.net.links 1 q) (hub.outbox q) ((fits_of program start hub t lines f l).mail.mail 1 q unknown)

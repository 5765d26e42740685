-- Each legal mark keeps the machine's state sound.
use Rattle.std.proofs.Common.{◌≡◌, ℕ, ◌+◌, ◌≤◌, [], ◌∷◌, ◌++◌, Option, Some, None, true, false, not, is_none, Ok, refl, ap, sym, subst, ◌∙◌}
use Rattle.std.specs.Prelude.{filter}
use Rattle.jd_value.specs.declared.reference.RefId.{RefId}
use Rattle.jd_value.specs.declared.value.Value.TheVariants.{Nothing, Future}
use Rattle.jd_task.specs.declared.job.TaskId.{TaskId}
use Rattle.jd_task.specs.declared.place.Place.{Place}
use Rattle.jd_task.specs.declared.job.Turn.{Turn}
use Rattle.jd_task.specs.declared.job.Turn.TheVariants.{Asks, Ended}
use Rattle.jd_task.specs.Running.{advance}
use Rattle.jd_task.specs.Places.{called_place}
use Rattle.jd_model.specs.Outcome.{Outcome}
use Rattle.jd_model.specs.declared.asking.Asking.{Asking}
use Rattle.jd_model.specs.declared.asking.Asking.TheVariants as asking
use Rattle.jd_model.specs.declared.life.Stage.{Stage}
use Rattle.jd_model.specs.declared.life.Stage.TheVariants as stage
use Rattle.jd_model.specs.declared.life.Life.{Life}
use Rattle.jd_model.specs.declared.life.Life.TheVariants.{Called, Running, Over}
use Rattle.jd_model.specs.declared.life.Answer.TheVariants.{Asked, Given}
use Rattle.jd_model.specs.declared.mark.Effect.{Effect}
use Rattle.jd_model.specs.declared.mark.Effect.TheVariants.{Ran, Started, Took, Returned, Local, Printed}
use Rattle.jd_model.specs.Table.{put2}
use Rattle.jd_laws.proofs.Basics.{and_right, put2-same}
use Rattle.jd_model.specs.Machine as machine
use Rattle.jd_model.specs.Machine.{State, Task, Request, legal_at, legal, does, with_life, refreshed, turned, over, wants, set_by_end, passed_on, ending_of, gives, is_task, is_main, answered, given, answer_at}
use Rattle.jd_model.specs.Asking.{asking}
use Rattle.jd_model.specs.Refines.{IsSound}
use Rattle.jd_laws.proofs.Changes.{refits, resumes, asks, adds, sets, answers, gets, is_waits}
use Rattle.jd_laws.proofs.Effects.{IsWaiting, IsGoing, startable, takable, returnable, lookable, printable, going, going_state, start_state, took_state, returned_state, looked_state, print_state, printed_state}
use Rattle.jd_laws.proofs.Fits.{put2-twice}
use Rattle.jd_laws.proofs.Asked.{IsForKnown, asks_known}
use Rattle.jd_laws.specs.Laws.{MarksKeepSoundness}

-- ---- a task that can go on

end_sound : (s : State) (k : Task) (o : Outcome) (c : Option RefId) → IsSound s → ((r : RefId) → c ≡ Some r → r.number ≤ s.made r.maker) → IsSound (set_by_end s k.home c o)
end_sound s k o None a made = refits s s.running s.fetched s.lines (Some (ending_of o)) a
end_sound s k o (Some r) a made = sets s r (passed_on k.home o) a (made r refl)

wants_sound : (s : State) (t : TaskId) (k : Task) (x : Place) (want : Asking) → IsSound s → s.tasks t.process t.number ≡ Some k → is_waits k.life ≡ false → IsForKnown s.workers want
    → IsSound (wants s t k x want)
wants_sound s t k x (asking.Answers v) a e ready known = resumes s t k (Running x (stage.Ready v)) a e ready refl refl
wants_sound s t k x (asking.Prints vs) a e ready known = resumes s t k (Running x (stage.Prints vs)) a e ready refl refl
wants_sound s t k x (asking.Fetches c) a e ready known = asks s t k x c (s.asked k.home + 1) a e ready refl
wants_sound s t k x (asking.Calls p code args) a e ready known =
    let l : Life = Running x (stage.Ready (Ok (Future (record { maker = k.home; number = s.made k.home + 1; owner = p })))) in
    adds (with_life s t k l) k.home p code args (resumes s t k l a e ready refl refl) known

pub turn_sound : (s : State) (t : TaskId) (k : Task) (x : Place) (turn : Turn) → IsSound s → s.tasks t.process t.number ≡ Some k → is_waits k.life ≡ false → IsSound (turned s t k x turn)
turn_sound s t k x (Asks op) a e ready = wants_sound s t k x (asking s.workers (s.noticed k.home) (is_main t) op) a e ready (asks_known s.workers (s.noticed k.home) (is_main t) op)
turn_sound s t k x (Ended v) a e ready =
    let gone = filter (λ u. not (is_task t u)) s.running in
    end_sound (record (with_life s t k Over) { running = gone }) k v k.cell
    (refits (with_life s t k Over) gone s.fetched s.lines s.ending (resumes s t k Over a e ready refl refl))
    (λ r h. a.cell_made t.process t.number k r e h)

refreshed_sound : (s : State) (p : ℕ) → IsSound s → IsSound (refreshed s p)
refreshed_sound s p a = refits s s.running (refreshed s p).fetched s.lines s.ending a

-- ---- a task whose request's process has exited

-- A life that is written over is gone.
life_again : (s : State) (t : TaskId) (k : Task) (l m : Life) → with_life (with_life s t k l) t (record k { life = l }) m ≡ with_life s t k m
life_again s t k l m = λ j. record s { tasks = λ x y. put2-twice s.tasks t.process t.number (Some (record k { life = l })) (Some (record k { life = m })) x y j }

wants_again : (s : State) (t : TaskId) (k : Task) (l : Life) (x : Place) (want : Asking) → wants (with_life s t k l) t (record k { life = l }) x want ≡ wants s t k x want
wants_again s t k l x (asking.Answers v) = life_again s t k l (Running x (stage.Ready v))
wants_again s t k l x (asking.Prints vs) = life_again s t k l (Running x (stage.Prints vs))
wants_again s t k l x (asking.Fetches r) =
    let c = s.asked k.home + 1 in
    ap (λ (z : State). record z { requests = (machine.asks_for s t k x r c).requests; asked = (machine.asks_for s t k x r c).asked }) (life_again s t k l (Running x (stage.Waits c)))
wants_again s t k l x (asking.Calls p code args) =
    let r : RefId = record { maker = k.home; number = s.made k.home + 1; owner = p } in
    let u : TaskId = record { process = k.home; number = s.called k.home + 1 } in
    let z = machine.calls s t k x r u code args in
    ap (λ (y : State). record (machine.with_task y u (record { home = p; cell = Some r; life = Called code args })) { cells = z.cells; made = z.made; called = z.called })
    (life_again s t k l (Running x (stage.Ready (Ok (Future r)))))

turn_again : (s : State) (t : TaskId) (k : Task) (l : Life) (x : Place) (turn : Turn) → turned (with_life s t k l) t (record k { life = l }) x turn ≡ turned s t k x turn
turn_again s t k l x (Asks op) = wants_again s t k l x (asking s.workers (s.noticed k.home) (is_main t) op)
turn_again s t k l x (Ended v) =
    ap (λ (z : State). set_by_end (record z { running = filter (λ u. not (is_task t u)) s.running }) k.home k.cell v) (life_again s t k l Over)

exit_sound : (s : State) (t : TaskId) (k : Task) (place : Place) (c : ℕ) (o : Outcome) (x : Place) (turn : Turn) → IsSound s → s.tasks t.process t.number ≡ Some k
    → k.life ≡ Running place (stage.Waits c) → IsSound (turned (answered s k.home (stage.Waits c)) t k x turn)
exit_sound s t k place c o x turn a e life =
    let asked = a.waits t.process t.number c k place e life in
    let q = asked.0 in
    let l : Life = Running place (stage.Ready o) in
    let u : State = record s { requests = put2 s.requests k.home c (Some (record q { answer = Given })) } in
    let ready = gets s t k place c q l a e life asked.1 refl refl in
    let done = turn_sound (with_life u t k l) t (record k { life = l }) x turn ready (put2-same s.tasks t.process t.number (Some (record k { life = l }))) refl in
    let same : answered s k.home (stage.Waits c) ≡ u = ap (λ (z : Option Request). record s { requests = put2 s.requests k.home c (given z) }) asked.1 in
    subst (λ (z : State). IsSound (turned z t k x turn)) (sym same) (subst IsSound (turn_again u t k l x turn) done)

ran_sound : (s : State) (t : TaskId) (by : ℕ) (k : Task) (place : Place) (st : Stage) (o : Outcome) (x : Place) (turn : Turn) → IsSound s → IsGoing s t by k place st o
    → IsSound (turned (answered s k.home st) t k x turn)
ran_sound s t by k place (stage.Ready v) o x turn a g = turn_sound s t k x turn a g.there (ap is_waits g.life)
ran_sound s t by k place (stage.Waits c) o x turn a g = exit_sound s t k place c o x turn a g.there g.life
ran_sound s t by k place (stage.Prints vs) o x turn a g = let none : None ≡ Some o = g.answer in cc

-- ---- each effect

gives_sound : (s : State) (t : TaskId) (by : ℕ) (k : Task) (place : Place) (c : ℕ) (q : Request) (o : Outcome) → IsSound s → IsWaiting s t by k place c q → IsSound (gives s t k place c q (Some o))
gives_sound s t by k place c q o a w =
    let now = gets s t k place c q (Running place (stage.Ready o)) a w.there w.life w.request refl refl in
    refits (record (with_life s t k (Running place (stage.Ready o))) { requests = put2 s.requests k.home c (Some (record q { answer = Given })) })
    s.running (gives s t k place c q (Some o)).fetched s.lines s.ending now

pub effect_sound : (s : State) (e : Effect) (by : ℕ) → IsSound s → legal_at s e by ≡ true → IsSound (does s e)
effect_sound s (Ran t) by a l =
    let r = going s t by l in
    subst IsSound (sym (going_state s t by r.0 r.1 r.2 r.3 r.4))
    (refreshed_sound _ r.0.home (ran_sound s t by r.0 r.1 r.2 r.3 (advance r.1 r.3).0 (advance r.1 r.3).1 a r.4))
effect_sound s (Started t) by a l =
    let r = startable s t by l in
    let life = Running (called_place r.1 r.2) (stage.Ready (Ok Nothing)) in
    subst IsSound (sym (start_state s t by r.0 r.1 r.2 r.3))
    (refits (with_life s t r.0 life) (s.running ++ t ∷ []) s.fetched s.lines s.ending (resumes s t r.0 life a r.3.there (ap is_waits r.3.life) refl refl))
effect_sound s (Took x) by a l =
    let r = takable s x.process x.number by l in
    subst IsSound (sym (took_state s x.process x.number by r.0 r.1 r.2))
    (answers s x.process x.number r.0 r.1 a r.2.there (λ g. let e : Asked ≡ Given = sym r.2.asked ∙ g in cc) r.2.outcome)
effect_sound s (Returned t) by a l =
    let r = returnable s t by l in
    subst IsSound (sym (returned_state s t by r.0 r.1 r.2 r.3 r.4 r.5 r.6)) (gives_sound s t by r.0 r.1 r.2 r.3 r.4 a r.5)
effect_sound s (Local t) by a l =
    let r = lookable s t by l in
    subst IsSound (sym (looked_state s t by r.0 r.1 r.2 r.3 r.4 r.5 r.7)) (gives_sound s t by r.0 r.1 r.2 r.3 r.4 a r.5)
effect_sound s Printed by a l =
    let r = printable s by l in
    let main : TaskId = record { process = 1; number = 0 } in
    let life = Running r.1 (stage.Ready (Ok Nothing)) in
    subst IsSound (sym (print_state s r.0 r.1 r.2 r.3))
    (refits (with_life s main r.0 life) s.running s.fetched (printed_state s r.0 r.1 r.2).lines s.ending (resumes s main r.0 life a r.3.there (ap is_waits r.3.life) refl refl))

pub marks_keep_soundness : MarksKeepSoundness
marks_keep_soundness s m a l = effect_sound s m.effect m.by a (and_right (is_none s.ending) (legal_at s m.effect m.by) l)

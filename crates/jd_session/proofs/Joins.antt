-- How the node of process 1 and the told outside go on together.
use Rattle.std.proofs.Common.{arith, inl, inr, ◌≡◌, ◌⊎◌, ℕ, ◌+◌, ◌==◌, ◌*◌, ◌<◌, ◌≤◌, List, [], ◌∷◌, ◌++◌, length, take, Option, Some, None, Ok, map, refl, ap, sym, subst, append-nil, append_assoc, ◌∙◌}
use Rattle.std.specs.Prelude.{IfSome, nat_le, ◌&&◌, Bool, true, false}
use Rattle.std.specs.Io.KnownBytes.{Appends, Keeps}
use Rattle.jd_source.specs.Content.{AppendsPart}
use Rattle.jd_value.specs.declared.value.Value.{Value}
use Rattle.jd_value.specs.declared.value.Value.TheVariants.{Nothing}
use Rattle.jd_value.specs.declared.tree.Program.{Program}
use Rattle.jd_task.specs.declared.msg.Msg.{Msg}
use Rattle.jd_model.specs.declared.mark.Effect.{Effect}
use Rattle.jd_model.specs.declared.mark.Effect.TheVariants.{Printed}
use Rattle.jd_model.specs.declared.start.Start.{Start}
use Rattle.jd_model.specs.Table.{put}
use Rattle.jd_model.specs.Asking.{is_known}
use Rattle.jd_model.specs.Machine.{State, replayed, line, text_of_lines, ending_of}
use Rattle.jd_model.specs.Node.{Node, Stepped, ran, delivered, main_line, main_answered, main_node}
use Rattle.jd_model.specs.World.{Told, Moves, marked, first_told}
use Rattle.jd_model.specs.Refines.{Stands}
use Rattle.jd_laws.specs.Laws.{ReplaysPart, IsWaitingHub}
use Rattle.jd_laws.proofs.Keeps.{stands_is_of_net_and_marks}
use Rattle.jd_laws.proofs.Standing.{first_stands, emit_stands, run_stands, arrive_stands, print_stands, moves_keep}
use Rattle.jd_laws.proofs.Numbers.{part_of_run, part_of_arrival, hub_counts_within, mail_is_for_workers}
use Rattle.jd_laws.proofs.Quiet.{ready_runs, quiet_is_stopped}
use Rattle.jd_world.specs.Fabric.{WhereTold, Sends, Tells, SameMarks, MovesMarks, Receives, GoesQuiet, taken_off, max_marks, IsFull}
use Rattle.jd_session.specs.Recorded.{Records, RecordsPart, recorded}
use Rattle.jd_session.specs.Written.{WroteLines, WroteButLast}
use Rattle.jd_session.specs.Headline.{Joined, IsJoined, HasRun, IsCut, IsLimited, IsArriving, IsIdle, IsSpent}
use Rattle.jd_session.specs.Ends.{EndsAs}
use Rattle.jd_session.specs.declared.stop.End.TheVariants.{Ended, Stalled}
use Rattle.jd_model.specs.Outcome.{Outcome}
use Rattle.jd_model.specs.declared.mark.Mark.{Mark}
use Rattle.std.proofs.lemmas.Bool.Decides.{nat_tests}

-- ---- what was written

pub text_snoc : (ls : List (List ℕ)) (l : List ℕ) → text_of_lines (ls ++ l ∷ []) ≡ text_of_lines ls ++ (l ++ 10 ∷ [])
text_snoc [] l = refl
text_snoc (x ∷ xs) l = rw (text_snoc xs l, append_assoc) refl

pub appends_both : (x y z : Option (List ℕ)) (a b : List ℕ) → Appends x y a → Appends y z b → Appends x z (a ++ b)
appends_both None y z a b p q = tt
appends_both (Some x) None z a b p q = absurd p
appends_both (Some x) (Some y) None a b p q = absurd q
appends_both (Some x) (Some y) (Some z) a b p q = rw (q, p, append_assoc) refl

pub wrote_more : (x y z : Option (List ℕ)) (ls : List (List ℕ)) (l : List ℕ) → WroteLines x y ls → Appends y z (l ++ 10 ∷ []) → WroteLines x z (ls ++ l ∷ [])
wrote_more x y z ls l p q = subst (Appends x z) (sym (text_snoc ls l)) (appends_both x y z _ _ p q)

pub wrote_part : (x y z : Option (List ℕ)) (ls : List (List ℕ)) (l : List ℕ) → WroteLines x y ls → AppendsPart y z (l ++ 10 ∷ []) → WroteButLast x z (ls ++ l ∷ [])
wrote_part x y z ls l p q =
    record { before = ls; last = l; all = refl; part = q.0; short = q.1; wrote = appends_both x y z _ _ p q.2 }

-- ---- a message leaves

pub join_sent : (p : Program) (st : Start) (h : Node) (q : ℕ) (m : Msg) (rest : List Msg) (x y : Option Told) (old new : Option (List ℕ))
    → h.outbox q ≡ m ∷ rest → WhereTold (Sends q m) x y → IsJoined p st h x old new → IsJoined p st (record h { outbox = put h.outbox q rest }) y old new
join_sent p st h q m rest None None old new e s j = tt
join_sent p st h q m rest (Some t) None old new e s j = absurd s
join_sent p st h q m rest None (Some u) old new e s j = absurd s
join_sent p st h q m rest (Some t) (Some u) old new e s j =
    let P : Told → Type 0 = Joined p st (record h { outbox = put h.outbox q rest }) old new in
    subst P (sym s) (record { lines = j.lines; stands = emit_stands p st h t j.lines q m rest j.stands e; wrote = j.wrote })

-- ---- a task goes on

pub join_ran : (p : Program) (st : Start) (h : Node) (step : Stepped) (x y : Option Told) (old new : Option (List ℕ))
    → h.main_end ≡ None → ran 1 h h.ready ≡ Some step → WhereTold (Records step.effects) x y → IsJoined p st h x old new → IsJoined p st step.node y old new
join_ran p st h step None None old new l e r j = tt
join_ran p st h step (Some t) None old new l e r j = absurd r
join_ran p st h step None (Some u) old new l e r j = absurd r
join_ran p st h step (Some t) (Some u) old new l e r j =
    let P : Told → Type 0 = Joined p st step.node old new in
    subst P (sym r.after) (record { lines = j.lines; stands = run_stands p st h t j.lines step j.stands l e; wrote = j.wrote })

has_part : (p : Program) (st : Start) (t u : Told) (lines : List (List ℕ)) (es : List Effect) (old new : Option (List ℕ))
    → ReplaysPart p st t lines es → u.marks ≡ t.marks ++ map (marked 1) es → WroteLines old new lines → HasRun p st old new u
has_part p st t u lines es old new r e w =
    record { state = r.0; replay = rw e r.1; wrote = subst (WroteLines old new) (sym r.2) w }

pub part_ran : (p : Program) (st : Start) (h : Node) (step : Stepped) (x y : Option Told) (old new : Option (List ℕ))
    → h.main_end ≡ None → ran 1 h h.ready ≡ Some step → WhereTold (RecordsPart step.effects) x y → IsJoined p st h x old new → IfSome y (HasRun p st old new)
part_ran p st h step None None old new l e r j = tt
part_ran p st h step (Some t) None old new l e r j = absurd r
part_ran p st h step None (Some u) old new l e r j = absurd r
part_ran p st h step (Some t) (Some u) old new l e r j =
    has_part p st t u j.lines r.told old new (part_of_run p st h t j.lines step r.told r.rest j.stands l e r.all) r.marks j.wrote

-- ---- a stop that leaves the record as it is

abbrev stood : (p : Program) (st : Start) (h : Node) (t u : Told) (lines : List (List ℕ)) (old new : Option (List ℕ))
    → Stands p st h t lines → u.marks ≡ t.marks → WroteLines old new lines → HasRun p st old new u
stood p st h t u lines old new s e w = record { state = s.state; replay = rw e s.replay; wrote = subst (WroteLines old new) (sym s.printed) w }

pub same_run : (p : Program) (st : Start) (h : Node) (x y : Option Told) (old new : Option (List ℕ))
    → WhereTold SameMarks x y → IsJoined p st h x old new → IfSome y (HasRun p st old new)
same_run p st h None None old new r j = tt
same_run p st h (Some t) None old new r j = absurd r
same_run p st h None (Some u) old new r j = absurd r
same_run p st h (Some t) (Some u) old new r j = stood p st h t u j.lines old new j.stands r j.wrote

pub joined_run : (p : Program) (st : Start) (h : Node) (x : Option Told) (old new : Option (List ℕ)) → IsJoined p st h x old new → IfSome x (HasRun p st old new)
joined_run p st h None old new j = tt
joined_run p st h (Some t) old new j = stood p st h t t j.lines old new j.stands refl j.wrote

-- ---- a line

pub join_printed : (p : Program) (st : Start) (h : Node) (vs : List Value) (x y : Option Told) (old new new' : Option (List ℕ))
    → h.main_end ≡ None → main_line h ≡ Some vs → WhereTold (Tells (marked 1 Printed)) x y → Appends new new' (line vs ++ 10 ∷ [])
    → IsJoined p st h x old new → IsJoined p st (main_answered h (Ok Nothing)) y old new'
join_printed p st h vs None None old new new' l e r w j = tt
join_printed p st h vs (Some t) None old new new' l e r w j = absurd r
join_printed p st h vs None (Some u) old new new' l e r w j = absurd r
join_printed p st h vs (Some t) (Some u) old new new' l e r w j =
    let P : Told → Type 0 = Joined p st (main_answered h (Ok Nothing)) old new' in
    subst P (sym r.after) (record { lines = j.lines ++ line vs ∷ []; stands = print_stands p st h t j.lines vs j.stands l e; wrote = wrote_more old new new' j.lines (line vs) j.wrote w })

pub cut_printed : (p : Program) (st : Start) (h : Node) (vs : List Value) (x y : Option Told) (old new new' : Option (List ℕ))
    → h.main_end ≡ None → main_line h ≡ Some vs → WhereTold (Tells (marked 1 Printed)) x y → AppendsPart new new' (line vs ++ 10 ∷ [])
    → IsJoined p st h x old new → IfSome y (IsCut p st old new')
cut_printed p st h vs None None old new new' l e r w j = tt
cut_printed p st h vs (Some t) None old new new' l e r w j = absurd r
cut_printed p st h vs None (Some u) old new new' l e r w j = absurd r
cut_printed p st h vs (Some t) (Some u) old new new' l e r w j =
    let s = print_stands p st h t j.lines vs j.stands l e in
    let P : Told → Type 0 = IsCut p st old new' in
    subst P (sym r.after) (record { state = s.state; replay = s.replay; wrote = subst (WroteButLast old new') (sym s.printed) (wrote_part old new new' j.lines (line vs) j.wrote w) })

-- ---- an arrival

pub join_arrived : (p : Program) (st : Start) (h : Node) (q : ℕ) (m : Msg) (x y : Option Told) (old new : Option (List ℕ))
    → h.main_end ≡ None → IfSome x (IsArriving p st h old new q m) → WhereTold (Records (delivered q m h).effects) x y → IsJoined p st (delivered q m h).node y old new
join_arrived p st h q m None None old new l a r = tt
join_arrived p st h q m (Some t) None old new l a r = absurd r
join_arrived p st h q m None (Some u) old new l a r = absurd r
join_arrived p st h q m (Some t) (Some u) old new l a r =
    let j = a.joined in
    let s = arrive_stands p st h a.before j.lines q m a.rest j.stands l a.front in
    record { lines = j.lines; stands = stands_is_of_net_and_marks p st (delivered q m h).node _ u j.lines s (rw (r.after, a.after) refl) (rw (r.after, a.after) refl); wrote = j.wrote }

pub part_arrived : (p : Program) (st : Start) (h : Node) (q : ℕ) (m : Msg) (x y : Option Told) (old new : Option (List ℕ))
    → h.main_end ≡ None → IfSome x (IsArriving p st h old new q m) → WhereTold (RecordsPart (delivered q m h).effects) x y → IfSome y (HasRun p st old new)
part_arrived p st h q m None None old new l a r = tt
part_arrived p st h q m (Some t) None old new l a r = absurd r
part_arrived p st h q m None (Some u) old new l a r = absurd r
part_arrived p st h q m (Some t) (Some u) old new l a r =
    let j = a.joined in
    has_part p st a.before u j.lines r.told old new (part_of_arrival p st h a.before j.lines q m a.rest r.told r.rest j.stands l a.front r.all) (rw (r.marks, a.after) refl) j.wrote

-- The message is on its way in, and nothing else was done.
pub arriving_run : (p : Program) (st : Start) (h : Node) (q : ℕ) (m : Msg) (x : Option Told) (old new : Option (List ℕ))
    → IfSome x (IsArriving p st h old new q m) → IfSome x (HasRun p st old new)
arriving_run p st h q m None old new a = tt
arriving_run p st h q m (Some t) old new a = stood p st h a.before t a.joined.lines old new a.joined.stands (rw a.after refl) a.joined.wrote

-- ---- the beginning

nothing_written : (old : Option (List ℕ)) → WroteLines old old []
nothing_written None = tt
nothing_written (Some xs) = sym (append-nil xs)

pub join_first : (p : Program) (st : Start) (x y : Option Told) (old : Option (List ℕ))
    → WhereTold (λ t u. u ≡ first_told st) x y → IsJoined p st (main_node p st.workers) y old old
join_first p st None None old e = tt
join_first p st (Some t) None old e = absurd e
join_first p st None (Some u) old e = absurd e
join_first p st (Some t) (Some u) old e =
    let P : Told → Type 0 = Joined p st (main_node p st.workers) old old in
    subst P (sym e) (record { lines = []; stands = first_stands p st; wrote = nothing_written old })

-- What was written before and isn't now is what there was.
pub join_kept : (p : Program) (st : Start) (h : Node) (x : Option Told) (old new new' : Option (List ℕ)) → Keeps new new' → IsJoined p st h x old new → IsJoined p st h x old new'
join_kept p st h None old new new' k j = tt
join_kept p st h (Some t) old new new' k j = record { lines = j.lines; stands = j.stands; wrote = same_bytes old new new' (text_of_lines j.lines) k j.wrote }
  where
    same_bytes : (old new new' : Option (List ℕ)) (bs : List ℕ) → Keeps new new' → Appends old new bs → Appends old new' bs
    same_bytes None new new' bs k a = tt
    same_bytes (Some xs) None new' bs k a = absurd a
    same_bytes (Some xs) (Some ys) None bs k a = absurd k
    same_bytes (Some xs) (Some ys) (Some zs) bs k a = k ∙ a

-- ---- receiving

pub join_received : (p : Program) (st : Start) (h : Node) (q : ℕ) (m : Msg) (x y : Option Told) (old new : Option (List ℕ))
    → h.main_end ≡ None → WhereTold (Receives q m) x y → IsJoined p st h x old new → IfSome y (IsArriving p st h old new q m)
join_received p st h q m None None old new l r j = tt
join_received p st h q m (Some t) None old new l r j = absurd r
join_received p st h q m None (Some u) old new l r j = absurd r
join_received p st h q m (Some t) (Some u) old new l r j =
    record { before = r.mid; rest = r.rest; joined = record { lines = j.lines; stands = moves_keep p st h t r.mid j.lines j.stands l r.moves; wrote = j.wrote }; front = r.front; after = r.after }

pub moved_run : (p : Program) (st : Start) (h : Node) (x y : Option Told) (old new : Option (List ℕ))
    → h.main_end ≡ None → WhereTold MovesMarks x y → IsJoined p st h x old new → IfSome y (HasRun p st old new)
moved_run p st h None None old new l r j = tt
moved_run p st h (Some t) None old new l r j = absurd r
moved_run p st h None (Some u) old new l r j = absurd r
moved_run p st h (Some t) (Some u) old new l r j = stood p st h r.to u j.lines old new (moves_keep p st h t r.to j.lines j.stands l r.moves) r.marks j.wrote

-- ---- nothing moves

elsewhere : (workers q : ℕ) → (nat_le 2 q && nat_le q (workers + 1)) ≡ false → (is_known workers q ≡ false) ⊎ (q ≡ 1)
elsewhere workers q e = by_one (q == 1) refl
  where
    by_one : (b : Bool) → (q == 1) ≡ b → (is_known workers q ≡ false) ⊎ (q ≡ 1)
    by_one true o = inr (grind (arith, nat_tests, o))
    by_one false o = inl (grind (arith, nat_tests, o, e))

no_mail : (p : Program) (st : Start) (h : Node) (workers : ℕ) (t : Told) (lines : List (List ℕ)) → st.workers ≡ workers → Stands p st h t lines → IsIdle h workers
    → (q : ℕ) → h.outbox q ≡ []
no_mail p st h workers t lines same s i q = by_test (nat_le 2 q && nat_le q (st.workers + 1)) refl
  where
    by_test : (b : Bool) → (nat_le 2 q && nat_le q (st.workers + 1)) ≡ b → h.outbox q ≡ []
    by_test true e =
        let low : 2 ≤ q = grind (arith, nat_tests, e) in
        let high : q ≤ st.workers + 1 = grind (arith, nat_tests, e) in
        i.outbox q low (subst (λ n. q ≤ n + 1) same high)
    by_test false e = mail_is_for_workers p st h t lines q s i.running (elsewhere st.workers q e)

pub join_quiet : (p : Program) (st : Start) (h : Node) (workers : ℕ) (x y : Option Told) (old new : Option (List ℕ))
    → st.workers ≡ workers → IsIdle h workers → WhereTold GoesQuiet x y → IsJoined p st h x old new → IfSome y (EndsAs p st Stalled old new)
join_quiet p st h workers None None old new same i r j = tt
join_quiet p st h workers (Some t) None old new same i r j = absurd r
join_quiet p st h workers None (Some u) old new same i r j = absurd r
join_quiet p st h workers (Some t) (Some u) old new same i r j =
    let s : Stands p st h u j.lines = moves_keep p st h t u j.lines j.stands i.running r.moves in
    let waits : IsWaitingHub h = record { running = i.running; outbox = no_mail p st h workers u j.lines same s i; ready = ready_runs p st h u j.lines s i.running i.ready; line = i.line } in
    (stood p st h u u j.lines old new s refl j.wrote, s.running i.running, quiet_is_stopped p st h u j.lines s r.quiet waits, r.quiet)

pub join_ended : (p : Program) (st : Start) (h : Node) (o : Outcome) (x : Option Told) (old new : Option (List ℕ)) → h.main_end ≡ Some o → IsJoined p st h x old new
    → IfSome x (EndsAs p st (Ended (ending_of o)) old new)
join_ended p st h o None old new e j = tt
join_ended p st h o (Some t) old new e j = (stood p st h t t j.lines old new j.stands refl j.wrote, j.stands.ended o e)

spent_full : (p : Program) (st : Start) (h : Node) (t : Told) (lines : List (List ℕ)) → Stands p st h t lines → h.main_end ≡ None → IsSpent h → IsFull t
spent_full p st h t lines s l x = inl (by_case x)
  where
    counts : (h.called + h.made ≤ 2 * length t.marks) × (h.asked ≤ length t.marks)
    counts = hub_counts_within p st h t lines s l

    by_case : IsSpent h → max_marks ≤ length t.marks
    by_case (inl e) = let c = counts in omega (arith, e, c)
    by_case (inr (inl e)) = let c = counts in omega (arith, e, c)
    by_case (inr (inr e)) = let c = counts in omega (arith, e, c)

pub join_spent : (p : Program) (st : Start) (h : Node) (x : Option Told) (old new : Option (List ℕ)) → h.main_end ≡ None → IsSpent h → IsJoined p st h x old new
    → IfSome x (IsLimited p st old new)
join_spent p st h None old new l e j = tt
join_spent p st h (Some t) old new l e j = (stood p st h t t j.lines old new j.stands refl j.wrote, spent_full p st h t j.lines j.stands l e)

pub limited : (p : Program) (st : Start) (x : Option Told) (old new : Option (List ℕ)) → IfSome x (HasRun p st old new) → IfSome x IsFull → IfSome x (IsLimited p st old new)
limited p st None old new r f = tt
limited p st (Some t) old new r f = (r, f)

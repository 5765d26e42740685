-- What each way out of a step leaves.
use Rattle.std.proofs.Common.{arith, ◌≡◌, ◌⊎◌, inl, inr, ℕ, ◌+◌, ◌-◌, ◌^◌, ◌==◌, Bool, true, false, ◌≤◌, ◌<◌, List, [], ◌∷◌, ◌++◌, Option, Some, None, Result, Ok, Err, refl, ap, sym, subst, ◌∙◌}
use Rattle.std.specs.Prelude.{IfSome, IsSome, IfErr, MatchOption, ◌||◌, option_map, unwrap_or}
use Rattle.std.specs.Io.KnownBytes.{Appends}
use Rattle.jd_source.specs.Counts.{Rose}
use Rattle.jd_source.specs.Content.{AppendsPart}
use Rattle.jd_value.specs.declared.value.Value.{Value}
use Rattle.jd_value.specs.declared.value.Value.TheVariants.{Nothing}
use Rattle.jd_value.specs.declared.tree.Program.{Program}
use Rattle.jd_task.specs.declared.msg.Msg.{Msg}
use Rattle.jd_model.specs.declared.mark.Effect.{Effect}
use Rattle.jd_model.specs.declared.mark.Effect.TheVariants.{Printed}
use Rattle.jd_model.specs.declared.start.Start.{Start}
use Rattle.jd_model.specs.Table.{put}
use Rattle.jd_model.specs.Machine.{line, is_main, ending_of}
use Rattle.jd_model.specs.Node.{Node, Running, Stepped, ran, delivered, main_line, main_answered}
use Rattle.jd_model.specs.World.{Told, marked}
use Rattle.jd_node.specs.Steps.{Sends as Emits, passes_at, passes, task_passes, row_passes, oldest_passes, run_passes}
use Rattle.jd_task.specs.declared.job.TaskId.{TaskId}
use Rattle.jd_task.specs.declared.job.Turn.{Turn}
use Rattle.jd_task.specs.declared.job.Turn.TheVariants.{Asks, Ended}
use Rattle.jd_task.specs.declared.place.Place.{Place}
use Rattle.jd_task.specs.Running.{advance}
use Rattle.jd_model.specs.declared.asking.Asking.{Asking}
use Rattle.jd_model.specs.declared.asking.Asking.TheVariants as asking
use Rattle.jd_model.specs.declared.life.Stage.{Stage}
use Rattle.jd_model.specs.declared.life.Stage.TheVariants as stage
use Rattle.jd_model.specs.Asking.{asking}
use Rattle.std.proofs.lemmas.Bool.Decides.{nat_tests}
use Rattle.jd_world.specs.Fabric.{WhereTold, Sends, Tells, SameMarks, MovesMarks, Receives, ReceivesA, HasCause, IsFull}
use Rattle.jd_world.specs.declared.fabric.Arrival.{Arrival}
use Rattle.jd_world.specs.declared.fabric.Arrival.TheVariants as arrival
use Rattle.jd_world.specs.declared.fabric.FabricFault.{FabricFault}
use Rattle.jd_world.specs.declared.fabric.FabricFault.TheVariants as fault
use Rattle.jd_session.specs.declared.stop.Stop.{Stop}
use Rattle.jd_session.specs.declared.stop.Stop.TheVariants as stop
use Rattle.jd_session.specs.Recorded.{Records, RecordsPart}
use Rattle.jd_session.specs.Stops.{stopped_by, stopped_by_node, ended_by}
use Rattle.jd_node.specs.declared.fault.NodeFault.{NodeFault}
use Rattle.jd_node.specs.declared.fault.NodeFault.TheVariants as node
use Rattle.jd_model.specs.Outcome.{Outcome}
use Rattle.jd_model.specs.declared.ending.Ending.{Ending}
use Rattle.jd_session.specs.Headline.{IsJoined, HasRun, IsLimited, IsArriving, IsIdle, IsSpent, LeavesAtStop, work_left}
use Rattle.jd_session.proofs.Joins.{join_sent, join_ran, part_ran, same_run, joined_run, join_printed, cut_printed, join_arrived, part_arrived, arriving_run, limited, join_spent, join_quiet, join_received, moved_run, join_ended, join_first, join_kept}
use Rattle.jd_session.specs.Ends.{EndsAs}
use Rattle.jd_session.specs.declared.stop.End.TheVariants as end
use Rattle.jd_session.proofs.Measure.{fell_sent, fell_ran, fell_arrived, fell_told, fell_received}

-- A fabric's fault leaves a run, and a limit of it is one that the world has reached.
pub stopped : (p : Program) (st : Start) (e : FabricFault) (y : Option Told) (old new : Option (List ℕ))
    → IfSome y (HasRun p st old new) → (e ≡ fault.Limit → IfSome y IsFull) → LeavesAtStop p st (stopped_by e) y old new
stopped p st fault.Failed y old new r f = r
stopped p st fault.Limit y old new r f = limited p st y old new r (f refl)
stopped p st fault.OutOfMemory y old new r f = r

full_at : {T : Type 0} (a b c d : ℕ) (y : Option Told) (e : FabricFault) → HasCause {T = T} a b c d y (Err e) → e ≡ fault.Limit → IfSome y IsFull
full_at a b c d y e cause is = (cause.limit is).1

-- ---- a message leaves

pub kept_sent : (n k : Node) (q : ℕ) (m : Msg) (x y : Option Told) → Emits n q m k → WhereTold (Sends q m) x y
    → (p : Program) (st : Start) (old new : Option (List ℕ)) → IsJoined p st n x old new → IsJoined p st k y old new
kept_sent n k q m x y e s p st old new j =
    let P : Node → Type 0 = λ h. IsJoined p st h y old new in subst P (sym e.node) (join_sent p st n q m e.rest x y old new e.oldest s j)

pub kept_unsent : {U : Type 0} (n : Node) (x y : Option Told) (a b c d : ℕ) (e : FabricFault) → WhereTold SameMarks x y → HasCause {T = U} a b c d y (Err e)
    → (p : Program) (st : Start) (old new : Option (List ℕ)) → IsJoined p st n x old new → LeavesAtStop p st (stopped_by e) y old new
kept_unsent {U = U} n x y a b c d e s cause p st old new j = stopped p st e y old new (same_run p st n x y old new s j) (full_at {T = U} a b c d y e cause)

pub falls_sent : (n k : Node) (workers q : ℕ) (m : Msg) (x y : Option Told) → Emits n q m k → (2 ≤ q) × (q ≤ workers + 1) → WhereTold (Sends q m) x y → IsSome x
    → work_left k workers y < work_left n workers x
falls_sent n k workers q m x y e w s i =
    let P : Node → Type 0 = λ h. work_left h workers y < work_left n workers x in subst P (sym e.node) (fell_sent n workers q m e.rest x y e.oldest w.0 w.1 s i)

-- ---- a task goes on

pub kept_ran : (n : Node) (s : Stepped) (x y : Option Told) → n.main_end ≡ None → ran 1 n n.ready ≡ Some s → WhereTold (Records s.effects) x y
    → (p : Program) (st : Start) (old new : Option (List ℕ)) → IsJoined p st n x old new → IsJoined p st s.node y old new
kept_ran n s x y l e r p st old new j = join_ran p st n s x y old new l e r j

pub kept_part : {U : Type 0} (n : Node) (s : Stepped) (x y : Option Told) (a b c d : ℕ) (e : FabricFault) → n.main_end ≡ None → ran 1 n n.ready ≡ Some s
    → WhereTold (RecordsPart s.effects) x y → HasCause {T = U} a b c d y (Err e)
    → (p : Program) (st : Start) (old new : Option (List ℕ)) → IsJoined p st n x old new → LeavesAtStop p st (stopped_by e) y old new
kept_part {U = U} n s x y a b c d e l is r cause p st old new j =
    stopped p st e y old new (part_ran p st n s x y old new l is r j) (full_at {T = U} a b c d y e cause)

-- ---- a line

pub kept_printed : (n k : Node) (vs : List Value) (x y : Option Told) (new new' : Option (List ℕ)) → n.main_end ≡ None → main_line n ≡ Some vs
    → WhereTold (Tells (marked 1 Printed)) x y → Appends new new' (line vs ++ 10 ∷ []) → k ≡ main_answered n (Ok Nothing)
    → (p : Program) (st : Start) (old : Option (List ℕ)) → IsJoined p st n x old new → IsJoined p st k y old new'
kept_printed n k vs x y new new' l e r w is p st old j =
    let P : Node → Type 0 = λ h. IsJoined p st h y old new' in subst P (sym is) (join_printed p st n vs x y old new new' l e r w j)

pub kept_cut : (n : Node) (vs : List Value) (x y : Option Told) (new new' : Option (List ℕ)) → n.main_end ≡ None → main_line n ≡ Some vs
    → WhereTold (Tells (marked 1 Printed)) x y → AppendsPart new new' (line vs ++ 10 ∷ [])
    → (p : Program) (st : Start) (old : Option (List ℕ)) → IsJoined p st n x old new → LeavesAtStop p st stop.Write y old new'
kept_cut n vs x y new new' l e r w p st old j = cut_printed p st n vs x y old new new' l e r w j

-- The line was written, and main couldn't be answered.
pub kept_written : (n : Node) (vs : List Value) (x y : Option Told) (new new' : Option (List ℕ)) → n.main_end ≡ None → main_line n ≡ Some vs
    → WhereTold (Tells (marked 1 Printed)) x y → Appends new new' (line vs ++ 10 ∷ [])
    → (p : Program) (st : Start) (old : Option (List ℕ)) → IsJoined p st n x old new → IfSome y (HasRun p st old new')
kept_written n vs x y new new' l e r w p st old j =
    joined_run p st (main_answered n (Ok Nothing)) y old new' (join_printed p st n vs x y old new new' l e r w j)

-- ---- an arrival

pub kept_arrived : (n : Node) (s : Stepped) (es : List Effect) (q : ℕ) (m : Msg) (x y : Option Told) → n.main_end ≡ None → s ≡ delivered q m n → es ≡ s.effects → WhereTold (Records es) x y
    → (p : Program) (st : Start) (old new : Option (List ℕ)) → IfSome x (IsArriving p st n old new q m) → IsJoined p st s.node y old new
kept_arrived n s es q m x y l is same r p st old new a =
    let P : Stepped → Type 0 = λ u. IsJoined p st u.node y old new in
    subst P (sym is) (join_arrived p st n q m x y old new l a (subst (λ fs. WhereTold (Records fs) x y) (same ∙ ap (λ (u : Stepped). u.effects) is) r))

pub falls_arrived : (n : Node) (s : Stepped) (es : List Effect) (workers q : ℕ) (m : Msg) (x y : Option Told) → s ≡ delivered q m n → es ≡ s.effects → WhereTold (Records es) x y → IsSome x
    → work_left s.node workers y ≤ work_left n workers x
falls_arrived n s es workers q m x y is same r i =
    let P : Stepped → Type 0 = λ u. work_left u.node workers y ≤ work_left n workers x in
    subst P (sym is) (fell_arrived n workers q m x y (subst (λ fs. WhereTold (Records fs) x y) (same ∙ ap (λ (u : Stepped). u.effects) is) r) i)

pub kept_arriving : {U : Type 0} (n : Node) (s : Stepped) (es : List Effect) (q : ℕ) (m : Msg) (x y : Option Told) (a b c d : ℕ) (e : FabricFault) → n.main_end ≡ None
    → s ≡ delivered q m n → es ≡ s.effects → WhereTold (RecordsPart es) x y → HasCause {T = U} a b c d y (Err e)
    → (p : Program) (st : Start) (old new : Option (List ℕ)) → IfSome x (IsArriving p st n old new q m) → LeavesAtStop p st (stopped_by e) y old new
kept_arriving {U = U} n s es q m x y a b c d e l is same r cause p st old new i =
    stopped p st e y old new (part_arrived p st n q m x y old new l i (subst (λ fs. WhereTold (RecordsPart fs) x y) (same ∙ ap (λ (u : Stepped). u.effects) is) r)) (full_at {T = U} a b c d y e cause)

-- ---- process 1 by its number

-- Process 1's steps, where its number is said by another name.
pub kept_by : (id : ℕ) (n : Node) (s : Stepped) (es : List Effect) (x y : Option Told) → id ≡ 1 → n.main_end ≡ None → ran id n n.ready ≡ Some s → es ≡ s.effects → WhereTold (Records es) x y
    → (p : Program) (st : Start) (old new : Option (List ℕ)) → IsJoined p st n x old new → IsJoined p st s.node y old new
kept_by id n s es x y one l e same r = kept_ran n s x y l (subst (λ i. ran i n n.ready ≡ Some s) one e) (subst (λ fs. WhereTold (Records fs) x y) same r)

pub part_by : {U : Type 0} (id : ℕ) (n : Node) (s : Stepped) (es : List Effect) (x y : Option Told) (a b c d : ℕ) (e : FabricFault) → id ≡ 1 → n.main_end ≡ None → ran id n n.ready ≡ Some s
    → es ≡ s.effects → WhereTold (RecordsPart es) x y → HasCause {T = U} a b c d y (Err e)
    → (p : Program) (st : Start) (old new : Option (List ℕ)) → IsJoined p st n x old new → LeavesAtStop p st (stopped_by e) y old new
part_by {U = U} id n s es x y a b c d e one l is same r =
    kept_part {U = U} n s x y a b c d e l (subst (λ i. ran i n n.ready ≡ Some s) one is) (subst (λ fs. WhereTold (RecordsPart fs) x y) same r)

pub falls_by : (id : ℕ) (n : Node) (workers : ℕ) (s : Stepped) (es : List Effect) (x y : Option Told) → id ≡ 1 → ran id n n.ready ≡ Some s → es ≡ s.effects → WhereTold (Records es) x y → IsSome x
    → work_left s.node workers y < work_left n workers x
falls_by id n workers s es x y one e same r = fell_ran n workers s x y (subst (λ i. ran i n n.ready ≡ Some s) one e) (subst (λ fs. WhereTold (Records fs) x y) same r)

pub none_by : (id : ℕ) (n : Node) → id ≡ 1 → ran id n n.ready ≡ None → ran 1 n n.ready ≡ None
none_by id n one e = subst (λ i. ran i n n.ready ≡ None) one e

-- ---- numbers at their end

asking_spent : (n : Node) (x : Asking) → passes_at n x ≡ true → IsSpent n
asking_spent n (asking.Answers o) h = absurd cc
asking_spent n (asking.Prints vs) h = absurd cc
asking_spent n (asking.Fetches r) h = inr (inr (grind (arith, nat_tests, h)))
asking_spent n (asking.Calls p code args) h = by_first (n.called == 2 ^ 64 - 1) refl h
  where
    by_first : (b : Bool) → (n.called == 2 ^ 64 - 1) ≡ b → (n.called == 2 ^ 64 - 1 || n.made == 2 ^ 64 - 1) ≡ true → IsSpent n
    by_first true e h = inl (grind (arith, nat_tests, e))
    by_first false e h = inr (inl (grind (arith, nat_tests, e, h)))

turn_spent : (n : Node) (t : TaskId) (turn : Turn) → passes n t turn ≡ true → IsSpent n
turn_spent n t (Ended o) h = absurd cc
turn_spent n t (Asks op) h = asking_spent n (asking n.workers n.noticed (is_main t) op) h

task_spent : (n : Node) (t : TaskId) (place : Place) (st : Stage) → task_passes n t place st ≡ true → IsSpent n
task_spent n t place (stage.Ready o) h = turn_spent n t (advance place o).1 h
task_spent n t place (stage.Waits a) h = absurd cc
task_spent n t place (stage.Prints vs) h = absurd cc

row_spent : (n : Node) (t : TaskId) (k : Option Running) → row_passes n t k ≡ true → IsSpent n
row_spent n t None h = absurd cc
row_spent n t (Some k) h = task_spent n t k.place k.stage h

oldest_spent : (n : Node) (ts : List TaskId) → oldest_passes n ts ≡ true → IsSpent n
oldest_spent n [] h = absurd cc
oldest_spent n (t ∷ rest) h = row_spent n t (n.tasks t.process t.number) h

pub run_spent : (n : Node) → run_passes n ≡ true → IsSpent n
run_spent n h = oldest_spent n n.ready h

pub kept_spent : (n : Node) (x : Option Told) → n.main_end ≡ None → run_passes n ≡ true
    → (p : Program) (st : Start) (old new : Option (List ℕ)) → IsJoined p st n x old new → LeavesAtStop p st stop.Limit x old new
kept_spent n x l h p st old new j = join_spent p st n x old new l (run_spent n h) j

pub kept_still : (n : Node) (x : Option Told) (p : Program) (st : Start) (old new : Option (List ℕ)) → IsJoined p st n x old new → LeavesAtStop p st stop.OutOfMemory x old new
kept_still n x p st old new j = joined_run p st n x old new j

pub kept_waiting : (n : Node) (q : ℕ) (m : Msg) (x : Option Told) (p : Program) (st : Start) (old new : Option (List ℕ)) → IfSome x (IsArriving p st n old new q m)
    → LeavesAtStop p st stop.OutOfMemory x old new
kept_waiting n q m x p st old new a = arriving_run p st n q m x old new a

-- ---- arrivals

pub ends_at_stop : (p : Program) (st : Start) (s : Stop) (y : Option Told) (old new : Option (List ℕ)) → LeavesAtStop p st s y old new → IfSome y (EndsAs p st (ended_by s) old new)
ends_at_stop p st stop.Write y old new l = l
ends_at_stop p st stop.Fabric y old new l = l
ends_at_stop p st stop.Limit y old new l = l
ends_at_stop p st stop.OutOfMemory y old new l = l

pub kept_quiet : (n : Node) (workers : ℕ) (a : Arrival) (x y : Option Told) → IsIdle n workers → a ≡ arrival.Quiet → WhereTold (ReceivesA a) x y
    → (p : Program) (st : Start) (old new : Option (List ℕ)) → st.workers ≡ workers → IsJoined p st n x old new → IfSome y (EndsAs p st end.Stalled old new)
kept_quiet n workers a x y i is r p st old new same j =
    join_quiet p st n workers x y old new same i (subst (λ b. WhereTold (ReceivesA b) x y) is r) j

pub kept_message : (n k : Node) (a : Arrival) (q : ℕ) (m : Msg) (x y z : Option Told) → n.main_end ≡ None → a ≡ arrival.Message q m → WhereTold (ReceivesA a) x y
    → ((p : Program) (st : Start) (old new : Option (List ℕ)) → IfSome y (IsArriving p st n old new q m) → IsJoined p st k z old new)
    → (p : Program) (st : Start) (old new : Option (List ℕ)) → IsJoined p st n x old new → IsJoined p st k z old new
kept_message n k a q m x y z l is r f p st old new j =
    f p st old new (join_received p st n q m x y old new l (subst (λ b. WhereTold (ReceivesA b) x y) is r) j)

pub ends_message : (n : Node) (s : Stop) (a : Arrival) (q : ℕ) (m : Msg) (x y z : Option Told) → n.main_end ≡ None → a ≡ arrival.Message q m → WhereTold (ReceivesA a) x y
    → ((p : Program) (st : Start) (old new : Option (List ℕ)) → IfSome y (IsArriving p st n old new q m) → LeavesAtStop p st s z old new)
    → (p : Program) (st : Start) (old new : Option (List ℕ)) → IsJoined p st n x old new → IfSome z (EndsAs p st (ended_by s) old new)
ends_message n s a q m x y z l is r f p st old new j =
    ends_at_stop p st s z old new (f p st old new (join_received p st n q m x y old new l (subst (λ b. WhereTold (ReceivesA b) x y) is r) j))

still_told : (q : ℕ) (m : Msg) (x y : Option Told) → WhereTold (Receives q m) x y → IsSome x → IsSome y
still_told q m None y r i = absurd cc
still_told q m (Some t) None r i = absurd r
still_told q m (Some t) (Some u) r i = refl

pub falls_message : (n : Node) (k : ℕ) (workers : ℕ) (a : Arrival) (q : ℕ) (m : Msg) (x y : Option Told) → a ≡ arrival.Message q m → WhereTold (ReceivesA a) x y
    → (IsSome y → k ≤ work_left n workers y) → IsSome x → k < work_left n workers x
falls_message n k workers a q m x y is r f i =
    let s = subst (λ b. WhereTold (ReceivesA b) x y) is r in
    let one = f (still_told q m x y s i) in
    let two = fell_received n workers q m x y s i in
    omega (arith, one, two)

pub ends_fault : {U : Type 0} (n : Node) (x y : Option Told) (a b c d : ℕ) (e : FabricFault) → n.main_end ≡ None → WhereTold MovesMarks x y → HasCause {T = U} a b c d y (Err e)
    → (p : Program) (st : Start) (old new : Option (List ℕ)) → IsJoined p st n x old new → IfSome y (EndsAs p st (ended_by (stopped_by e)) old new)
ends_fault {U = U} n x y a b c d e l r cause p st old new j =
    ends_at_stop p st (stopped_by e) y old new (stopped p st e y old new (moved_run p st n x y old new l r j) (full_at {T = U} a b c d y e cause))

-- ---- a run

-- What a run comes to that was begun.
pub begun_run : (b : Option Start) (st : Start) (P : Type 0) (Q : Start → Type 0) → b ≡ Some st → Q st → MatchOption b P Q
begun_run b st P Q e q = subst (λ o. MatchOption o P Q) (sym e) q

-- ---- a line as it was written

pub line_done : (n k : Node) (vs : List Value) (piece : List ℕ) (x y : Option Told) (new new' : Option (List ℕ)) → n.main_end ≡ None → main_line n ≡ Some vs
    → WhereTold (Tells (marked 1 Printed)) x y → piece ≡ line vs ++ 10 ∷ [] → Appends new new' piece → k ≡ main_answered n (Ok Nothing)
    → (p : Program) (st : Start) (old : Option (List ℕ)) → IsJoined p st n x old new → IsJoined p st k y old new'
line_done n k vs piece x y new new' l e r same w = kept_printed n k vs x y new new' l e r (subst (Appends new new') same w)

pub line_cut : (n : Node) (vs : List Value) (piece : List ℕ) (x y : Option Told) (new new' : Option (List ℕ)) → n.main_end ≡ None → main_line n ≡ Some vs
    → WhereTold (Tells (marked 1 Printed)) x y → piece ≡ line vs ++ 10 ∷ [] → AppendsPart new new' piece
    → (p : Program) (st : Start) (old : Option (List ℕ)) → IsJoined p st n x old new → LeavesAtStop p st stop.Write y old new'
line_cut n vs piece x y new new' l e r same w = kept_cut n vs x y new new' l e r (subst (AppendsPart new new') same w)

pub line_written : (n : Node) (vs : List Value) (piece : List ℕ) (x y : Option Told) (new new' : Option (List ℕ)) (f : NodeFault) → n.main_end ≡ None → main_line n ≡ Some vs
    → WhereTold (Tells (marked 1 Printed)) x y → piece ≡ line vs ++ 10 ∷ [] → Appends new new' piece → f ≡ node.OutOfMemory
    → (p : Program) (st : Start) (old : Option (List ℕ)) → IsJoined p st n x old new → LeavesAtStop p st (stopped_by_node f) y old new'
line_written n vs piece x y new new' f l e r same w is p st old j =
    subst (λ g. LeavesAtStop p st (stopped_by_node g) y old new') (sym is) (kept_written n vs x y new new' l e r (subst (Appends new new') same w) p st old j)

-- A line that wants memory that isn't there.
pub unmade : (n : Node) (x : Option Told) (s : Stop) → s ≡ stop.OutOfMemory → (p : Program) (st : Start) (old new : Option (List ℕ)) → IsJoined p st n x old new → LeavesAtStop p st s x old new
unmade n x s is p st old new j = subst (λ t. LeavesAtStop p st t x old new) (sym is) (joined_run p st n x old new j)

-- Main has ended.
pub main_ended : (n : Node) (x : Option Told) (e : Ending) → (o : Outcome) × (n.main_end ≡ Some o) × (e ≡ ending_of o)
    → (p : Program) (st : Start) (old new : Option (List ℕ)) → IsJoined p st n x old new → IfSome x (EndsAs p st (end.Ended e) old new)
main_ended n x e h p st old new j = subst (λ d. IfSome x (EndsAs p st (end.Ended d) old new)) (sym h.2) (join_ended p st n h.0 x old new h.1 j)

-- how main ended, where it has
pub has_ended : (e : Ending) (o : Option Outcome) → Some e ≡ option_map ending_of o → (x : Outcome) × (o ≡ Some x) × (e ≡ ending_of x)
has_ended e None h = absurd (grind (arith, h))
has_ended e (Some x) h = (x, refl, ap (λ o. unwrap_or o e) h)

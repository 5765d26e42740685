-- A run can do less and less.
use Rattle.std.proofs.Common.{arith, ◌≡◌, ℕ, ◌+◌, ◌*◌, ◌-◌, ◌≤◌, ◌<◌, List, [], ◌∷◌, ◌++◌, length, length-append, Bool, true, false, Option, Some, None, refl, ap, sym, subst, ◌∙◌, if◌then◌else◌}
use Rattle.std.specs.Prelude.{IsSome}
use Rattle.jd_task.specs.declared.msg.Msg.{Msg}
use Rattle.jd_model.specs.declared.mark.Effect.{Effect}
use Rattle.jd_model.specs.declared.event.Event.{Event}
use Rattle.jd_model.specs.Table.{put}
use Rattle.jd_model.specs.Node.{Node, Stepped, ran, delivered}
use Rattle.jd_model.specs.World.{Told, Moved, Moves, Leads, added, happens, moves, is_outside, marked}
use Rattle.jd_world.specs.Fabric.{WhereTold, Sends, Tells, Receives}
use Rattle.jd_session.specs.Headline.{mail, left_in, work_left}
use Rattle.jd_session.specs.Recorded.{Records}
use Rattle.jd_session.proofs.Mail.{mail_taken, RanCosts, ran_costs, delivered_costs}

pub fell_sent : (h : Node) (workers q : ℕ) (m : Msg) (rest : List Msg) (x y : Option Told) → h.outbox q ≡ m ∷ rest → 2 ≤ q → q ≤ workers + 1 → WhereTold (Sends q m) x y → IsSome x
    → work_left (record h { outbox = put h.outbox q rest }) workers y < work_left h workers x
fell_sent h workers q m rest None y e a b s t = absurd cc
fell_sent h workers q m rest (Some t) None e a b s i = absurd s
fell_sent h workers q m rest (Some t) (Some u) e a b s i =
    let less = mail_taken h.outbox q m rest workers e a b in
    let same : left_in u ≡ left_in t = ap left_in s in
    omega (arith, less, same)

pub fell_ran : (h : Node) (workers : ℕ) (step : Stepped) (x y : Option Told) → ran 1 h h.ready ≡ Some step → WhereTold (Records step.effects) x y → IsSome x
    → work_left step.node workers y < work_left h workers x
fell_ran h workers step None y e r t = absurd cc
fell_ran h workers step (Some t) None e r i = absurd r
fell_ran h workers step (Some t) (Some u) e r i =
    let c = ran_costs 1 h h.ready step e in
    let costs = c.costs workers in let some = c.some in let left = r.left in
    omega (arith, costs, some, left)

pub fell_told : (h k : Node) (workers : ℕ) (e : Effect) (x y : Option Told) → k.outbox ≡ h.outbox → WhereTold (Tells (marked 1 e)) x y → IsSome x
    → work_left k workers y < work_left h workers x
fell_told h k workers e None y same r t = absurd cc
fell_told h k workers e (Some t) None same r i = absurd r
fell_told h k workers e (Some t) (Some u) same r i =
    let marks : length u.marks ≡ length t.marks + 1 = ap {A = Told} (λ x. length x.marks) r.after ∙ length-append t.marks (marked 1 e ∷ []) in
    let events : u.outside.events ≡ t.outside.events = ap {A = Told} (λ x. x.outside.events) r.after in
    let room = r.room in
    let boxes = ap (λ (f : ℕ → List Msg). mail f workers) same in
    omega (arith, marks, events, room, boxes)

pub fell_arrived : (h : Node) (workers p : ℕ) (m : Msg) (x y : Option Told) → WhereTold (Records (delivered p m h).effects) x y → IsSome x
    → work_left (delivered p m h).node workers y ≤ work_left h workers x
fell_arrived h workers p m None y r t = absurd cc
fell_arrived h workers p m (Some t) None r i = absurd r
fell_arrived h workers p m (Some t) (Some u) r i =
    let costs = delivered_costs p m h workers in let left = r.left in omega (arith, costs, left)

-- ---- events

later : (t : Told) (m : Option Moved) (u : Told) → added t m ≡ Some u → left_in u ≤ left_in t
later t None u e = absurd cc
later t (Some m) u e =
    let more = length-append t.marks m.marks in
    subst (λ (x : Told). left_in x ≤ left_in t) (some_is _ _ e) (omega (arith, more))
  where
    some_is : (a b : Told) → Some a ≡ Some b → a ≡ b
    some_is a b h = cc

happened_later : (t : Told) (e : Event) (u : Told) → happens t e ≡ Some u → left_in u ≤ left_in t
unfolding happens
happened_later t e u h = by_test (is_outside e) h
  where
    by_test : (b : Bool) → (if b then added t (moves t.outside.net e) else None) ≡ Some u → left_in u ≤ left_in t
    by_test true h = later t (moves t.outside.net e) u h
    by_test false h = absurd cc

led_later : (es : List Event) (t u : Told) → Leads es t u → left_in u ≤ left_in t
led_later [] t u l = let same : left_in u ≡ left_in t = ap left_in l in omega (arith, same)
led_later (e ∷ es) t u l = let one = happened_later t e l.0 l.1 in let rest = led_later es l.0 u l.2 in omega (arith, one, rest)

pub fell_received : (h : Node) (workers p : ℕ) (m : Msg) (x y : Option Told) → WhereTold (Receives p m) x y → IsSome x → work_left h workers y < work_left h workers x
fell_received h workers p m None y r t = absurd cc
fell_received h workers p m (Some t) None r i = absurd r
fell_received h workers p m (Some t) (Some u) r i =
    let moved = led_later r.moves.events t r.mid r.moves.leads in
    let room = r.room in
    let marks : length u.marks ≡ length r.mid.marks = ap {A = Told} (λ x. length x.marks) r.after in
    let events : u.outside.events ≡ r.mid.outside.events + 1 = ap {A = Told} (λ x. x.outside.events) r.after in
    omega (arith, moved, room, marks, events)

-- What each step does to the messages on their ways and to the requests that wait, and what a message tells of the machine.
use Rattle.std.proofs.Common.{◌≡◌, ℕ, ◌<◌, ◌==◌, List, [], ◌∷◌, Option, Some, None, Bool, true, false, ◌&&◌, refl, arith, ap, sym, ◌∙◌, if◌then◌else◌}
use Rattle.std.proofs.lemmas.Bool.Decides.{nat_tests}
use Rattle.jd_value.specs.declared.reference.RefId.{RefId}
use Rattle.jd_value.specs.declared.value.Value.{Value}
use Rattle.jd_task.specs.declared.job.TaskId.{TaskId}
use Rattle.jd_task.specs.declared.closure.Closure.{Closure}
use Rattle.jd_task.specs.declared.msg.Msg.{Msg}
use Rattle.jd_task.specs.declared.msg.Msg.TheVariants.{Call, Reply}
use Rattle.jd_model.specs.Outcome.{Outcome}
use Rattle.jd_model.specs.declared.life.Life.{Life}
use Rattle.jd_model.specs.declared.life.Life.TheVariants.{Called, Running, Over}
use Rattle.jd_model.specs.declared.life.Answer.{Answer}
use Rattle.jd_model.specs.declared.life.Answer.TheVariants.{Asked, Kept, Given}
use Rattle.jd_model.specs.Table.{count, only}
use Rattle.jd_laws.proofs.Basics.{and_left, and_right, is_false, same_test, test_self, one_is}
use Rattle.jd_model.specs.Machine.{Task, Request, is_asked}
use Rattle.jd_model.specs.Node.{Waiting}
use Rattle.jd_model.specs.Refines.{is_call, call_message, call_messages, is_cell, is_waiting, is_pending, is_reply, reply_message, reply_messages}
use Rattle.jd_laws.proofs.Fits.{WaysFit}
use Rattle.jd_laws.proofs.Effects.{asked_is}

-- ---- what a message tells

-- The task is called, and this message calls it.
pub record CallLicence (tasks : ℕ → ℕ → Option Task) (p q : ℕ) (r : RefId) (t : TaskId) (code : Closure) (args : List Value) (rest : List Msg) : Type 0 where
  pub task : Task
  pub there : tasks t.process t.number ≡ Some task
  pub caller : t.process ≡ p
  pub home : task.home ≡ q
  pub cell : task.cell ≡ Some r
  pub life : task.life ≡ Called code args
  pub once : only (is_call t.number) rest ≡ []

pub call_licence : (on_way : ℕ → ℕ → List Msg) (waiting : ℕ → List Waiting) (tasks : ℕ → ℕ → Option Task) (requests : ℕ → ℕ → Option Request)
    (p q : ℕ) (r : RefId) (t : TaskId) (code : Closure) (args : List Value) (rest : List Msg)
    → WaysFit on_way waiting tasks requests → on_way p q ≡ Call r t code args ∷ rest → CallLicence tasks p q r t code args rest
call_licence on_way waiting tasks requests p q r t code args rest a e =
    find (tasks p t.number) refl (sym here ∙ sym (ap (only (is_call t.number)) e) ∙ a.call p q t.number)
  where
    here : only (is_call t.number) (Call r t code args ∷ rest) ≡ Call r t code args ∷ only (is_call t.number) rest
    here = rw (test_self t.number) refl

    of_message : (x : Task) (c : Option RefId) (l : Life) → tasks p t.number ≡ Some x → x.home ≡ q → x.cell ≡ c → x.life ≡ l
        → Call r t code args ∷ only (is_call t.number) rest ≡ call_message p t.number c l → CallLicence tasks p q r t code args rest
    of_message x None l there home cell life h = cc
    of_message x (Some c) (Running place st) there home cell life h = cc
    of_message x (Some c) Over there home cell life h = cc
    of_message x (Some c) (Called code2 args2) there home cell life h =
        let er : r ≡ c = cc in
        let et : t ≡ record { process = p; number = t.number } = cc in
        let ec : code ≡ code2 = cc in
        let ea : args ≡ args2 = cc in
        let eo : only (is_call t.number) rest ≡ [] = cc in
        let ep : t.process ≡ p = ap (λ (u : TaskId). u.process) et in
        record {
          task = x;
          there = ap (λ z. tasks z t.number) ep ∙ there;
          caller = ep;
          home = home;
          cell = cell ∙ ap Some (sym er);
          life = life ∙ (λ j. Called (sym ec j) (sym ea j));
          once = eo;
        }

    find : (x : Option Task) → tasks p t.number ≡ x → Call r t code args ∷ only (is_call t.number) rest ≡ call_messages p q t.number x → CallLicence tasks p q r t code args rest
    find None there h = cc
    find (Some x) there h = by_home (x.home == q) refl h
      where
        by_home : (b : Bool) → (x.home == q) ≡ b → Call r t code args ∷ only (is_call t.number) rest ≡ (if b then call_message p t.number x.cell x.life else [])
            → CallLicence tasks p q r t code args rest
        by_home true e h = of_message x x.cell x.life there (same_test x.home q e) refl refl h
        by_home false e h = cc

-- The request isn't answered, and is for that cell.
pub record AskLicence (requests : ℕ → ℕ → Option Request) (p c : ℕ) (r : RefId) : Type 0 where
  pub request : Request
  pub there : requests p c ≡ Some request
  pub asked : request.answer ≡ Asked
  pub cell : request.cell ≡ r

pub cell_is : (x r : RefId) → is_cell r.maker r.number r.owner x ≡ true → x ≡ r
cell_is x r h =
    let h2 : (x.number == r.number && x.owner == r.owner) ≡ true = and_right (x.maker == r.maker) _ h in
    let em = same_test x.maker r.maker (and_left _ _ h) in
    let en = same_test x.number r.number (and_left _ _ h2) in
    let eo = same_test x.owner r.owner (and_right (x.number == r.number) _ h2) in
    λ j. record { maker = em j; number = en j; owner = eo j }

pub cell_self : (r : RefId) → is_cell r.maker r.number r.owner r ≡ true
cell_self r = rw (test_self r.maker, test_self r.number, test_self r.owner) refl

pub pending_licence : (requests : ℕ → ℕ → Option Request) (p c : ℕ) (r : RefId) → is_pending r.maker r.number r.owner (requests p c) ≡ true → AskLicence requests p c r
pending_licence requests p c r h = find (requests p c) refl h
  where
    find : (x : Option Request) → requests p c ≡ x → is_pending r.maker r.number r.owner x ≡ true → AskLicence requests p c r
    find None e h = cc
    find (Some q) e h = record { request = q; there = e; asked = asked_is q.answer (and_left _ _ h); cell = cell_is q.cell r (and_right (is_asked q.answer) _ h) }

-- A request that waits at q is for a cell of q.
pub waiting_licence : (on_way : ℕ → ℕ → List Msg) (waiting : ℕ → List Waiting) (tasks : ℕ → ℕ → Option Task) (requests : ℕ → ℕ → Option Request)
    (p q c : ℕ) (r : RefId) → WaysFit on_way waiting tasks requests → 0 < count (is_waiting p c r.maker r.number r.owner) (waiting q)
    → (owner : r.owner ≡ q) × AskLicence requests p c r
waiting_licence on_way waiting tasks requests p q c r a some =
    let home = by_owner (q == r.owner) refl in
    (home, pending_licence requests p c r (one_is _ _ (let at_owner : waiting q ≡ waiting r.owner = ap waiting (sym home) in let n = ap (count (is_waiting p c r.maker r.number r.owner)) at_owner in omega (arith, n)) (a.fetch p c r.maker r.number r.owner)))
  where
    by_owner : (b : Bool) → (q == r.owner) ≡ b → r.owner ≡ q
    by_owner true e = sym (same_test q r.owner e)
    by_owner false e = let none = a.fetch_owner p q c r.maker r.number r.owner (λ same. grind (arith, nat_tests, e, same)) in absurd (omega arith)

pub reply_of : (requests : ℕ → ℕ → Option Request) (p q c : ℕ) (o : Outcome) (rest : List Msg) → Reply c o ∷ rest ≡ reply_messages q c (requests p c)
    → (x : Request) × (requests p c ≡ Some x) × (x.cell.owner ≡ q) × (x.answer ≡ Kept o) × (rest ≡ [])
reply_of requests p q c o rest h = find (requests p c) refl h
  where
    of_answer : (x : Request) (y : Answer) → requests p c ≡ Some x → x.cell.owner ≡ q → x.answer ≡ y → Reply c o ∷ rest ≡ reply_message c y
        → (x : Request) × (requests p c ≡ Some x) × (x.cell.owner ≡ q) × (x.answer ≡ Kept o) × (rest ≡ [])
    of_answer x Asked there owner e h = cc
    of_answer x Given there owner e h = cc
    of_answer x (Kept v) there owner e h =
        let eo : v ≡ o = cc in
        let er : rest ≡ [] = cc in
        (x, there, owner, e ∙ ap Kept eo, er)

    find : (x : Option Request) → requests p c ≡ x → Reply c o ∷ rest ≡ reply_messages q c x → (x : Request) × (requests p c ≡ Some x) × (x.cell.owner ≡ q) × (x.answer ≡ Kept o) × (rest ≡ [])
    find None there h = cc
    find (Some x) there h = by_owner (x.cell.owner == q) refl h
      where
        by_owner : (b : Bool) → (x.cell.owner == q) ≡ b → Reply c o ∷ rest ≡ (if b then reply_message c x.answer else [])
            → (x : Request) × (requests p c ≡ Some x) × (x.cell.owner ≡ q) × (x.answer ≡ Kept o) × (rest ≡ [])
        by_owner true e h = of_answer x x.answer there (same_test x.cell.owner q e) refl h
        by_owner false e h = cc

-- The answer is kept, and this message brings it.
pub record ReplyLicence (requests : ℕ → ℕ → Option Request) (p q c : ℕ) (o : Outcome) (rest : List Msg) : Type 0 where
  pub request : Request
  pub there : requests p c ≡ Some request
  pub owner : request.cell.owner ≡ q
  pub kept : request.answer ≡ Kept o
  pub once : only (is_reply c) rest ≡ []

pub reply_licence : (on_way : ℕ → ℕ → List Msg) (waiting : ℕ → List Waiting) (tasks : ℕ → ℕ → Option Task) (requests : ℕ → ℕ → Option Request)
    (p q c : ℕ) (o : Outcome) (rest : List Msg) → WaysFit on_way waiting tasks requests → on_way q p ≡ Reply c o ∷ rest → ReplyLicence requests p q c o rest
reply_licence on_way waiting tasks requests p q c o rest a e =
    let here : only (is_reply c) (Reply c o ∷ rest) ≡ Reply c o ∷ only (is_reply c) rest = rw (test_self c) refl in
    let x = reply_of requests p q c o (only (is_reply c) rest) (sym here ∙ sym (ap (only (is_reply c)) e) ∙ a.reply p q c) in
    record { request = x.0; there = x.1; owner = x.2; kept = x.3; once = x.4 }

-- A message goes to another process.
pub to_another : (on_way : ℕ → ℕ → List Msg) (waiting : ℕ → List Waiting) (tasks : ℕ → ℕ → Option Task) (requests : ℕ → ℕ → Option Request)
    (p q : ℕ) (m : Msg) (rest : List Msg) → WaysFit on_way waiting tasks requests → on_way p q ≡ m ∷ rest → (p == q) ≡ false
to_another on_way waiting tasks requests p q m rest a e = is_false (p == q) (λ same.
    let none : on_way p p ≡ [] = a.own p in
    let there : on_way p p ≡ on_way p q = ap (on_way p) (same_test p q same) in
    cc)

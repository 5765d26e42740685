-- What each step of a request does to the messages on their ways and to the requests that wait.
use Rattle.std.proofs.Common.{◌≡◌, ℕ, ◌+◌, ◌==◌, List, [], ◌∷◌, ◌++◌, Option, Some, None, Bool, true, false, ◌&&◌, refl, arith, ap, sym, subst, ◌∙◌, if◌then◌else◌}
use Rattle.std.proofs.lemmas.Bool.Decides.{nat_tests}
use Rattle.jd_value.specs.declared.reference.RefId.{RefId}
use Rattle.jd_task.specs.declared.job.TaskId.{TaskId}
use Rattle.jd_task.specs.declared.msg.Msg.{Msg}
use Rattle.jd_task.specs.declared.msg.Msg.TheVariants.{Fetch, Reply}
use Rattle.jd_model.specs.Outcome.{Outcome}
use Rattle.jd_model.specs.declared.life.Answer.{Answer}
use Rattle.jd_model.specs.declared.life.Answer.TheVariants.{Asked, Kept, Given}
use Rattle.jd_model.specs.Table.{put, put2, one, count, only}
use Rattle.jd_laws.proofs.Basics.{is_false, some_same, same_test, test_self, at_put2, count-snoc, only-append, ap_both, only-other}
use Rattle.jd_model.specs.Machine.{Task, Request, is_asked}
use Rattle.jd_model.specs.Node.{Waiting}
use Rattle.jd_model.specs.Refines.{is_call, call_messages, is_cell, is_fetch, is_waiting, is_pending, is_reply, reply_message, reply_messages}
use Rattle.jd_laws.proofs.Fits.{WaysFit}
use Rattle.jd_laws.proofs.Licences.{AskLicence}

abbrev pub entry : ℕ → ℕ → RefId → Waiting
entry p c r = record { ask = record { process = p; number = c }; cell = r }

abbrev pub new_request : TaskId → RefId → Bool → Request
new_request t r here = record { task = t; cell = r; is_here = here; answer = Asked }

-- A new request has no reply.
no_reply : (requests : ℕ → ℕ → Option Request) (p c : ℕ) (t : TaskId) (r : RefId) (here : Bool) → requests p c ≡ None → (x y d : ℕ)
    → reply_messages y d (requests x d) ≡ reply_messages y d (put2 requests p c (Some (new_request t r here)) x d)
no_reply requests p c t r here fresh x y d = at_put2 requests p c (Some (new_request t r here)) x d (λ z. reply_messages y d (requests x d) ≡ reply_messages y d z)
    (λ ex ed. ap (reply_messages y d) (ap_both requests ex ed ∙ fresh) ∙ sym (none (r.owner == y)))
    (λ _. refl)
  where
    none : (b : Bool) → (if b then reply_message d Asked else []) ≡ []
    none true = refl
    none false = refl

-- ---- a request is made

-- It goes to the cell's owner.
pub fetch_leaves : (w : ℕ → ℕ → List Msg) (v : ℕ → List Waiting) (tasks : ℕ → ℕ → Option Task) (requests : ℕ → ℕ → Option Request)
    (p c : ℕ) (t : TaskId) (r : RefId) (here : Bool) → WaysFit w v tasks requests → (p == r.owner) ≡ false → requests p c ≡ None → here ≡ false
    → WaysFit (put2 w p r.owner (w p r.owner ++ Fetch c r ∷ [])) v tasks (put2 requests p c (Some (new_request t r here)))
fetch_leaves w v tasks requests p c t r here a ne fresh away = record {
  call = λ x y i. at_put2 w p r.owner (w p r.owner ++ m ∷ []) x y (λ ms. only (is_call i) ms ≡ call_messages x y i (tasks x i))
      (λ ex ey. only-other (is_call i) (w p r.owner) m refl ∙ ap (only (is_call i)) (ap_both w (sym ex) (sym ey)) ∙ a.call x y i)
      (λ _. a.call x y i);
  fetch = λ x d k i o. let old = a.fetch x d k i o in grind (arith, nat_tests, old, fresh, count-snoc (is_fetch d k i o) (w p r.owner) m);
  fetch_owner = λ x y d k i o no. let old = a.fetch_owner x y d k i o no in grind (arith, nat_tests, old, no, count-snoc (is_fetch d k i o) (w p r.owner) m);
  reply = λ x y d. at_put2 w p r.owner (w p r.owner ++ m ∷ []) y x (λ ms. only (is_reply d) ms ≡ reply_messages y d (put2 requests p c (Some (new_request t r here)) x d))
      (λ ey ex. only-other (is_reply d) (w p r.owner) m refl ∙ ap (only (is_reply d)) (ap_both w (sym ey) (sym ex)) ∙ a.reply x y d ∙ no_reply requests p c t r here fresh x y d)
      (λ _. a.reply x y d ∙ no_reply requests p c t r here fresh x y d);
  own = λ x. let old = a.own x in grind (arith, nat_tests, old, ne);
  away = λ x d q h asked. at_put2 requests p c (Some (new_request t r here)) x d (λ z. z ≡ Some q → q.is_here ≡ false)
      (λ ex ed i. ap (λ (u : Request). u.is_here) (sym (some_same _ _ i)) ∙ away)
      (λ other i. a.away x d q i asked) h;
}
  where
    m : Msg
    m = Fetch c r

-- It waits at the process itself.
pub fetch_waits : (w : ℕ → ℕ → List Msg) (v : ℕ → List Waiting) (tasks : ℕ → ℕ → Option Task) (requests : ℕ → ℕ → Option Request)
    (p c : ℕ) (t : TaskId) (r : RefId) (here : Bool) → WaysFit w v tasks requests → r.owner ≡ p → requests p c ≡ None → here ≡ false
    → WaysFit w (put v p (v p ++ entry p c r ∷ [])) tasks (put2 requests p c (Some (new_request t r here)))
fetch_waits w v tasks requests p c t r here a owner fresh away = record {
  call = a.call;
  fetch = λ x d k i o. let old = a.fetch x d k i o in grind (arith, nat_tests, old, fresh, owner, count-snoc (is_waiting x d k i o) (v p) (entry p c r));
  fetch_owner = λ x y d k i o no. let old = a.fetch_owner x y d k i o no in grind (arith, nat_tests, old, no, owner, count-snoc (is_waiting x d k i o) (v p) (entry p c r));
  reply = λ x y d. a.reply x y d ∙ no_reply requests p c t r here fresh x y d;
  own = a.own;
  away = λ x d q h asked. at_put2 requests p c (Some (new_request t r here)) x d (λ z. z ≡ Some q → q.is_here ≡ false)
      (λ ex ed i. ap (λ (u : Request). u.is_here) (sym (some_same _ _ i)) ∙ away)
      (λ other i. a.away x d q i asked) h;
}

-- It was made and answered at once.
pub fetch_given : (w : ℕ → ℕ → List Msg) (v : ℕ → List Waiting) (tasks : ℕ → ℕ → Option Task) (requests : ℕ → ℕ → Option Request)
    (p c : ℕ) (q : Request) → WaysFit w v tasks requests → requests p c ≡ None → q.answer ≡ Given
    → WaysFit w v tasks (put2 requests p c (Some q))
fetch_given w v tasks requests p c q a fresh is_given = record {
  call = a.call;
  fetch = λ x d k i o. a.fetch x d k i o ∙ at_put2 requests p c (Some q) x d (λ z. one (is_pending k i o (requests x d)) ≡ one (is_pending k i o z))
      (λ ex ed. ap (λ (z : Option Request). one (is_pending k i o z)) (ap_both requests ex ed ∙ fresh) ∙ ap (λ (z : Answer). one (is_asked z && is_cell k i o q.cell)) (sym is_given))
      (λ _. refl);
  fetch_owner = a.fetch_owner;
  reply = λ x y d. a.reply x y d ∙ at_put2 requests p c (Some q) x d (λ z. reply_messages y d (requests x d) ≡ reply_messages y d z)
      (λ ex ed. ap (reply_messages y d) (ap_both requests ex ed ∙ fresh) ∙ sym (none (q.cell.owner == y) d))
      (λ _. refl);
  own = a.own;
  away = λ x d y h asked. at_put2 requests p c (Some q) x d (λ z. z ≡ Some y → y.is_here ≡ false)
      (λ ex ed i. let e : is_asked y.answer ≡ false = ap (λ (u : Request). is_asked u.answer) (sym (some_same _ _ i)) ∙ ap is_asked is_given in cc)
      (λ other i. a.away x d y i asked) h;
}
  where
    none : (b : Bool) (d : ℕ) → (if b then reply_message d q.answer else []) ≡ []
    none true d = ap (reply_message d) is_given
    none false d = refl

-- ---- it arrives

pub fetch_comes : (w : ℕ → ℕ → List Msg) (v : ℕ → List Waiting) (tasks : ℕ → ℕ → Option Task) (requests : ℕ → ℕ → Option Request)
    (p q c : ℕ) (r : RefId) (rest : List Msg) → WaysFit w v tasks requests → w p q ≡ Fetch c r ∷ rest
    → WaysFit (put2 w p q rest) (put v q (v q ++ entry p c r ∷ [])) tasks requests
fetch_comes w v tasks requests p q c r rest a e = record {
  call = λ x y i. let old = a.call x y i in grind (arith, nat_tests, old, ap (only (is_call i)) e);
  fetch = λ x d k i o. let old = a.fetch x d k i o in grind (arith, nat_tests, old, ap (count (is_fetch d k i o)) e, count-snoc (is_waiting x d k i o) (v q) (entry p c r));
  fetch_owner = λ x y d k i o no. let old = a.fetch_owner x y d k i o no in grind (arith, nat_tests, old, ap (count (is_fetch d k i o)) e, count-snoc (is_waiting x d k i o) (v q) (entry p c r));
  reply = λ x y d. let old = a.reply x y d in grind (arith, nat_tests, old, ap (only (is_reply d)) e);
  own = λ x. let old = a.own x in grind (arith, nat_tests, old, e);
  away = a.away;
}

-- ---- it is answered

-- One of the requests that wait at q is taken out.
pub record TakenOut (v u : ℕ → List Waiting) (q : ℕ) (x : Waiting) : Type 0 where
  pub here : (f : Waiting → Bool) → count f (v q) ≡ one (f x) + count f (u q)
  pub others : (y : ℕ) → (y == q) ≡ false → u y ≡ v y

-- By a message to its process.
pub reply_leaves : (w : ℕ → ℕ → List Msg) (v u : ℕ → List Waiting) (tasks : ℕ → ℕ → Option Task) (requests : ℕ → ℕ → Option Request)
    (p q c : ℕ) (r : RefId) (o : Outcome) (k : AskLicence requests p c r) → WaysFit w v tasks requests → TakenOut v u q (entry p c r) → r.owner ≡ q → (q == p) ≡ false
    → WaysFit (put2 w q p (w q p ++ Reply c o ∷ [])) u tasks (put2 requests p c (Some (record k.request { answer = Kept o })))
reply_leaves w v u tasks requests p q c r o k a out owner ne = record {
  call = λ x y i. at_put2 w q p (w q p ++ m ∷ []) x y (λ ms. only (is_call i) ms ≡ call_messages x y i (tasks x i))
      (λ ex ey. only-other (is_call i) (w q p) m refl ∙ ap (only (is_call i)) (ap_both w (sym ex) (sym ey)) ∙ a.call x y i)
      (λ _. a.call x y i);
  fetch = λ x d n i j.
      let old = a.fetch x d n i j in let at_q = out.here (is_waiting x d n i j) in let apart = out.others j in
      grind (arith, nat_tests, old, at_q, apart, there, asked, cell, owner, count-snoc (is_fetch d n i j) (w q p) m);
  fetch_owner = λ x y d n i j no.
      let old = a.fetch_owner x y d n i j no in let at_q = out.here (is_waiting x d n i j) in let apart = out.others y in
      grind (arith, nat_tests, old, at_q, apart, count-snoc (is_fetch d n i j) (w q p) m);
  reply = λ x y d. at_put2 requests p c (Some new) x d (λ z. only (is_reply d) (put2 w q p (w q p ++ m ∷ []) y x) ≡ reply_messages y d z)
      (λ ex ed. at_put2 w q p (w q p ++ m ∷ []) y x (λ ms. only (is_reply d) ms ≡ reply_messages y d (Some new))
      (λ ey fx. only-append (is_reply d) (w q p) (m ∷ []) ∙ ap (λ xs. xs ++ only (is_reply d) (m ∷ [])) (none p q d refl ed) ∙ this x y d ey ed)
      (λ other. none x y d ex ed ∙ sym (ap (λ (b : Bool). if b then reply_message d (Kept o) else []) (is_false _ (λ same.
      let ey : k.request.cell.owner ≡ y = same_test k.request.cell.owner y same in let eo : k.request.cell.owner ≡ q = ap (λ (z : RefId). z.owner) k.cell ∙ owner in grind (arith, nat_tests, other, ex, ey, eo))))))
      (λ other. at_put2 w q p (w q p ++ m ∷ []) y x (λ ms. only (is_reply d) ms ≡ reply_messages y d (requests x d))
      (λ ey ex. let no : (c == d) ≡ false = grind (arith, nat_tests, other, ex) in
      only-other (is_reply d) (w q p) m no
      ∙ ap (only (is_reply d)) (ap_both w (sym ey) (sym ex)) ∙ a.reply x y d)
      (λ _. a.reply x y d));
  own = λ x. let old = a.own x in grind (arith, nat_tests, old, ne);
  away = λ x d y h i. at_put2 requests p c (Some new) x d (λ z. z ≡ Some y → y.is_here ≡ false)
      (λ ex ed j. let e : is_asked y.answer ≡ false = ap (λ (z : Request). is_asked z.answer) (sym (some_same _ _ j)) in cc)
      (λ other j. a.away x d y j i) h;
}
  where
    m : Msg
    m = Reply c o

    new : Request
    new = record k.request { answer = Kept o }

    there : requests p c ≡ Some k.request
    there = k.there

    asked : k.request.answer ≡ Asked
    asked = k.asked

    cell : k.request.cell ≡ r
    cell = k.cell

    none : (x y d : ℕ) → x ≡ p → d ≡ c → only (is_reply d) (w y x) ≡ []
    none x y d ex ed = a.reply x y d ∙ ap (reply_messages y d) (ap_both requests ex ed ∙ k.there) ∙ unanswered (k.request.cell.owner == y) d
      where
        unanswered : (b : Bool) (d : ℕ) → (if b then reply_message d k.request.answer else []) ≡ []
        unanswered true d = ap (reply_message d) k.asked
        unanswered false d = refl

    this : (x y d : ℕ) → y ≡ q → d ≡ c → only (is_reply d) (m ∷ []) ≡ reply_messages y d (Some new)
    this x y d ey ed =
        subst (λ z. only (is_reply d) (m ∷ []) ≡ reply_messages z d (Some new)) (sym ey)
        (subst (λ z. only (is_reply z) (m ∷ []) ≡ reply_messages q z (Some new)) (sym ed)
        (rw (test_self c) (ap (λ (b : Bool). if b then m ∷ [] else []) (sym at_owner))))
      where
        at_owner : (k.request.cell.owner == q) ≡ true
        at_owner = ap (λ z. z == q) (ap (λ (z : RefId). z.owner) k.cell ∙ owner) ∙ test_self q

-- At once, where it is of the process itself.
pub own_given : (w : ℕ → ℕ → List Msg) (v u : ℕ → List Waiting) (tasks : ℕ → ℕ → Option Task) (requests : ℕ → ℕ → Option Request)
    (p c : ℕ) (r : RefId) (k : AskLicence requests p c r) → WaysFit w v tasks requests → TakenOut v u p (entry p c r) → r.owner ≡ p
    → WaysFit w u tasks (put2 requests p c (Some (record k.request { answer = Given })))
own_given w v u tasks requests p c r k a out owner = record {
  call = a.call;
  fetch = λ x d n i j.
      let old = a.fetch x d n i j in let at_p = out.here (is_waiting x d n i j) in let apart = out.others j in
      grind (arith, nat_tests, old, at_p, apart, there, asked, cell, owner);
  fetch_owner = λ x y d n i j no.
      let old = a.fetch_owner x y d n i j no in let at_p = out.here (is_waiting x d n i j) in let apart = out.others y in
      grind (arith, nat_tests, old, at_p, apart);
  reply = λ x y d. a.reply x y d ∙ at_put2 requests p c (Some new) x d (λ z. reply_messages y d (requests x d) ≡ reply_messages y d z)
      (λ ex ed. ap (reply_messages y d) (ap_both requests ex ed ∙ k.there) ∙ quiet (k.request.cell.owner == y) d)
      (λ _. refl);
  own = a.own;
  away = λ x d y h i. at_put2 requests p c (Some new) x d (λ z. z ≡ Some y → y.is_here ≡ false)
      (λ ex ed j. let e : is_asked y.answer ≡ false = ap (λ (z : Request). is_asked z.answer) (sym (some_same _ _ j)) in cc)
      (λ other j. a.away x d y j i) h;
}
  where
    new : Request
    new = record k.request { answer = Given }

    there : requests p c ≡ Some k.request
    there = k.there

    asked : k.request.answer ≡ Asked
    asked = k.asked

    cell : k.request.cell ≡ r
    cell = k.cell

    quiet : (b : Bool) (d : ℕ) → (if b then reply_message d k.request.answer else []) ≡ (if b then reply_message d Given else [])
    quiet true d = ap (reply_message d) k.asked
    quiet false d = refl

-- ---- the answer arrives

pub reply_comes : (w : ℕ → ℕ → List Msg) (v : ℕ → List Waiting) (tasks : ℕ → ℕ → Option Task) (requests : ℕ → ℕ → Option Request)
    (p q c : ℕ) (o : Outcome) (rest : List Msg) (x : Request) → WaysFit w v tasks requests → w q p ≡ Reply c o ∷ rest
    → requests p c ≡ Some x → x.cell.owner ≡ q → x.answer ≡ Kept o → only (is_reply c) rest ≡ []
    → WaysFit (put2 w q p rest) v tasks (put2 requests p c (Some (record x { answer = Given })))
reply_comes w v tasks requests p q c o rest r a e there owner kept once = record {
  call = λ x y i. let old = a.call x y i in grind (arith, nat_tests, old, ap (only (is_call i)) e);
  fetch = λ x d n i j. let old = a.fetch x d n i j in grind (arith, nat_tests, old, there, kept, ap (count (is_fetch d n i j)) e);
  fetch_owner = λ x y d n i j no. let old = a.fetch_owner x y d n i j no in grind (arith, nat_tests, old, ap (count (is_fetch d n i j)) e);
  reply = λ x y d. at_put2 requests p c (Some new) x d (λ z. only (is_reply d) (put2 w q p rest y x) ≡ reply_messages y d z)
      (λ ex ed. at_put2 w q p rest y x (λ ms. only (is_reply d) ms ≡ reply_messages y d (Some new))
      (λ ey fx. ap (λ z. only (is_reply z) rest) ed ∙ once ∙ sym (none (r.cell.owner == y) d))
      (λ other. a.reply x y d ∙ ap (reply_messages y d) (ap_both requests ex ed ∙ there)
      ∙ ap (λ (b : Bool). if b then reply_message d r.answer else []) (is_false (r.cell.owner == y) (λ same. let ey : r.cell.owner ≡ y = same_test r.cell.owner y same in grind (arith, nat_tests, other, ex, ey, owner)))
      ∙ sym (none (r.cell.owner == y) d)))
      (λ other. at_put2 w q p rest y x (λ ms. only (is_reply d) ms ≡ reply_messages y d (requests x d))
      (λ ey ex.
      let no : (c == d) ≡ false = grind (arith, nat_tests, other, ex) in
      let cut : only (is_reply d) (w y x) ≡ only (is_reply d) rest = ap (only (is_reply d)) (ap_both w ey ex ∙ e) ∙ ap (λ (b : Bool). if b then Reply c o ∷ only (is_reply d) rest else only (is_reply d) rest) no in
      sym cut ∙ a.reply x y d)
      (λ _. a.reply x y d));
  own = λ x. let old = a.own x in grind (arith, nat_tests, old, e);
  away = λ x d y h i. at_put2 requests p c (Some new) x d (λ z. z ≡ Some y → y.is_here ≡ false)
      (λ ex ed j. let f : is_asked y.answer ≡ false = ap (λ (z : Request). is_asked z.answer) (sym (some_same _ _ j)) in cc)
      (λ other j. a.away x d y j i) h;
}
  where
    new : Request
    new = record r { answer = Given }

    none : (b : Bool) (d : ℕ) → (if b then reply_message d Given else []) ≡ []
    none true d = refl
    none false d = refl

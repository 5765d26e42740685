-- A write to a map is a write to its table.
use Rattle.std.proofs.Common.{◌≡◌, ℕ, Bool, true, false, cond, ◌&&◌, ◌==◌, Option, None, Some, option_map, refl, ap, ◌∙◌, subst, nat_eq}
use mathlib.Core.Path.{fun_ext}
use Rattle.std.specs.Option.{IsSome, unwrap_or}
use Rattle.std.specs.HashMap.{HashMap, get, UpdatesBy}
use Rattle.jd_value.specs.declared.reference.RefId.{RefId}
use Rattle.jd_value.specs.declared.reference.Ask.{Ask}
use Rattle.jd_task.specs.declared.job.TaskId.{TaskId}
use Rattle.jd_model.specs.Table.{put, put2, put3}
use Rattle.jd_plain.specs.Tables.{same_task, same_ask, same_cell}
use Rattle.jd_plain.proofs.Puts.{eqb-sym}

pub map-cond : {A B : Type 0} (f : A → B) (b : Bool) (v w : A) → f (cond b v w) ≡ cond b (f v) (f w)
map-cond f true v w = refl
map-cond f false v w = refl

-- ---- by numbers

abbrev pub by_number : {X Y S : Type 0} → (Option X → Y) → HashMap ℕ X S → ℕ → Y
by_number f m p = f (get nat_eq m p)

pub by_number-put : {X Y S : Type 0} (f : Option X → Y) (m n : HashMap ℕ X S) (k : ℕ) (w : Option X)
    → ((q : ℕ) → get nat_eq n q ≡ cond (nat_eq k q) w (get nat_eq m q)) → by_number f n ≡ put (by_number f m) k (f w)
by_number-put f m n k w h =
    fun_ext (λ q. ap f (h q) ∙ map-cond f (nat_eq k q) w (get nat_eq m q) ∙ ap (λ b. cond b (f w) (f (get nat_eq m q))) (eqb-sym k q))

-- ---- by tasks

abbrev pub by_task : {X Y S : Type 0} → (X → Y) → HashMap TaskId X S → ℕ → ℕ → Option Y
by_task f m p n = option_map f (get same_task m (record { process = p; number = n }))

pub by_task-put : {X Y S : Type 0} (f : X → Y) (m n : HashMap TaskId X S) (t : TaskId) (w : Option X)
    → ((q : TaskId) → get same_task n q ≡ cond (same_task t q) w (get same_task m q)) → by_task f n ≡ put2 (by_task f m) t.process t.number (option_map f w)
by_task-put f m n t w h =
    fun_ext (λ p. fun_ext (λ a. let q : TaskId = record { process = p; number = a } in
    ap (option_map f) (h q) ∙ map-cond (option_map f) (same_task t q) w (get same_task m q)
    ∙ ap (λ b. cond (b && t.number == a) (option_map f w) (option_map f (get same_task m q))) (eqb-sym t.process p)
    ∙ ap (λ b. cond (p == t.process && b) (option_map f w) (option_map f (get same_task m q))) (eqb-sym t.number a)))

-- a value that is there is changed in its place
pub by_task-write : {X Y S : Type 0} (f : X → Y) (g : Y → Y) (m n : HashMap TaskId X S) (t : TaskId) (v w : X) → Some v ≡ get same_task m t
    → (IsSome (get same_task m t) → UpdatesBy same_task (same_task t) m n (Some w)) → f w ≡ g (f v)
    → by_task f n ≡ put2 (by_task f m) t.process t.number (option_map g (by_task f m t.process t.number))
by_task-write f g m n t v w old writes e =
    by_task-put f m n t (Some w) (writes (subst IsSome old refl)).0
    ∙ ap (put2 (by_task f m) t.process t.number) (ap Some e ∙ ap (λ o. option_map g (option_map f o)) old)

-- ---- by requests

abbrev pub by_ask : {X Y S : Type 0} → (X → Y) → HashMap Ask X S → ℕ → ℕ → Option Y
by_ask f m p n = option_map f (get same_ask m (record { process = p; number = n }))

pub by_ask-put : {X Y S : Type 0} (f : X → Y) (m n : HashMap Ask X S) (t : Ask) (w : Option X)
    → ((q : Ask) → get same_ask n q ≡ cond (same_ask t q) w (get same_ask m q)) → by_ask f n ≡ put2 (by_ask f m) t.process t.number (option_map f w)
by_ask-put f m n t w h =
    fun_ext (λ p. fun_ext (λ a. let q : Ask = record { process = p; number = a } in
    ap (option_map f) (h q) ∙ map-cond (option_map f) (same_ask t q) w (get same_ask m q)
    ∙ ap (λ b. cond (b && t.number == a) (option_map f w) (option_map f (get same_ask m q))) (eqb-sym t.process p)
    ∙ ap (λ b. cond (p == t.process && b) (option_map f w) (option_map f (get same_ask m q))) (eqb-sym t.number a)))

pub by_ask-write : {X Y S : Type 0} (f : X → Y) (g : Y → Y) (m n : HashMap Ask X S) (t : Ask) (v w : X) → Some v ≡ get same_ask m t
    → (IsSome (get same_ask m t) → UpdatesBy same_ask (same_ask t) m n (Some w)) → f w ≡ g (f v)
    → by_ask f n ≡ put2 (by_ask f m) t.process t.number (option_map g (by_ask f m t.process t.number))
by_ask-write f g m n t v w old writes e =
    by_ask-put f m n t (Some w) (writes (subst IsSome old refl)).0
    ∙ ap (put2 (by_ask f m) t.process t.number) (ap Some e ∙ ap (λ o. option_map g (option_map f o)) old)

-- ---- by cells

abbrev pub by_cell : {X S : Type 0} → HashMap RefId X S → ℕ → ℕ → ℕ → Option X
by_cell m a n o = get same_cell m (record { maker = a; number = n; owner = o })

pub by_cell-put : {X S : Type 0} (m n : HashMap RefId X S) (r : RefId) (w : Option X)
    → ((q : RefId) → get same_cell n q ≡ cond (same_cell r q) w (get same_cell m q)) → by_cell n ≡ put3 (by_cell m) r.maker r.number r.owner w
by_cell-put m n r w h =
    fun_ext (λ a. fun_ext (λ b. fun_ext (λ c. let q : RefId = record { maker = a; number = b; owner = c } in
    h q
    ∙ ap (λ x. cond (x && (r.number == b && r.owner == c)) w (get same_cell m q)) (eqb-sym r.maker a)
    ∙ ap (λ x. cond (a == r.maker && (x && r.owner == c)) w (get same_cell m q)) (eqb-sym r.number b)
    ∙ ap (λ x. cond (a == r.maker && (b == r.number && x)) w (get same_cell m q)) (eqb-sym r.owner c))))

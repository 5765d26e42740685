-- Writes to tables.
use Rattle.std.proofs.Common.{◌≡◌, ℕ, Bool, true, false, cond, ◌&&◌, ◌==◌, if◌then◌else◌, refl, ap, sym, ◌∙◌, arith}
use mathlib.Core.Path.{fun_ext}
use Rattle.std.proofs.lemmas.Bool.{eqb-true}
use Rattle.std.proofs.lemmas.Bool.Decides.{nat_tests}
use Rattle.jd_model.specs.Table.{put, put2, put3}

pub eqb-sym : (a b : ℕ) → (a == b) ≡ (b == a)
eqb-sym a b = grind (arith, nat_tests)

pub cond-cond : {A : Type 0} (b : Bool) (v w x : A) → cond b v (cond b w x) ≡ cond b v x
cond-cond true v w x = refl
cond-cond false v w x = refl

pub and-fst : (a b : Bool) → a && b ≡ true → a ≡ true
and-fst true b h = refl
and-fst false b h = h

pub and-snd : (a b : Bool) → a && b ≡ true → b ≡ true
and-snd true b h = h
and-snd false b h = cc

-- a choice of what is the same is no choice
pub cond-same : {A : Type 0} (b : Bool) (v w : A) → (b ≡ true → v ≡ w) → cond b v w ≡ w
cond-same true v w h = h refl
cond-same false v w h = refl

pub put-put : {A : Type 0} (f : ℕ → A) (k : ℕ) (v w : A) → put (put f k v) k w ≡ put f k w
put-put f k v w = fun_ext (λ x. cond-cond (x == k) w v (f x))

pub put-same : {A : Type 0} (f : ℕ → A) (k : ℕ) (v : A) → f k ≡ v → put f k v ≡ f
put-same f k v e = fun_ext (λ x. cond-same (x == k) v (f x) (λ h. sym e ∙ ap f (sym (eqb-true x k h))))

pub put2-put2 : {A : Type 0} (f : ℕ → ℕ → A) (k n : ℕ) (v w : A) → put2 (put2 f k n v) k n w ≡ put2 f k n w
put2-put2 f k n v w = fun_ext (λ x. fun_ext (λ y. cond-cond (x == k && y == n) w v (f x y)))

pub put2-same : {A : Type 0} (f : ℕ → ℕ → A) (k n : ℕ) (v : A) → f k n ≡ v → put2 f k n v ≡ f
put2-same f k n v e =
    fun_ext (λ x. fun_ext (λ y. cond-same (x == k && y == n) v (f x y) (λ h.
    sym e ∙ ap (λ a. f a n) (sym (eqb-true x k (and-fst (x == k) (y == n) h))) ∙ ap (f x) (sym (eqb-true y n (and-snd (x == k) (y == n) h))))))

pub put3-same : {A : Type 0} (f : ℕ → ℕ → ℕ → A) (k n m : ℕ) (v : A) → f k n m ≡ v → put3 f k n m v ≡ f
put3-same f k n m v e =
    fun_ext (λ x. fun_ext (λ y. fun_ext (λ z. cond-same (x == k && (y == n && z == m)) v (f x y z) (λ h.
    let r = and-snd (x == k) (y == n && z == m) h in
    sym e ∙ ap (λ a. f a n m) (sym (eqb-true x k (and-fst (x == k) (y == n && z == m) h))) ∙ ap (λ a. f x a m) (sym (eqb-true y n (and-fst (y == n) (z == m) r)))
    ∙ ap (f x y) (sym (eqb-true z m (and-snd (y == n) (z == m) r)))))))

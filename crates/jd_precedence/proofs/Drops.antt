-- A stack from an item on.
use Rattle.std.proofs.Common.{ℕ, zero, suc, ◌≡◌, ◌≤◌, ◌<◌, ◌+◌, ◌-◌, List, [], ◌∷◌, length, get_or, drop, reverse, sym, ap, ◌∙◌, arith}
use Rattle.std.proofs.Math.Seq.{drop-cons, drop-nil}
use Rattle.std.proofs.lemmas.List.{get_or-reverse, length-reverse}

drop_all : {X : Type 0} → (xs : List X) (n : ℕ) → length xs ≤ n → drop n xs ≡ []
drop_all [] n h = drop-nil n
drop_all (x ∷ xs) zero h = absurd (omega arith)
drop_all (x ∷ xs) (suc n) h = drop_all xs n (omega arith)

one_more : (n : ℕ) → suc n ≡ n + 1
one_more n = omega arith

pub below_top : {X : Type 0} → (xs : List X) (n : ℕ) (x : X) → n < length xs → x ≡ get_or xs (length xs - 1 - n) x → drop n (reverse xs) ≡ x ∷ drop (n + 1) (reverse xs)
below_top xs n x h e =
    drop-cons (reverse xs) n x (omega (arith, length-reverse xs)) ∙ ap (λ y. y ∷ drop (suc n) (reverse xs)) (get_or-reverse xs n x h ∙ sym e) ∙ ap (λ k. x ∷ drop k (reverse xs)) (one_more n)

pub below_all : {X : Type 0} → (xs : List X) (n : ℕ) → length xs ≤ n → drop n (reverse xs) ≡ []
below_all xs n h = drop_all (reverse xs) n (omega (arith, length-reverse xs))

-- where nothing is left from an item on, nothing is from the next
pub drop_past : {X : Type 0} → (xs : List X) (n m : ℕ) → n ≤ m → drop n xs ≡ [] → drop m xs ≡ []
drop_past [] n m h e = drop-nil m
drop_past (x ∷ xs) zero m h e = cc
drop_past (x ∷ xs) (suc n) zero h e = absurd (omega arith)
drop_past (x ∷ xs) (suc n) (suc m) h e = drop_past xs n m (omega arith) e

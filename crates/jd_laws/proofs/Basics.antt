-- Tests, tables, counts and parts of lists.
use Rattle.std.proofs.Common.{◌≡◌, ℕ, ◌+◌, ◌<◌, ◌==◌, List, [], ◌∷◌, ◌++◌, map, Option, Some, None, Bool, true, false, not, ◌&&◌, ◌||◌, is_some, is_none, refl, arith, ap, if◌then◌else◌, length, append-nil, ◌∙◌}
use Rattle.std.specs.Prelude.{filter}
use Rattle.std.specs.List.{list_any}
use Rattle.std.proofs.lemmas.Bool.Decides.{nat_tests}
use Rattle.jd_model.specs.Table.{put, put2, put3, one, count, only, All}

-- ---- tests

pub and_left : (a b : Bool) → (a && b) ≡ true → a ≡ true
and_left true b h = refl
and_left false b h = cc

pub and_right : (a b : Bool) → (a && b) ≡ true → b ≡ true
and_right true b h = h
and_right false b h = cc

pub both : (a b : Bool) → a ≡ true → b ≡ true → (a && b) ≡ true
both a b e f = rw (e, f) refl

pub not_is : (b : Bool) → not b ≡ true → b ≡ false
not_is false h = refl
not_is true h = cc

pub is_false : (b : Bool) → (b ≡ true → ⊥) → b ≡ false
is_false false h = refl
is_false true h = absurd (h refl)

pub some_is : {A : Type 0} (o : Option A) → is_some o ≡ true → (x : A) × (o ≡ Some x)
some_is None h = cc
some_is (Some x) h = (x, refl)

pub none_is : {A : Type 0} (o : Option A) → is_none o ≡ true → o ≡ None
none_is None h = refl
none_is (Some x) h = cc

pub some_same : {A : Type 0} (a b : A) → Some a ≡ Some b → a ≡ b
some_same a b h = cc

pub same_test : (a b : ℕ) → (a == b) ≡ true → a ≡ b
same_test a b h = grind (arith, nat_tests, h)

pub test_self : (a : ℕ) → (a == a) ≡ true
test_self a = grind (arith, nat_tests)

pub one_is : (b : Bool) (n : ℕ) → 0 < n → n ≡ one b → b ≡ true
one_is true n p e = refl
one_is false n p e = absurd (omega arith)

-- ---- tables

-- A property of an entry, from that of the new entry and those of the others.
pub at_put : {A : Type 0} (f : ℕ → A) (k : ℕ) (v : A) (x : ℕ) (P : A → Type 0) → (x ≡ k → P v) → ((x == k) ≡ false → P (f x)) → P (put f k v x)
at_put f k v x P new other = by_test (x == k) refl
  where
    by_test : (b : Bool) → (x == k) ≡ b → P (if b then v else f x)
    by_test true e = new (same_test x k e)
    by_test false e = other e

pub at_put2 : {A : Type 0} (f : ℕ → ℕ → A) (k n : ℕ) (v : A) (x y : ℕ) (P : A → Type 0)
    → (x ≡ k → y ≡ n → P v) → ((x == k && y == n) ≡ false → P (f x y)) → P (put2 f k n v x y)
at_put2 f k n v x y P new other = by_test (x == k && y == n) refl
  where
    by_test : (b : Bool) → (x == k && y == n) ≡ b → P (if b then v else f x y)
    by_test true e = new (same_test x k (and_left _ _ e)) (same_test y n (and_right _ _ e))
    by_test false e = other e

pub at_put3 : {A : Type 0} (f : ℕ → ℕ → ℕ → A) (k n m : ℕ) (v : A) (x y z : ℕ) (P : A → Type 0)
    → (x ≡ k → y ≡ n → z ≡ m → P v) → ((x == k && (y == n && z == m)) ≡ false → P (f x y z)) → P (put3 f k n m v x y z)
at_put3 f k n m v x y z P new other = by_test (x == k && (y == n && z == m)) refl
  where
    by_test : (b : Bool) → (x == k && (y == n && z == m)) ≡ b → P (if b then v else f x y z)
    by_test true e =
        let r : (y == n && z == m) ≡ true = and_right (x == k) _ e in
        new (same_test x k (and_left _ _ e)) (same_test y n (and_left _ _ r)) (same_test z m (and_right (y == n) _ r))
    by_test false e = other e

pub put-same : {A : Type 0} (f : ℕ → A) (k : ℕ) (v : A) → put f k v k ≡ v
put-same f k v = rw (test_self k) refl

pub put2-same : {A : Type 0} (f : ℕ → ℕ → A) (k n : ℕ) (v : A) → put2 f k n v k n ≡ v
put2-same f k n v = rw (test_self k, test_self n) refl

pub put3-same : {A : Type 0} (f : ℕ → ℕ → ℕ → A) (k n m : ℕ) (v : A) → put3 f k n m v k n m ≡ v
put3-same f k n m v = rw (test_self k, test_self n, test_self m) refl

-- ---- counts, and those that pass a test

pub count-snoc : {X : Type 0} (p : X → Bool) (xs : List X) (x : X) → count p (xs ++ x ∷ []) ≡ count p xs + one (p x)
count-snoc p [] x = omega arith
count-snoc p (y ∷ ys) x = omega (arith, count-snoc p ys x)

pub count-append : {X : Type 0} (p : X → Bool) (xs ys : List X) → count p (xs ++ ys) ≡ count p xs + count p ys
count-append p [] ys = omega arith
count-append p (x ∷ xs) ys = omega (arith, count-append p xs ys)

pub only-append : {X : Type 0} (p : X → Bool) (xs ys : List X) → only p (xs ++ ys) ≡ only p xs ++ only p ys
only-append p [] ys = refl
only-append p (x ∷ xs) ys =
    let rest = only-append p xs ys in
    elim (p x) as (λ b. (if b then x ∷ only p (xs ++ ys) else only p (xs ++ ys)) ≡ (if b then x ∷ only p xs else only p xs) ++ only p ys) [
      | true ↦ ap (λ zs. x ∷ zs) rest
      | false ↦ rest
    ]

-- ---- all have a property

pub all-append : {X : Type 0} (P : X → Type 0) (xs ys : List X) → All P xs → All P ys → All P (xs ++ ys)
all-append P [] ys a b = b
all-append P (x ∷ xs) ys a b = (a.0, all-append P xs ys a.1 b)

pub all-filter : {X : Type 0} (P : X → Type 0) (f : X → Bool) (xs : List X) → All P xs → All P (filter f xs)
all-filter P f [] a = tt
all-filter P f (x ∷ xs) a =
    let rest = all-filter P f xs a.1 in
    elim (f x) as (λ b. All P (if b then x ∷ filter f xs else filter f xs)) [
      | true ↦ (a.0, rest)
      | false ↦ rest
    ]

pub all-map : {X : Type 0} (P Q : X → Type 0) (xs : List X) → ((x : X) → P x → Q x) → All P xs → All Q xs
all-map P Q [] f a = tt
all-map P Q (x ∷ xs) f a = (f x a.0, all-map P Q xs f a.1)

-- One that passes a test has the property.
pub all-any : {X : Type 0} (P : X → Type 0) (f : X → Bool) (xs : List X) → All P xs → list_any f xs ≡ true → (x : X) × P x × (f x ≡ true)
all-any P f [] a h = cc
all-any {X = X} P f (x ∷ xs) a h =
    let rest = λ (k : list_any f xs ≡ true). all-any P f xs a.1 k in
    elim (f x) as (λ b. f x ≡ b → (b || list_any f xs) ≡ true → (y : X) × P y × (f y ≡ true)) [
      | true ↦ λ e k. (x, a.0, e)
      | false ↦ λ e k. rest k
    ] refl h

pub ap_both : {A : Type 0} (f : ℕ → ℕ → A) {x y u v : ℕ} → x ≡ y → u ≡ v → f x u ≡ f y v
ap_both f p q = λ j. f (p j) (q j)

pub all-zip : {X : Type 0} (P Q R : X → Type 0) (xs : List X) → ((x : X) → P x → Q x → R x) → All P xs → All Q xs → All R xs
all-zip P Q R [] f a b = tt
all-zip P Q R (x ∷ xs) f a b = (f x a.0 b.0, all-zip P Q R xs f a.1 b.1)

-- Those that pass a test have a property that the test gives them.
pub all-passed : {X : Type 0} (P Q : X → Type 0) (f : X → Bool) (xs : List X) → ((x : X) → f x ≡ true → P x → Q x) → All P xs → All Q (filter f xs)
all-passed P Q f [] g a = tt
all-passed P Q f (x ∷ xs) g a =
    let rest = all-passed P Q f xs g a.1 in
    elim (f x) as (λ b. f x ≡ b → All Q (if b then x ∷ filter f xs else filter f xs)) [
      | true ↦ λ e. (g x e a.0, rest)
      | false ↦ λ e. rest
    ] refl

-- A list is what passes a test and what doesn't.
pub count-split : {X : Type 0} (f p : X → Bool) (xs : List X) → count f (filter (λ x. not (p x)) xs) + count f (filter p xs) ≡ count f xs
count-split f p [] = refl
count-split f p (x ∷ xs) =
    let rest = count-split f p xs in
    elim (p x) as (λ b. count f (if not b then x ∷ filter (λ y. not (p y)) xs else filter (λ y. not (p y)) xs) + count f (if b then x ∷ filter p xs else filter p xs) ≡ one (f x) + count f xs) [
      | true ↦ omega (arith, rest)
      | false ↦ omega (arith, rest)
    ]

pub map-append : {X Y : Type 0} (f : X → Y) (xs ys : List X) → map f (xs ++ ys) ≡ map f xs ++ map f ys
map-append f [] ys = refl
map-append f (x ∷ xs) ys = ap (λ zs. f x ∷ zs) (map-append f xs ys)

pub no_length : {X : Type 0} (xs : List X) → length xs ≡ 0 → xs ≡ []
no_length [] h = refl
no_length (x ∷ xs) h = absurd (omega arith)

-- One more that doesn't pass changes nothing.
pub only-other : {X : Type 0} (p : X → Bool) (xs : List X) (x : X) → p x ≡ false → only p (xs ++ x ∷ []) ≡ only p xs
only-other p xs x e = only-append p xs (x ∷ []) ∙ ap (λ (b : Bool). only p xs ++ (if b then x ∷ [] else [])) e ∙ append-nil (only p xs)

-- Sums over views, entries counted by their place, and entries that are in a list.
use Rattle.std.proofs.Common.{◌≡◌, ℕ, zero, suc, ◌+◌, ◌<◌, ◌≤◌, ◌==◌, List, [], ◌∷◌, ◌++◌, length, set, drop, Some, refl, sym, ap, ◌∙◌, subst, arith, length-append, append_assoc}
use Rattle.std.specs.Prelude.{slice_get, All, sum_by, if◌then◌else◌}
use Rattle.std.specs.List.{enumerate_from}
use Rattle.std.proofs.lemmas.Bool.Decides.{nat_tests}
use Rattle.std.proofs.lemmas.List.Sums.{sum_by-cons, sum_by-append}
use Rattle.std.proofs.lemmas.List.Elements.{All-nil, All-cons, All-head, All-tail, All-weaker}
use Rattle.std.proofs.lemmas.Option.{slice_get_within}
use mathlib.Core.Option.{some, some-ne-none, some-injective}
use mathlib.Core.Logic.{dite}
use native.Mathlib.Decide.{ℕ_discrete}
use lib.ListN.{get_elem?}
use Rattle.jd_desk.specs.Holding.{IsPrefix, IsAtPlace, AreAtPlaces, count_at}

module _ {X : Type 0} where
  pub sum_by-set_at : (f : X → ℕ) (xs : List X) (id : ℕ) (v w : X) → get_elem? xs id ≡ some v → sum_by f (set xs id w) + f v ≡ sum_by f xs + f w
  sum_by-set_at f [] id v w at = absurd (some-ne-none v (sym at))
  sum_by-set_at f (x ∷ xs) zero v w at =
      let here = ap f (some-injective x v at) in omega (arith, here, sum_by-cons f x xs, sum_by-cons f w xs)
  sum_by-set_at f (x ∷ xs) (suc id) v w at =
      let rest = sum_by-set_at f xs id v w at in omega (arith, rest, sum_by-cons f x xs, sum_by-cons f x (set xs id w))

  pub at-le-sum_by : (f : X → ℕ) (xs : List X) (id : ℕ) (v : X) → get_elem? xs id ≡ some v → f v ≤ sum_by f xs
  at-le-sum_by f [] id v at = absurd (some-ne-none v (sym at))
  at-le-sum_by f (x ∷ xs) zero v at = let here = ap f (some-injective x v at) in omega (arith, here, sum_by-cons f x xs)
  at-le-sum_by f (x ∷ xs) (suc id) v at = let rest = at-le-sum_by f xs id v at in omega (arith, rest, sum_by-cons f x xs)

  -- a sum of nothing but zeros
  pub sum_by-zeros : (f : X → ℕ) (xs : List X) → ((id : ℕ) (v : X) → get_elem? xs id ≡ some v → f v ≡ 0) → sum_by f xs ≡ 0
  sum_by-zeros f [] zeros = refl
  sum_by-zeros f (x ∷ xs) zeros =
      let here = zeros 0 x refl in
      let rest = sum_by-zeros f xs (λ id. zeros (suc id)) in omega (arith, here, rest, sum_by-cons f x xs)

  -- where one element has the whole sum of f, and who has nothing of f has nothing of g, it has the whole sum of g
  pub sum_by-only : (f g : X → ℕ) (xs : List X) (id : ℕ) (v : X) → get_elem? xs id ≡ some v → sum_by f xs ≡ f v → ((j : ℕ) (u : X) → get_elem? xs j ≡ some u → f u ≡ 0 → g u ≡ 0) → sum_by g xs ≡ g v
  sum_by-only f g [] id v at all idle = absurd (some-ne-none v (sym at))
  sum_by-only f g (x ∷ xs) zero v at all idle =
      let is = some-injective x v at in
      let same_f = ap f is in
      let same_g = ap g is in
      let none : sum_by f xs ≡ 0 = omega (arith, all, same_f, sum_by-cons f x xs) in
      let rest = sum_by-zeros g xs (λ j u there. idle (suc j) u there (let most = at-le-sum_by f xs j u there in omega (arith, most, none))) in omega (arith, rest, same_g, sum_by-cons g x xs)
  sum_by-only f g (x ∷ xs) (suc id) v at all idle =
      let most = at-le-sum_by f xs id v at in
      let none : f x ≡ 0 = omega (arith, all, most, sum_by-cons f x xs) in
      let here : g x ≡ 0 = idle 0 x refl none in
      let rest = sum_by-only f g xs id v at (omega (arith, all, none, sum_by-cons f x xs)) (λ j. idle (suc j)) in omega (arith, here, rest, sum_by-cons g x xs)

module _ {E : Type 0} where
  pub count_at-cons : (place : ℕ) (e : ℕ × E) (es : List (ℕ × E)) → count_at place (e ∷ es) ≡ (if e.0 == place then 1 else 0) + count_at place es
  count_at-cons place e es = sum_by-cons _ e es

  pub count_at-append : (place : ℕ) (es fs : List (ℕ × E)) → count_at place (es ++ fs) ≡ count_at place es + count_at place fs
  count_at-append place es fs = sum_by-append _ es fs

  -- the places of a numbered list begin at n
  pub count_at-below : (place n : ℕ) (xs : List E) → place < n → count_at place (enumerate_from n xs) ≡ 0
  count_at-below place n [] below = refl
  count_at-below place n (x ∷ xs) below =
      let rest = count_at-below place (n + 1) xs (omega arith) in
      let here = count_at-cons place (n, x) (enumerate_from (n + 1) xs) in grind (arith, nat_tests, rest, here, below)

  -- each of them is there once
  pub count_at-within : (place n : ℕ) (xs : List E) → n ≤ place → place < n + length xs → count_at place (enumerate_from n xs) ≡ 1
  count_at-within place n [] from within = absurd (omega arith)
  count_at-within place n (x ∷ xs) from within =
      let here = count_at-cons place (n, x) (enumerate_from (n + 1) xs) in
      dite (ℕ_discrete n place)
      (λ same. let rest = count_at-below place (n + 1) xs (omega arith) in grind (arith, nat_tests, rest, here, same))
      (λ apart. let rest = count_at-within place (n + 1) xs (omega arith) (omega arith) in grind (arith, nat_tests, rest, here, apart))

  -- past the list there is no entry
  pub count_at-outside : (list : List E) (es : List (ℕ × E)) (place : ℕ) → AreAtPlaces list es → length list ≤ place → count_at place es ≡ 0
  count_at-outside list [] place placed outside = refl
  count_at-outside list (e ∷ es) place placed outside =
      let within = slice_get_within list e.0 e.1 (All-head (IsAtPlace list) e es placed) in
      let rest = count_at-outside list es place (All-tail (IsAtPlace list) e es placed) outside in
      let here = count_at-cons place e es in grind (arith, nat_tests, rest, here, within, outside)

  slice_get-front : (xs more : List E) (k : ℕ) (x : E) → slice_get xs k ≡ Some x → slice_get (xs ++ more) k ≡ Some x
  slice_get-front [] more k x at = absurd (cc)
  slice_get-front (y ∷ xs) more zero x at = at
  slice_get-front (y ∷ xs) more (suc k) x at = slice_get-front xs more k x at

  slice_get-behind : (xs more : List E) (x : E) → slice_get (xs ++ x ∷ more) (length xs) ≡ Some x
  slice_get-behind [] more x = refl
  slice_get-behind (y ∷ xs) more x = slice_get-behind xs more x

  -- what is in a list stays in it as it grows
  pub placed-longer : (list more : List E) (es : List (ℕ × E)) → AreAtPlaces list es → AreAtPlaces (list ++ more) es
  placed-longer list more es placed = All-weaker (IsAtPlace list) (IsAtPlace (list ++ more)) (λ e at. slice_get-front list more e.0 e.1 at) es placed

  pub placed-appended : (list more : List E) → AreAtPlaces (list ++ more) (enumerate_from (length list) more)
  placed-appended list [] = All-nil _
  placed-appended list (x ∷ more) =
      let one : length (list ++ x ∷ []) ≡ length list + 1 = omega (arith, length-append list (x ∷ [])) in
      All-cons (IsAtPlace (list ++ x ∷ more)) (length list, x) (enumerate_from (length list + 1) more)
      (slice_get-behind list more x)
      (subst (λ (z : List E × ℕ). AreAtPlaces z.0 (enumerate_from z.1 more)) (λ i. (append_assoc list (x ∷ []) more i, one i)) (placed-appended (list ++ x ∷ []) more))

  -- the places of what is in a list are below its length
  pub placed-below : (list : List E) (es : List (ℕ × E)) → AreAtPlaces list es → All (λ e. e.0 < length list) es
  placed-below list es placed = All-weaker (IsAtPlace list) (λ e. e.0 < length list) (λ e at. slice_get_within list e.0 e.1 at) es placed

  pub drop-front : (xs more : List E) → drop (length xs) (xs ++ more) ≡ more
  drop-front [] more = refl
  drop-front (x ∷ xs) more = drop-front xs more

  pub prefixes-longer : (list more : List E) (seen : List (List E)) → All (λ xs. IsPrefix xs list) seen → All (λ xs. IsPrefix xs (list ++ more)) seen
  prefixes-longer list more seen prefixes = All-weaker (λ xs. IsPrefix xs list) (λ xs. IsPrefix xs (list ++ more)) (λ xs is. (is.0 ++ more, ap (λ l. l ++ more) is.1 ∙ append_assoc xs is.0 more)) seen prefixes

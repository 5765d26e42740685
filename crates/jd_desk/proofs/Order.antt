-- The order of a seat's entries, and of the final list's entries of one kind.
use Rattle.std.proofs.Common.{◌≡◌, ℕ, zero, suc, ◌+◌, ◌-◌, ◌<◌, ◌≤◌, List, [], ◌∷◌, ◌++◌, map, length, Some, Bool, true, false, cond, refl, sym, ap, ◌∙◌, subst, arith, length-append}
use Rattle.std.specs.Prelude.{slice_get, slice_index, All, filter}
use Rattle.std.specs.List.{enumerate_from}
use Rattle.std.proofs.lemmas.Bool.Decides.{nat_tests}
use Rattle.std.proofs.lemmas.List.Elements.{All-nil, All-cons, All-head, All-tail, All-append}
use Rattle.std.proofs.lemmas.Option.{slice_get_within}
use mathlib.Core.Logic.{dite}
use native.Mathlib.Decide.{ℕ_discrete, dec_le}
use Rattle.jd_desk.specs.declared.seat.Holding.{Holding}
use Rattle.jd_desk.specs.Holding.{IsAtPlace, AreAtPlaces, IsWhole, TakesTurn, PlacesRise, LacksKind, count_at}
use Rattle.jd_desk.proofs.Lists.{count_at-cons, count_at-append, count_at-below, count_at-within, count_at-outside, placed-longer, placed-appended}

module _ {E : Type 0} where
  -- the places rise, and the first is n or above
  abbrev RiseFrom : ℕ → List (ℕ × E) → Type 0
  RiseFrom n [] = Unit {0}
  RiseFrom n (e ∷ es) = (n ≤ e.0) × RiseFrom (suc e.0) es

  rise-tail : (e : ℕ × E) (es : List (ℕ × E)) → PlacesRise (e ∷ es) → PlacesRise es
  rise-tail e es rise k within =
      let next : suc k + 1 ≡ suc (k + 1) = omega arith in
      subst (λ m. slice_index (map (λ (x : ℕ × E). x.0) (e ∷ es)) (suc k) < slice_index (map (λ (x : ℕ × E). x.0) (e ∷ es)) m) next (rise (suc k) (omega (arith, within)))

  rise_from-head : (e : ℕ × E) (es : List (ℕ × E)) → PlacesRise (e ∷ es) → RiseFrom (suc e.0) es
  rise_from-head e [] rise = tt
  rise_from-head e (f ∷ es) rise = (let first : e.0 < f.0 = rise 0 (omega arith) in omega (arith, first), rise_from-head f es (rise-tail e (f ∷ es) rise))

  rise_from : (es : List (ℕ × E)) → PlacesRise es → RiseFrom 0 es
  rise_from [] rise = tt
  rise_from (e ∷ es) rise = (omega arith, rise_from-head e es rise)

  rise-from_rise_from : (n : ℕ) (es : List (ℕ × E)) → RiseFrom n es → PlacesRise es
  rise-from_rise_from n [] from k within = absurd (omega (arith, within))
  rise-from_rise_from n (e ∷ []) from k within = absurd (omega (arith, within))
  rise-from_rise_from n (e ∷ f ∷ es) from zero within = let first = from.1.0 in omega (arith, first)
  rise-from_rise_from n (e ∷ f ∷ es) from (suc k) within =
      let next : suc (k + 1) ≡ suc k + 1 = omega arith in
      subst (λ m. slice_index (map (λ (x : ℕ × E). x.0) (e ∷ f ∷ es)) (suc k) < slice_index (map (λ (x : ℕ × E). x.0) (e ∷ f ∷ es)) m) next (rise-from_rise_from (suc e.0) (f ∷ es) from.1 k (omega (arith, within)))

  rise_from-weaker : (n m : ℕ) (es : List (ℕ × E)) → n ≤ m → RiseFrom m es → RiseFrom n es
  rise_from-weaker n m [] low from = tt
  rise_from-weaker n m (e ∷ es) low from = (let first = from.0 in omega (arith, low, first), from.1)

  rise_from-numbered : (n : ℕ) (xs : List E) → RiseFrom n (enumerate_from n xs)
  rise_from-numbered n [] = tt
  rise_from-numbered n (x ∷ xs) = (omega arith, rise_from-weaker (suc n) (n + 1) (enumerate_from (n + 1) xs) (omega arith) (rise_from-numbered (n + 1) xs))

  rise_from-append : (n m : ℕ) (es fs : List (ℕ × E)) → n ≤ m → All (λ e. e.0 < m) es → RiseFrom n es → RiseFrom m fs → RiseFrom n (es ++ fs)
  rise_from-append n m [] fs low below from more = rise_from-weaker n m fs low more
  rise_from-append n m (e ∷ es) fs low below from more =
      let here = All-head (λ e. e.0 < m) e es below in
      (from.0, rise_from-append (suc e.0) m es fs (omega (arith, here)) (All-tail (λ e. e.0 < m) e es below) from.1 more)

  pub turns_keep_places_rising : (found left : List E) (old new : Holding E) → TakesTurn found left old new → PlacesRise old.entries → PlacesRise new.entries
  turns_keep_places_rising found left old new turn rise =
      subst (λ h. PlacesRise h.entries) (sym turn.gets)
      (rise-from_rise_from 0 (old.entries ++ enumerate_from (length found) turn.appended)
      (rise_from-append 0 (length found) old.entries (enumerate_from (length found) turn.appended) (omega arith) turn.above (rise_from old.entries rise) (rise_from-numbered (length found) turn.appended)))

  some_same : {a b : E} → Some a ≡ Some b → a ≡ b
  some_same same = cc

  -- rising places from n on: none is below n
  count_at-rising : (n place : ℕ) (es : List (ℕ × E)) → RiseFrom n es → place < n → count_at place es ≡ 0
  count_at-rising n place [] from below = refl
  count_at-rising n place (e ∷ es) from below =
      let first = from.0 in
      let rest = count_at-rising (suc e.0) place es from.1 (omega (arith, first, below)) in
      let here = count_at-cons place e es in grind (arith, nat_tests, rest, here, first, below)

  -- entries that are not of the kind are not at a place of the kind
  count_at-lacking : (kind : E → Bool) (list : List E) (place : ℕ) (x : E) → slice_get list place ≡ Some x → kind x ≡ true → (es : List (ℕ × E)) → AreAtPlaces list es → LacksKind kind es → count_at place es ≡ 0
  count_at-lacking kind list place x at is [] placed lacks = refl
  count_at-lacking kind list place x at is (e ∷ es) placed lacks =
      let rest = count_at-lacking kind list place x at is es (All-tail (IsAtPlace list) e es placed) (All-tail (λ e. kind e.1 ≡ false) e es lacks) in
      let here = count_at-cons place e es in
      dite (ℕ_discrete e.0 place)
      (λ same. absurd (differ e.1 (some_same (sym (All-head (IsAtPlace list) e es placed) ∙ ap (slice_get list) same ∙ at)) (All-head (λ e. kind e.1 ≡ false) e es lacks)))
      (λ apart. grind (arith, nat_tests, rest, here, apart))
    where
      differ : (a : E) → a ≡ x → kind a ≡ false → ⊥
      differ a same not = let k = ap kind same in cc

  -- The list from the place n on: the entries are at their places, and each place of the kind has an entry.
  abbrev PlacedFrom : List E → ℕ → List (ℕ × E) → Type 0
  PlacedFrom list n [] = Unit {0}
  PlacedFrom list n (e ∷ es) = (slice_get list (e.0 - n) ≡ Some e.1) × PlacedFrom list n es

  abbrev Covers : (E → Bool) → List E → ℕ → List (ℕ × E) → Type 0
  Covers kind list n es = (k : ℕ) (x : E) → slice_get list k ≡ Some x → kind x ≡ true → 0 < count_at (n + k) es

  placed_from-next : (x : E) (xs : List E) (n : ℕ) (es : List (ℕ × E)) (m : ℕ) → suc n ≤ m → RiseFrom m es → PlacedFrom (x ∷ xs) n es → PlacedFrom xs (suc n) es
  placed_from-next x xs n [] m low from placed = tt
  placed_from-next x xs n (e ∷ es) m low from placed =
      let first = from.0 in
      let apart : e.0 - n ≡ suc (e.0 - suc n) = omega (arith, first, low) in
      (sym (ap (slice_get (x ∷ xs)) apart) ∙ placed.0, placed_from-next x xs n es (suc e.0) (omega (arith, first, low)) from.1 placed.1)

  placed_from-start : (list : List E) (es : List (ℕ × E)) → AreAtPlaces list es → PlacedFrom list 0 es
  placed_from-start list [] placed = tt
  placed_from-start list (e ∷ es) placed =
      let same : e.0 - 0 ≡ e.0 = omega arith in
      (ap (slice_get list) same ∙ All-head (IsAtPlace list) e es placed, placed_from-start list es (All-tail (IsAtPlace list) e es placed))

  filter-skip : (kind : E → Bool) (x : E) (xs : List E) (b : Bool) → kind x ≡ b → (b ≡ true → ⊥) → filter kind (x ∷ xs) ≡ filter kind xs
  filter-skip kind x xs true is none = absurd (none refl)
  filter-skip kind x xs false is none = ap (λ b. cond b (x ∷ filter kind xs) (filter kind xs)) is

  ordered_at : (kind : E → Bool) (x : E) (xs : List E) (n : ℕ) (e : ℕ × E) (es : List (ℕ × E)) → ((fs : List (ℕ × E)) → Covers kind xs (suc n) fs → PlacedFrom xs (suc n) fs → RiseFrom (suc n) fs → filter kind xs ≡ filter kind (map (λ f. f.1) fs)) → Covers kind (x ∷ xs) n (e ∷ es) → PlacedFrom (x ∷ xs) n (e ∷ es) → RiseFrom n (e ∷ es) → Dec (e.0 ≡ n) → filter kind (x ∷ xs) ≡ filter kind (map (λ f. f.1) (e ∷ es))
  ordered_at kind x xs n e es go covers placed from (yes same) =
      let none : e.0 - n ≡ 0 = omega (arith, same) in
      let here : x ≡ e.1 = some_same (ap (slice_get (x ∷ xs)) (sym none) ∙ placed.0) in
      let up : RiseFrom (suc n) es = subst (λ m. RiseFrom (suc m) es) same from.1 in
      let rest =
      go es
      (λ k y at is.
      let some = covers (suc k) y at is in
      let further = count_at-cons (n + suc k) e es in
      let same_place : n + suc k ≡ suc n + k = omega arith in
      subst (λ m. 0 < count_at m es) same_place (grind (arith, nat_tests, some, further, same)))
      (placed_from-next x xs n es (suc n) (omega arith) up placed.1) up in
      (λ i. cond (kind (here i)) (here i ∷ rest i) (rest i))
  ordered_at kind x xs n e es go covers placed from (no apart) =
      let first = from.0 in
      let up : RiseFrom (suc n) (e ∷ es) = (omega (arith, first, apart), from.1) in
      let none = count_at-rising (suc n) n (e ∷ es) up (omega arith) in
      filter-skip kind x xs (kind x) refl (λ is. let some = covers 0 x refl is in let same : n + 0 ≡ n = omega arith in let count = ap (λ m. count_at m (e ∷ es)) same in omega (arith, some, count, none))
      ∙ go (e ∷ es)
      (λ k y at is. let some = covers (suc k) y at is in let same : n + suc k ≡ suc n + k = omega arith in subst (λ m. 0 < count_at m (e ∷ es)) same some)
      (placed_from-next x xs n (e ∷ es) (suc n) (omega arith) up placed) up

  ordered_from : (kind : E → Bool) (list : List E) (n : ℕ) (es : List (ℕ × E)) → Covers kind list n es → PlacedFrom list n es → RiseFrom n es → filter kind list ≡ filter kind (map (λ f. f.1) es)
  ordered_from kind [] n [] covers placed from = refl
  ordered_from kind [] n (e ∷ es) covers placed from = absurd (let at = placed.0 in cc)
  ordered_from kind (x ∷ xs) n [] covers placed from =
      filter-skip kind x xs (kind x) refl (λ is. let some : 0 < 0 = covers 0 x refl is in omega (arith, some))
      ∙ ordered_from kind xs (suc n) [] (λ k y at is. let some : 0 < 0 = covers (suc k) y at is in absurd (omega (arith, some))) tt tt
  ordered_from kind (x ∷ xs) n (e ∷ es) covers placed from = ordered_at kind x xs n e es (ordered_from kind xs (suc n)) covers placed from (ℕ_discrete e.0 n)

  placed-parts : (list : List E) (es fs : List (ℕ × E)) → AreAtPlaces list (es ++ fs) → AreAtPlaces list es × AreAtPlaces list fs
  placed-parts list [] fs placed = (All-nil (IsAtPlace list), placed)
  placed-parts list (e ∷ es) fs placed =
      let rest = placed-parts list es fs (All-tail (IsAtPlace list) e (es ++ fs) placed) in
      (All-cons (IsAtPlace list) e es (All-head (IsAtPlace list) e (es ++ fs) placed) rest.0, rest.1)

  pub one_seats_kind_keeps_its_order : (kind : E → Bool) (list : List E) (front own back : List (ℕ × E)) → IsWhole list (front ++ own ++ back) → LacksKind kind front → LacksKind kind back → PlacesRise own → filter kind list ≡ filter kind (map (λ e. e.1) own)
  one_seats_kind_keeps_its_order kind list front own back whole before behind rise =
      let split = placed-parts list (front ++ own) back whole.placed in
      let parts = placed-parts list front own split.0 in
      ordered_from kind list 0 own
      (λ k x at is.
      let in_front = count_at-lacking kind list k x at is front parts.0 before in
      let in_back = count_at-lacking kind list k x at is back split.1 behind in
      let all = whole.once k (slice_get_within list k x at) in
      let sum = count_at-append k (front ++ own) back in
      let rest = count_at-append k front own in
      let same : k ≡ 0 + k = omega arith in
      subst (λ m. 0 < count_at m own) same (omega (arith, in_front, in_back, all, sum, rest)))
      (placed_from-start list own parts.1)
      (rise_from own rise)

  pub appended_after_close_is_one_seats : (list more : List E) (front own back : List (ℕ × E)) → IsWhole list (front ++ own ++ back) → IsWhole (list ++ more) (front ++ (own ++ enumerate_from (length list) more) ++ back)
  appended_after_close_is_one_seats list more front own back whole =
      let split = placed-parts list (front ++ own) back whole.placed in
      let parts = placed-parts list front own split.0 in
      let added = enumerate_from (length list) more in
      let now = list ++ more in record {
        placed = All-append (IsAtPlace now) (front ++ (own ++ added)) back
            (All-append (IsAtPlace now) front (own ++ added) (placed-longer list more front parts.0)
            (All-append (IsAtPlace now) own added (placed-longer list more own parts.1) (placed-appended list more)))
            (placed-longer list more back split.1);
        once = λ place within.
            let long = length-append list more in
            let a = count_at-append place (front ++ own) back in
            let b = count_at-append place front own in
            let c = count_at-append place (front ++ (own ++ added)) back in
            let d = count_at-append place front (own ++ added) in
            let e = count_at-append place own added in
            dite (dec_le (length list) place)
            (λ past.
            let f = count_at-outside list (front ++ own ++ back) place whole.placed past in
            let g = count_at-within place (length list) more past (omega (arith, within, long)) in omega (arith, a, b, c, d, e, f, g))
            (λ not_past.
            let f = whole.once place (omega (arith, not_past)) in
            let g = count_at-below place (length list) more (omega (arith, not_past)) in omega (arith, a, b, c, d, e, f, g));
      }

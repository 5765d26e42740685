-- Each step keeps the rule.
use Rattle.std.proofs.Common.{◌≡◌, ◌≢◌, ℕ, zero, suc, ◌+◌, ◌<◌, ◌≤◌, ◌==◌, List, [], ◌∷◌, ◌++◌, length, set, drop, true, Some, None, refl, sym, ap, ◌∙◌, subst, ⊎_elim, arith, length-append, append-nil}
use Rattle.std.specs.Prelude.{slice_index, sum_by, unwrap_or}
use Rattle.std.specs.List.{enumerate_from}
use prog.Atomic.{either}
use Rattle.std.proofs.lemmas.Bool.Decides.{nat_tests}
use Rattle.std.proofs.lemmas.List.Sums.{sum_by_push}
use Rattle.std.proofs.lemmas.List.Elements.{All-nil, All-cons, All-append}
use mathlib.Core.Option.{some, some-ne-none, some-injective}
use mathlib.Core.Logic.{dite}
use native.Mathlib.Decide.{dec_le}
use lib.ListN.{get_elem?}
use Rattle.atomic_table.specs.Table.{Me, keeps, step, Allows, Splits, Joins, opening}
use Rattle.atomic_table.proofs.Lists.{at_set, at_snoc, set_again}
use Rattle.jd_desk.specs.declared.rule.View.{View}
use Rattle.jd_desk.specs.declared.rule.TheConstants.{SHARES}
use Rattle.jd_desk.specs.declared.seat.Holding.{Holding}
use Rattle.jd_desk.specs.Holding.{only_shares, both_held, IsPrefix, IsAtPlace, AreAtPlaces, count_at, IsWhole, FitsList}
use Rattle.jd_desk.specs.Views.{seat_view, first_view, emptied, without_list, less_one, one_share, joined, spent, grown, Fits, Kept, Looks, Adds}
use Rattle.jd_desk.proofs.Lists.{sum_by-set_at, sum_by-zeros, sum_by-only, count_at-append, count_at-below, count_at-within, count_at-outside, placed-longer, placed-appended, drop-front, prefixes-longer}

module _ {E : Type 0} where
  no_list : (xs : List E) → None ≡ Some xs → ⊥
  no_list xs is = cc

  -- shares alone are true of every list
  bare_fits : (list : List E) (n : ℕ) → FitsList list (only_shares n)
  bare_fits list n = record { entries = All-nil _; seen = All-nil _ }

  -- what is held stays true of the list as it grows
  pub fits-longer : (list more : List E) (held : Holding E) → FitsList list held → FitsList (list ++ more) held
  fits-longer list more held fits = record { entries = placed-longer list more held.entries fits.entries; seen = prefixes-longer list more held.seen fits.seen }

  fits-both : (list : List E) (a b : Holding E) → FitsList list a → FitsList list b → FitsList list (both_held a b)
  fits-both list a b one two = record { entries = All-append (IsAtPlace list) a.entries b.entries one.entries two.entries; seen = All-append (λ xs. IsPrefix xs list) a.seen b.seen one.seen two.seen }

  -- a view with no list
  fits-seat_view : (book : ℕ) (list : List E) (held : Holding E) → FitsList list held → (held.shares ≡ 0 → held.entries ≡ []) → (id : ℕ) → Fits book list id (seat_view held)
  fits-seat_view book list held fits idle id = record { has_list = λ xs is. absurd (no_list xs is); held = fits; idle = idle }

  -- the views after one has changed
  fits-set : (book : ℕ) (now : List E) (vs : List (View E)) (id : ℕ) (w : View E) → ((j : ℕ) (u : View E) → j ≢ id → get_elem? vs j ≡ some u → Fits book now j u) → Fits book now id w → (j : ℕ) (u : View E) → get_elem? (set vs id w) j ≡ some u → Fits book now j u
  fits-set book now vs id w others changed j u at =
      ⊎_elim
      (λ (x : (j ≡ id) × (w ≡ u)). subst (λ (y : ℕ × View E). Fits book now y.0 y.1) (λ i. (sym x.0 i, x.1 i)) changed)
      (λ (x : (j ≢ id) × (get_elem? vs j ≡ some u)). others j u x.0 x.1)
      (at_set vs id j w u at)

  -- the views with one more
  fits-push : (book : ℕ) (list : List E) (vs : List (View E)) (w : View E) → ((j : ℕ) (u : View E) → get_elem? vs j ≡ some u → Fits book list j u) → ((j : ℕ) → Fits book list j w) → (j : ℕ) (u : View E) → get_elem? (vs ++ w ∷ []) j ≡ some u → Fits book list j u
  fits-push book list vs w others new j u at =
      ⊎_elim
      (λ was. others j u was)
      (λ (same : w ≡ u). subst (Fits book list j) same (new j))
      (at_snoc vs w u j at)

  -- where a view is cut in two, a number of both is that of the view, so a sum over all views stays
  sum_by-cut : (f : View E → ℕ) (vs : List (View E)) (id : ℕ) (v left right : View E) → get_elem? vs id ≡ some v → f left + f right ≡ f v → sum_by f (set vs id left ++ right ∷ []) ≡ sum_by f vs
  sum_by-cut f vs id v left right at cut =
      let a = sum_by-set_at f vs id v left at in
      let b = sum_by_push f (set vs id left) right in omega (arith, a, b, cut)

  -- where two views are joined
  sum_by-joined : (f : View E → ℕ) (vs : List (View E)) (id : ℕ) (v : View E) (other : ℕ) (w both gone : View E) → get_elem? vs id ≡ some v → get_elem? (set vs id both) other ≡ some w → f both + f gone ≡ f v + f w → sum_by f (set (set vs id both) other gone) ≡ sum_by f vs
  sum_by-joined f vs id v other w both gone at there same =
      let a = sum_by-set_at f vs id v both at in
      let b = sum_by-set_at f (set vs id both) other w gone there in omega (arith, a, b, same)

module _ {E S : Type 0} where
  pub begins : Kept (opening {S = S} (0 ∷ []) [] (first_view {E = E}))
  begins = record {
    book = 0;
    list = [];
    words = refl;
    shares = refl;
    once = λ place within. absurd (omega (arith, within));
    fits = one;
  }
    where
      one : (id : ℕ) (v : View E) → get_elem? (first_view {E = E} ∷ []) id ≡ some v → Fits 0 [] id v
      one zero v at = subst (Fits 0 [] 0) (some-injective _ _ at) (record { has_list = λ xs is. (refl, sym (some_is xs is)); held = bare_fits [] SHARES; idle = λ _. refl })
        where
          some_is : (xs : List E) → Some [] ≡ Some xs → [] ≡ xs
          some_is xs is = cc
      one (suc id) v at = absurd (some-ne-none v (sym at))

  pub splits_all : (id : ℕ) (v : View E) → Splits {S = S} Kept id v (emptied v) (without_list v)
  splits_all id v s kept at =
      let mine = kept.fits id v at in record {
        book = kept.book;
        list = kept.list;
        words = kept.words;
        shares = sum_by-cut (λ u. u.held.shares) s.views id v (emptied v) (without_list v) at (omega arith) ∙ kept.shares;
        once = λ place within. sum_by-cut (λ u. count_at place u.held.entries) s.views id v (emptied v) (without_list v) at (omega arith) ∙ kept.once place within;
        fits = fits-push kept.book kept.list (set s.views id (emptied v)) (without_list v)
            (fits-set kept.book kept.list s.views id (emptied v) (λ j u _ there. kept.fits j u there) (record { has_list = mine.has_list; held = bare_fits kept.list 0; idle = λ _. refl }))
            (fits-seat_view kept.book kept.list v.held mine.held mine.idle);
      }

  pub splits_share : (id : ℕ) (v : View E) → 2 ≤ v.held.shares → Splits {S = S} Kept id v (less_one v) one_share
  splits_share id v two s kept at =
      let mine = kept.fits id v at in record {
        book = kept.book;
        list = kept.list;
        words = kept.words;
        shares = sum_by-cut (λ u. u.held.shares) s.views id v (less_one v) one_share at (omega arith) ∙ kept.shares;
        once = λ place within. sum_by-cut (λ u. count_at place u.held.entries) s.views id v (less_one v) one_share at (omega arith) ∙ kept.once place within;
        fits = fits-push kept.book kept.list (set s.views id (less_one v)) one_share
            (fits-set kept.book kept.list s.views id (less_one v) (λ j u _ there. kept.fits j u there)
            (record { has_list = mine.has_list; held = record { entries = mine.held.entries; seen = mine.held.seen }; idle = λ none. absurd (omega arith) }))
            (fits-seat_view kept.book kept.list (only_shares 1) (bare_fits kept.list 1) (λ _. refl));
      }

  pub joins_all : (id : ℕ) (v : View E) (other : ℕ) (w : View E) → Joins {S = S} Kept id v other w (joined v w) spent
  joins_all id v other w s kept at apart there =
      let mine = kept.fits id v at in
      let both = joined v w in
      let theirs : Fits kept.book kept.list other w =
      ⊎_elim
      (λ (x : (other ≡ id) × (both ≡ w)). absurd (apart x.0))
      (λ (x : (other ≢ id) × (get_elem? s.views other ≡ some w)). kept.fits other w x.1)
      (at_set s.views id other both w there) in record {
        book = kept.book;
        list = kept.list;
        words = kept.words;
        shares = sum_by-joined (λ u. u.held.shares) s.views id v other w both spent at there (omega arith) ∙ kept.shares;
        once = λ place within. sum_by-joined (λ u. count_at place u.held.entries) s.views id v other w both spent at there (let both_count = count_at-append place v.held.entries w.held.entries in omega (arith, both_count)) ∙ kept.once place within;
        fits = fits-set kept.book kept.list (set s.views id both) other spent
            (λ j u _ here. fits-set kept.book kept.list s.views id both (λ i y _ e. kept.fits i y e)
            (record {
              has_list = mine.has_list;
              held = fits-both kept.list v.held w.held mine.held theirs.held;
              idle = λ (none : v.held.shares + w.held.shares ≡ 0). rw (mine.idle (omega arith), theirs.idle (omega arith)) refl;
            }) j u here)
            (fits-seat_view kept.book kept.list (only_shares 0) (bare_fits kept.list 0) (λ _. refl) other);
      }

  pub looks : (slots id : ℕ) (me : Me S (View E)) → Allows Kept slots id me 0 (λ n. n) (λ found after. Looks me after)
  looks slots id me s kept _ at _ =
      let mine = kept.fits id me.0 at in
      let views_are = set_again s.views id me.0 at in (
        me.0,
        keeps,
        tt,
        record {
          book = kept.book;
          list = kept.list;
          words = rw kept.words refl;
          shares = ap (sum_by (λ u. u.held.shares)) views_are ∙ kept.shares;
          once = λ place within. ap (sum_by (λ u. count_at place u.held.entries)) views_are ∙ kept.once place within;
          fits = fits-set kept.book kept.list s.views id me.0 (λ j u _ there. kept.fits j u there) mine;
        },
        record {
          same = refl;
          fits = λ xs has. subst (λ l. FitsList l me.0.held) (sym ((mine.has_list xs has).1)) mine.held;
          whole = λ xs has all. subst (λ l. IsWhole l me.0.held.entries) (sym ((mine.has_list xs has).1)) (record {
            placed = mine.held.entries;
            once = λ place within.
                sym (sum_by-only (λ u. u.held.shares) (λ u. count_at place u.held.entries) s.views id me.0 at (kept.shares ∙ sym all) (λ j u there none. ap (count_at place) ((kept.fits j u there).idle none)))
                ∙ kept.once place within;
          });
        },
      )

  pub adds : (slots id old new : ℕ) (me : Me S (View E)) (log_of : S → List E) (y : S) (xs : List E) → me.0.list ≡ Some xs → 0 < me.0.held.shares → old ≡ length xs → new ≡ length (log_of y) → IsPrefix xs (log_of y)
      → Allows Kept slots id me 0 (λ n. either (n == old) new n) (λ found after. Adds log_of (step slots 0 old new (some y)) me after)
  adds slots id old new me log_of y xs has some_share is_old is_new more s kept _ at _ =
      let mine = kept.fits id me.0 at in
      let known = mine.has_list xs has in
      let w = grown me.0 (log_of y) in
      let now = kept.list ++ more.0 in
      let added = enumerate_from (length kept.list) more.0 in
      let is_now : log_of y ≡ now = more.1 ∙ ap (λ l. l ++ more.0) known.1 in
      let had : unwrap_or me.0.list [] ≡ kept.list = ap (λ o. unwrap_or o []) has ∙ known.1 in
      let dropped : drop (length (unwrap_or me.0.list [])) (log_of y) ≡ more.0 = ap (λ l. drop (length l) (log_of y)) had ∙ ap (drop (length kept.list)) is_now ∙ drop-front kept.list more.0 in
      let made : w.held.entries ≡ me.0.held.entries ++ added = (λ i. me.0.held.entries ++ enumerate_from (length (had i)) (dropped i)) in
      let here : slice_index s.words 0 ≡ old = ap (λ l. slice_index l 0) kept.words ∙ ap length (sym known.1) ∙ sym is_old in
      let hit : (slice_index s.words 0 == old) ≡ true = grind (arith, nat_tests) in
      let long : length now ≡ length kept.list + length more.0 = length-append kept.list more.0 in (
        w,
        keeps,
        tt,
        record {
          book = kept.book;
          list = now;
          words = rw hit (ap (λ l. set l 0 new) kept.words ∙ ap (λ n. n ∷ []) (is_new ∙ ap length is_now));
          shares = let a = sum_by-set_at (λ u. u.held.shares) s.views id me.0 w at in let b = kept.shares in omega (arith, a, b);
          once = λ place within.
              let a = sum_by-set_at (λ u. count_at place u.held.entries) s.views id me.0 w at in
              let b = ap (count_at place) made in
              let c = count_at-append place me.0.held.entries added in
              dite (dec_le (length kept.list) place)
              (λ behind.
              let d = sum_by-zeros (λ u. count_at place u.held.entries) s.views (λ j u there. count_at-outside kept.list u.held.entries place ((kept.fits j u there).held.entries) behind) in
              let e = count_at-within place (length kept.list) more.0 behind (omega (arith, within, long)) in omega (arith, a, b, c, d, e))
              (λ before.
              let d = kept.once place (omega (arith, before)) in
              let e = count_at-below place (length kept.list) more.0 (omega (arith, before)) in omega (arith, a, b, c, d, e));
          fits = fits-set kept.book now s.views id w
              (λ j u apart there. let f = kept.fits j u there in record {
                has_list = λ ys is. absurd (apart ((f.has_list ys is).0 ∙ sym known.0));
                held = fits-longer kept.list more.0 u.held f.held;
                idle = f.idle;
              })
              (record {
                has_list = λ ys is. (known.0, sym (some_is (log_of y) ys is) ∙ is_now);
                held = record {
                  entries = subst (AreAtPlaces now) (sym made) (All-append (IsAtPlace now) me.0.held.entries added (placed-longer kept.list more.0 me.0.held.entries mine.held.entries) (placed-appended kept.list more.0));
                  seen = All-append (λ xs. IsPrefix xs now) me.0.held.seen (log_of y ∷ []) (prefixes-longer kept.list more.0 me.0.held.seen mine.held.seen) (All-cons (λ xs. IsPrefix xs now) (log_of y) [] ([], sym is_now ∙ sym (append-nil (log_of y))) (All-nil _));
                };
                idle = λ none. absurd (omega arith);
              });
        },
        refl,
      )
    where
      some_is : (l m : List E) → Some l ≡ Some m → l ≡ m
      some_is l m is = cc

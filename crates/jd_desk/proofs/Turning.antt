-- What becomes of the book's view and of a seat's in one turn.
use Rattle.std.proofs.Common.{◌≡◌, ℕ, List, [], ◌∷◌, ◌++◌, length, drop, ap, ◌∙◌, subst, sym, arith}
use Rattle.std.specs.List.{enumerate_from}
use Rattle.atomic_table.specs.Table.{Me}
use Rattle.jd_desk.specs.declared.rule.View.{View}
use Rattle.jd_desk.specs.declared.seat.Holding.{Holding}
use Rattle.jd_desk.specs.Holding.{IsPrefix, FitsList, TakesTurn}
use Rattle.jd_desk.specs.Views.{list_view, book_view, without_list, joined, grown, Looks}
use Rattle.jd_desk.proofs.Lists.{drop-front, placed-below}

module _ {E S : Type 0} where
  -- the book holds what the seat held
  pub book_holds : (book seat after : Me S (View E)) (list : List E) (v : View E) → book ≡ (book_view list, []) → seat ≡ (without_list v, []) → after ≡ (joined book.0 seat.0, book.1) → after ≡ (list_view v.held list, [])
  book_holds book seat after list v book_is seat_is after_is =
      after_is ∙ (λ i. (joined (book_is i).0 (seat_is i).0, (book_is i).1))
      ∙ ap (λ (n : ℕ). (list_view (record { shares = n; entries = v.held.entries; seen = v.held.seen }) list, [])) (omega arith)

  -- a look at the book tells that what it holds is true of the list
  pub book_fits : (before after : Me S (View E)) (held : Holding E) (list : List E) → before ≡ (list_view held list, []) → Looks before after → FitsList list held
  book_fits before after held list is look = subst (λ m. FitsList list m.0.held) is (look.fits list (ap (λ m. m.0.list) is))

  -- the seat that leaves the book again has taken a turn
  pub takes_turn : (book added seat : Me S (View E)) (held : Holding E) (found left : List E) → book ≡ (list_view held found, []) → added ≡ (grown book.0 left, book.1) → seat ≡ (without_list added.0, []) → FitsList found held → IsPrefix found left → TakesTurn found left held seat.0.held
  takes_turn book added seat held found left book_is added_is seat_is fits more = record {
    appended = more.0;
    grows = more.1;
    fits = fits;
    above = placed-below found held.entries fits.entries;
    gets =
        ap (λ m. m.0.held) seat_is
        ∙ ap (λ m. m.0.held) (added_is ∙ ap (λ (m : Me S (View E)). (grown m.0 left, m.1)) book_is)
        ∙ ap
        (λ l. record { shares = held.shares; entries = held.entries ++ enumerate_from (length found) l; seen = held.seen ++ left ∷ [] })
        (ap (drop (length found)) more.1 ∙ drop-front found more.0);
  }

-- the call may use what the seat holds, and leaves a list that begins with the list that it found
pub leaves_more : {E T : Type 0} (log : T → List E) (inside outside left : T) (held old : Holding E) → inside ≡ outside → held ≡ old → FitsList (log inside) held → (FitsList (log outside) old → IsPrefix (log outside) (log left)) → IsPrefix (log inside) (log left)
leaves_more log inside outside left held old value_is held_is fits grows =
    let now : FitsList (log outside) old = subst (λ h. FitsList (log outside) h) held_is (subst (λ x. FitsList (log x) held) value_is fits) in
    subst (λ x. IsPrefix (log x) (log left)) (sym value_is) (grows now)

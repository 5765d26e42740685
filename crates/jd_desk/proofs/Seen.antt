-- Facts of lists that seats saw, carried through joins to the final list.
use Rattle.std.proofs.Common.{◌+◌, List, ◌++◌, length, ◌∙◌, subst, arith, length-append}
use Rattle.std.specs.Prelude.{All, Any}
use Rattle.std.proofs.lemmas.List.{get_or_append_left, get_or-append-add}
use Rattle.jd_desk.specs.Holding.{IsPrefix}

pub Any-append_left : {X : Type 0} (P : X → Type 0) (xs ys : List X) → Any P xs → Any P (xs ++ ys)
Any-append_left P xs ys (k, x, within, at, fact) = (k, x, omega (arith, within, length-append xs ys), get_or_append_left xs ys x k within ∙ at, fact)

pub Any-append_right : {X : Type 0} (P : X → Type 0) (xs ys : List X) → Any P ys → Any P (xs ++ ys)
Any-append_right P xs ys (k, x, within, at, fact) = (length xs + k, x, omega (arith, within, length-append xs ys), get_or-append-add xs ys k x ∙ at, fact)

-- what is true of a list that was seen is true of a beginning of the list
pub beginning-from_seen : {E : Type 0} (P : List E → Type 0) (list : List E) (seen : List (List E)) → All (λ xs. IsPrefix xs list) seen → Any P seen → (xs : List E) × IsPrefix xs list × P xs
beginning-from_seen P list seen prefixes (k, x, within, at, fact) = (x, subst (λ xs. IsPrefix xs list) at (prefixes k x within), fact)

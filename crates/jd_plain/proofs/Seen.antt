-- What stands among the first elements of a list.
use Rattle.std.proofs.Common.{◌≡◌, ℕ, ◌+◌, ◌<◌, Bool, true, false, ◌||◌, List, Option, None, Some, take, length, get_or, refl, ap, ◌∙◌, sym, arith, [], ◌∷◌}
use Rattle.std.specs.List.{list_any, slice_get}
use Rattle.std.proofs.lemmas.List.Folds.{list_any_more}
use Rattle.std.proofs.lemmas.Option.{slice_get-get_or}
use Rattle.jd_value.specs.declared.reference.RefId.{RefId}
use Rattle.jd_expr.specs.declared.variable.Variable.{Variable}
use Rattle.jd_model.specs.Machine.{in_variables, mentions}
use Rattle.jd_plain.specs.Occurs.{in_variable}

pub or_assoc : (a b c : Bool) → ((a || b) || c) ≡ (a || (b || c))
or_assoc true b c = refl
or_assoc false b c = refl

pub or_false : (a : Bool) → (a || false) ≡ a
or_false true = refl
or_false false = refl

pub in_variables_more : (vars : List Variable) (i : ℕ) (r : RefId) → i < length vars
    → in_variables (take (i + 1) vars) r ≡ (in_variables (take i vars) r || in_variable (slice_get vars i) r)
in_variables_more [] i r h = absurd (omega arith)
in_variables_more (v ∷ vs) i r h =
    list_any_more (λ x. mentions x.value r) (v ∷ vs) i v h ∙ ap (λ o. in_variables (take i (v ∷ vs)) r || in_variable o r) (sym (slice_get-get_or (v ∷ vs) i v h))

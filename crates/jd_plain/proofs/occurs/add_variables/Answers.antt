use Rattle.std.proofs.Common.{◌||◌, ◌<◌, length, take, ap, sym, ◌∙◌, arith}
use Rattle.std.specs.List.{slice_get}
use Rattle.jd_model.specs.Machine.{in_variables}
use Rattle.jd_plain.specs.Occurs.{is_in, in_variable}
use Rattle.jd_plain.proofs.Seen.{or_assoc, in_variables_more}
use Rattle.jd_plain.proofs.occurs.add_variables.Goals as goal

pub loop-place-preserved : goal.loop-place-preserved
loop-place-preserved c =
    let vars = c.args.variables.now in let i = c.loop-place.place in
    let within : i < length vars = omega arith in
    λ r. c.in_ok-add_variable.ensures r ∙ ap (λ b. b || in_variable (slice_get vars i) r) (c.loop-place.invariant r) ∙ or_assoc (is_in c.args.found.now r) (in_variables (take i vars) r) (in_variable (slice_get vars i) r)
    ∙ ap (λ b. is_in c.args.found.now r || b) (sym (in_variables_more vars i r within))

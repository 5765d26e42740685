use Rattle.std.proofs.Common.{◌≡◌, ap, subst, sym, ◌∙◌, true, false, List}
use Rattle.jd_value.specs.Span.{span_length}
use Rattle.jd_value.specs.declared.value.Value.{Value}
use Rattle.jd_expr.specs.Action.{Gives, Ran}
use Rattle.jd_expr.specs.Collections.{list_made}
use Rattle.jd_expr.specs.Indexing.{is_within}
use Rattle.jd_expr.proofs.Sliced.{part_inside, part_outside}
use Rattle.jd_expr.proofs.indexing.numbers_made.Goals as goal

pub returns-then-not-is_within : goal.returns-then-not-is_within
returns-then-not-is_within c =
    let outside : is_within c.args.part.now (span_length c.args.span.now) ≡ false = cc in
    part_outside c.args.part.now c.args.span.now c.args.budget.now outside

pub returns : goal.returns
returns c =
    let inside : is_within c.args.part.now (span_length c.args.span.now) ≡ true = cc in
    subst (λ (ran : Ran _ Value). Gives ran c.span_made.result c.span_made.new.budget)
    (ap (λ (xs : List Value). list_made xs c.args.budget.now) c.span_part.ensures ∙ sym (part_inside c.args.part.now c.args.span.now c.args.budget.now inside))
    c.span_made.ensures

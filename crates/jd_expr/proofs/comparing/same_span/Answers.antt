use Rattle.std.proofs.Common.{sym, ◌∙◌}
use Rattle.std.proofs.lemmas.Bool.{false≢true}
use Rattle.jd_expr.proofs.Passing.{other_span, begins_as}
use Rattle.jd_expr.proofs.comparing.same_span.Goals as goal

pub returns-then-len : goal.returns-then-len
returns-then-len c =
    sym (other_span c.args.span.now c.args.other.now (λ e. c.if-len.true (c.len.ensures ∙ e ∙ sym c.len-2.ensures)))

pub returns-else-is_empty : goal.returns-else-is_empty
returns-else-is_empty c =
    c.same_first.ensures
    ∙ begins_as c.args.span.now c.args.other.now (sym c.len.ensures ∙ c.if-len.false ∙ c.len-2.ensures)
    (λ e. false≢true (c.if-is_empty.ensures.1 e))

use Rattle.std.proofs.Common.{sym, ◌∙◌}
use Rattle.jd_value.specs.Span.{span_items}
use Rattle.jd_expr.proofs.Passing.{passed_numbers}
use Rattle.jd_expr.proofs.comparing.are_numbers.Goals as goal

pub returns : goal.returns
returns c = c.numbers_are.ensures ∙ sym (passed_numbers c.args.items.now (span_items c.args.span.now))

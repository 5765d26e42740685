use Rattle.std.proofs.Common.{Option, sym, ap, subst, ◌∙◌}
use Rattle.jd_grammar.specs.Reader.{Config, Whole, ending_step}
use Rattle.jd_tree.specs.Code.{plain_measured}
use Rattle.jd_precedence.specs.State.{plain_frames}
use Rattle.jd_reader.specs.Reading.{plain_bottom, plain_context, Leads}
use Rattle.jd_reader.proofs.Routes.{outer_closed, inner_closed}
use Rattle.jd_reader.proofs.expressions.end_step.Goals as goal

pub returns-then-none_open : goal.returns-then-none_open
returns-then-none_open c =
    let ctx = plain_context c.args.context in
    subst (λ (x : Option Config). Leads x c.ending_step.result)
    (ap (λ (w : Whole). ending_step c.args.token.kind c.args.token ctx w) c.with_expression.ensures
    ∙ outer_closed c.args.token.kind c.args.token ctx (plain_bottom c.args.bottom) (plain_frames c.args.frames) (plain_measured c.args.operand) (plain_frames c.close_all.new.frames) (plain_measured c.in-Ok.operand)
    c.requires (sym c.none_open.ensures ∙ c.if-none_open.true) c.in-Ok.ensures)
    c.ending_step.ensures

pub returns-else-none_open : goal.returns-else-none_open
returns-else-none_open c = subst (λ (x : Option Config). Leads x c.inner_end.result)
    (inner_closed c.args.token.kind c.args.token (plain_context c.args.context) (plain_bottom c.args.bottom) (plain_frames c.args.frames) (plain_measured c.args.operand) (plain_frames c.close_all.new.frames) (plain_measured c.in-Ok.operand)
    c.requires (sym c.none_open.ensures ∙ c.if-none_open.false) c.in-Ok.ensures)
    c.inner_end.ensures

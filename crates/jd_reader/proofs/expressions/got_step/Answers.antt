use Rattle.std.proofs.Common.{Option, sym, subst, ◌∙◌}
use Rattle.jd_grammar.specs.Reader.{Config}
use Rattle.jd_tree.specs.Code.{plain_measured}
use Rattle.jd_precedence.specs.State.{plain_frames}
use Rattle.jd_reader.specs.Reading.{plain_bottom, plain_context, Leads}
use Rattle.jd_reader.proofs.Routes.{outer_assigns, got_goes}
use Rattle.jd_reader.proofs.expressions.got_step.Goals as goal

pub returns-then-statement_assigns : goal.returns-then-statement_assigns
returns-then-statement_assigns c = subst (λ (x : Option Config). Leads x c.assigning_step.result)
    (outer_assigns c.args.token.kind c.args.token (plain_context c.args.context) (plain_bottom c.args.bottom) (plain_frames c.args.frames) (plain_measured c.args.operand)
    (sym c.statement_assigns.ensures ∙ c.if-statement_assigns.true))
    c.assigning_step.ensures

pub returns-else-statement_assigns : goal.returns-else-statement_assigns
returns-else-statement_assigns c = subst (λ (x : Option Config). Leads x c.inner_step.result)
    (got_goes c.args.token.kind c.args.token (plain_context c.args.context) (plain_bottom c.args.bottom) (plain_frames c.args.frames) (plain_measured c.args.operand)
    (sym c.is_ending.ensures ∙ c.if-is_ending.false) (sym c.statement_assigns.ensures ∙ c.if-statement_assigns.false))
    c.inner_step.ensures

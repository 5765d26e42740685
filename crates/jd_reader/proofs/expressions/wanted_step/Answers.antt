use Rattle.std.proofs.Common.{Option, sym, subst, ◌∙◌}
use Rattle.jd_grammar.specs.Reader.{Config}
use Rattle.jd_precedence.specs.State.{plain_frames}
use Rattle.jd_reader.specs.Reading.{plain_bottom, plain_context, Leads}
use Rattle.jd_reader.proofs.Routes.{outer_begins, wanted_goes}
use Rattle.jd_reader.proofs.expressions.wanted_step.Goals as goal

pub returns-then-statement_begins : goal.returns-then-statement_begins
returns-then-statement_begins c = subst (λ (x : Option Config). Leads x c.first_step.result)
    (outer_begins c.args.token.kind c.args.token (plain_context c.args.context) (plain_bottom c.args.bottom) (plain_frames c.args.frames) (sym c.statement_begins.ensures ∙ c.if-statement_begins.true))
    c.first_step.ensures

pub returns-else-statement_begins : goal.returns-else-statement_begins
returns-else-statement_begins c = subst (λ (x : Option Config). Leads x c.inner_step.result)
    (wanted_goes c.args.token.kind c.args.token (plain_context c.args.context) (plain_bottom c.args.bottom) (plain_frames c.args.frames) (sym c.statement_begins.ensures ∙ c.if-statement_begins.false))
    c.inner_step.ensures

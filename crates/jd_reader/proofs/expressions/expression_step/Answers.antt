use Rattle.std.proofs.Common.{Option, subst}
use Rattle.jd_grammar.specs.Machine.{words_step}
use Rattle.jd_grammar.specs.Reader.{Config}
use Rattle.jd_precedence.specs.State.{plain_frames, plain_words}
use Rattle.jd_reader.specs.Reading.{plain_bottom, plain_context, Leads}
use Rattle.jd_reader.proofs.Routes.{pending_goes}
use Rattle.jd_reader.proofs.expressions.expression_step.Goals as goal

pub returns-in-Pending : goal.returns-in-Pending
returns-in-Pending c = rw c.in-Pending.is (subst (λ (x : Option Config). Leads x c.inner_step.result)
    (pending_goes (words_step (plain_words c.in-Pending.words) c.args.token (plain_frames c.args.frames)) c.args.token.kind c.args.token (plain_context c.args.context) (plain_bottom c.args.bottom) (plain_frames c.args.frames) (plain_words c.in-Pending.words))
    c.inner_step.ensures)

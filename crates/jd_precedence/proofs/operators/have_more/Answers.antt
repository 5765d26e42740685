use Rattle.std.proofs.Common.{Option, sym, subst, ◌∙◌}
use Rattle.jd_grammar.specs.Frames.{State}
use Rattle.jd_tree.specs.Code.{plain_measured}
use Rattle.jd_precedence.specs.State.{plain_frames, Steps}
use Rattle.jd_precedence.proofs.First.{have_such, have_other}
use Rattle.jd_precedence.proofs.operators.have_more.Goals as goal

pub returns-then-goes_on : goal.returns-then-goes_on
returns-then-goes_on c = subst (λ (x : Option State). Steps x c.more.new.frames c.more.result)
    (have_such c.args.token.kind c.args.token (plain_frames c.args.frames.now) (plain_measured c.args.operand) (sym c.goes_on.ensures ∙ c.if-goes_on.true)) c.more.ensures

pub returns-else-goes_on : goal.returns-else-goes_on
returns-else-goes_on c = subst (λ (x : Option State). Steps x c.end.new.frames c.end.result)
    (have_other c.args.token.kind c.args.token (plain_frames c.args.frames.now) (plain_measured c.args.operand) (sym c.goes_on.ensures ∙ c.if-goes_on.false)) c.end.ensures

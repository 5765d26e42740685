use Rattle.std.proofs.Common.{sym, ap, ◌∙◌}
use Rattle.jd_tree.specs.Code.{plain_measured, plain_arguments, plain_bracket}
use Rattle.jd_precedence.specs.Parts.{awaits_type}
use Rattle.jd_precedence.specs.State.{plain_frames}
use Rattle.jd_precedence.proofs.Braces.{brace_is}
use Rattle.jd_precedence.proofs.operators.begin_channel.Goals as goal

pub returns : goal.returns
returns c =
    let l = c.args.listing in
    let fs = plain_frames c.args.frames.now in
    rw (brace_is (record { opens = l.opens; arrow = c.args.lambda.1; brace = c.args.token }) (plain_measured c.args.lambda.0) (plain_bracket l.bracket) (plain_arguments l.most) fs (plain_measured c.args.operand)
    ∙ ap (awaits_type fs) (sym c.channel_at-channel.ensures)) c.awaiting.ensures

use Rattle.std.proofs.Common.{sym, ◌∙◌}
use Rattle.jd_grammar.specs.Grammar.{sign}
use Rattle.jd_precedence.specs.State.{plain_frames}
use Rattle.jd_precedence.proofs.Nested.{operator_needs}
use Rattle.jd_precedence.proofs.depth.words_needs.Goals as goal

pub returns-then-is_in_call : goal.returns-then-is_in_call
returns-then-is_in_call c =
    let fs = plain_frames c.args.frames.now in
    let s = c.in-Operator.sign in
    rw c.in-Operator.is (operator_needs s fs c.depth_from.result (sym c.if-is_in_call.true ∙ c.is_in_call.ensures) (c.depth_from.ensures (sign s) c.sign_profile.ensures))

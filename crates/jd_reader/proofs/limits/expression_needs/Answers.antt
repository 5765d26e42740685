use Rattle.std.proofs.Common.{ap, ◌∙◌}
use Rattle.jd_grammar.specs.ScriptDepth.{mode_needs, has_begun, has_token}
use Rattle.jd_grammar.specs.Reader.{at_expression}
use Rattle.jd_script.specs.CodeScript.{plain_lines}
use Rattle.jd_precedence.specs.State.{state}
use Rattle.jd_reader.specs.Reading.{plain_bottom, plain_outers}
use Rattle.jd_reader.proofs.Rounds.{script_is}
use Rattle.jd_reader.proofs.limits.expression_needs.Goals as goal

pub returns : goal.returns
returns c =
    let k = c.args.context.now in
    let m = at_expression (plain_bottom c.args.bottom.now) (state c.args.frames.now c.args.now.now) in
    script_is (plain_outers k.outer) (plain_lines k.lines) (has_begun m) (mode_needs m) k.lines.nesting c.has_token_in-has_token.result c.bottom_needs-height.result c.round_needs.result
    k.lines.measured (c.has_token_in-has_token.ensures ∙ ap (has_token (plain_lines k.lines)) c.expression_begun-begun.ensures) c.bottom_needs-height.ensures c.round_needs.ensures

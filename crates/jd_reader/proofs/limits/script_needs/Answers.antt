use Rattle.std.proofs.Common.{ap, ◌∙◌}
use Rattle.jd_grammar.specs.ScriptDepth.{mode_needs, has_token}
use Rattle.jd_grammar.specs.ScriptDepth as grammar
use Rattle.jd_script.specs.CodeScript.{plain_lines}
use Rattle.jd_reader.specs.Reading.{plain_mode, plain_outers}
use Rattle.jd_reader.proofs.Rounds.{script_is}
use Rattle.jd_reader.proofs.limits.script_needs.Goals as goal

pub returns : goal.returns
returns c =
    let k = c.args.config.now in
    script_is (plain_outers k.context.outer) (plain_lines k.context.lines) (grammar.has_begun (plain_mode k.mode)) (mode_needs (plain_mode k.mode)) k.context.lines.nesting c.has_token_in-has_token.result c.mode_needs-height.result c.round_needs.result
    k.context.lines.measured (c.has_token_in-has_token.ensures ∙ ap (has_token (plain_lines k.context.lines)) c.has_begun-begun.ensures) c.mode_needs-height.ensures c.round_needs.ensures

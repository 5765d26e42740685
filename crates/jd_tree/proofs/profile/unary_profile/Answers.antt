use Rattle.std.proofs.Common.{◌≡◌, ◌+◌, max, false, ◌&&◌, ap, ◌∙◌, arith}
use Rattle.jd_grammar.specs.Kinds.{is_minus}
use Rattle.jd_grammar.specs.Rows.{begins_tight, is_chain}
use Rattle.jd_grammar.specs.Depth.{height}
use Rattle.jd_grammar.specs.Profile.{profile, row_profile}
use Rattle.jd_tree.specs.Measures.{capped}
use Rattle.jd_tree.proofs.Measuring.{fields, unary_from}
use Rattle.jd_tree.proofs.profile.unary_profile.Goals as goal

pub returns : goal.returns
returns c = λ e h.
    let f = fields c.args.operand e h in
    let b : c.is_negative-chain.result ≡ (is_minus c.args.token.kind && (begins_tight e && is_chain e)) =
    c.is_negative-chain.ensures ∙ ap (λ x. is_minus c.args.token.kind && (x && c.args.operand.chain)) f.tight ∙ ap (λ x. is_minus c.args.token.kind && (begins_tight e && x)) f.chain in
    c.chain_profile.ensures (1 + height e) (max (profile e).row 1) (profile e).count (omega arith) (omega arith) f.atoms
    ∙ ap (λ x. capped (row_profile (1 + height e) false x c.args.operand.long (max (profile e).row 1) (profile e).count)) b
    ∙ ap (λ x. capped (row_profile (1 + height e) false (is_minus c.args.token.kind && (begins_tight e && is_chain e)) x (max (profile e).row 1) (profile e).count)) f.long
    ∙ ap capped (unary_from c.args.token e)

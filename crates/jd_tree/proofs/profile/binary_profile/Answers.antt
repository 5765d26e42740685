use Rattle.std.proofs.Common.{◌≡◌, ◌+◌, max, true, false, ◌&&◌, ap, ◌∙◌, arith}
use Rattle.jd_grammar.specs.Kinds.{is_minus}
use Rattle.jd_grammar.specs.Rows.{begins_tight, is_chain}
use Rattle.jd_grammar.specs.Depth.{height}
use Rattle.jd_grammar.specs.Profile.{profile, row_profile}
use Rattle.jd_tree.specs.Measures.{capped}
use Rattle.jd_tree.proofs.Measuring.{fields, difference, binary_from}
use Rattle.jd_tree.proofs.profile.binary_profile.Goals as goal

pub returns : goal.returns
returns c = λ l e hl h.
    let f = fields c.args.operand e h in
    let g = fields c.args.left l hl in
    let b : c.is_difference-chain.result ≡ difference l c.args.token e =
    c.is_difference-chain.ensures ∙ ap (λ x. (is_minus c.args.token.kind && c.args.token.spaced) && ((x && c.args.operand.chain) && c.args.left.chain)) f.tight
    ∙ ap (λ x. (is_minus c.args.token.kind && c.args.token.spaced) && ((begins_tight e && x) && c.args.left.chain)) f.chain
    ∙ ap (λ x. (is_minus c.args.token.kind && c.args.token.spaced) && ((begins_tight e && is_chain e) && x)) g.chain in
    c.chain_profile.ensures (1 + max (height l) (height e)) (max (profile l).row (max (profile e).row 1)) ((profile l).count + 1 + (profile e).count) (omega arith) (omega arith) (omega arith)
    ∙ ap (λ x. capped (row_profile (1 + max (height l) (height e)) false x true (max (profile l).row (max (profile e).row 1)) ((profile l).count + 1 + (profile e).count))) b
    ∙ ap capped (binary_from l c.args.token e)

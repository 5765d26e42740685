use Rattle.std.proofs.Common.{◌≡◌, ◌+◌, max, true, ◌&&◌, ap, ◌∙◌, arith}
use Rattle.jd_grammar.specs.Rows.{begins_tight, is_plain, is_chain}
use Rattle.jd_grammar.specs.Depth.{height}
use Rattle.jd_grammar.specs.Profile.{profile, row_profile}
use Rattle.jd_tree.specs.Measures.{capped}
use Rattle.jd_tree.proofs.Measuring.{fields, call_from}
use Rattle.jd_tree.proofs.profile.single_call_profile.Goals as goal

pub returns : goal.returns
returns c = λ f e o d hf he hs.
    let g = fields c.args.callee f hf in
    let a = fields c.args.argument e he in
    let b : c.is_group_behind-chain.result ≡ ((o.spaced && is_plain e) && is_chain f) =
    c.is_group_behind-chain.ensures ∙ ap (λ x. (x && c.args.argument.plain) && c.args.callee.chain) hs
    ∙ ap (λ x. (o.spaced && x) && c.args.callee.chain) a.plain ∙ ap (λ x. (o.spaced && is_plain e) && x) g.chain in
    c.chain_profile.ensures (1 + max (height f) (height e)) (max (profile f).row (1 + height e)) ((profile f).count + 1) (omega arith) (omega arith) (omega arith)
    ∙ ap (λ x. capped (row_profile (1 + max (height f) (height e)) x c.is_group_behind-chain.result true (max (profile f).row (1 + height e)) ((profile f).count + 1))) g.tight
    ∙ ap (λ x. capped (row_profile (1 + max (height f) (height e)) (begins_tight f) x true (max (profile f).row (1 + height e)) ((profile f).count + 1))) b
    ∙ ap capped (call_from f o e d)

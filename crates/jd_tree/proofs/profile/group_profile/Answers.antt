use Rattle.std.proofs.Common.{◌+◌, ap, ◌∙◌, arith}
use Rattle.jd_grammar.specs.Depth.{height}
use Rattle.jd_tree.specs.Measures.{capped}
use Rattle.jd_tree.proofs.Measuring.{fields, group_from}
use Rattle.jd_tree.proofs.profile.group_profile.Goals as goal

pub returns : goal.returns
returns c = λ e o d h.
    let f = fields c.args.inner e h in
    c.chain_profile.ensures (1 + height e) (1 + height e) 0 (omega arith) (omega arith) (omega arith) ∙ ap capped (group_from o e d)

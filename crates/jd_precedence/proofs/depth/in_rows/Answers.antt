use Rattle.std.proofs.Common.{sym, ap, ◌∙◌, arith}
use Rattle.jd_grammar.specs.Depth.{height}
use Rattle.jd_grammar.specs.Frames.{rows}
use Rattle.jd_tree.specs.Measures.{capped}
use Rattle.jd_tree.specs.Code.{plain_first, plain_atoms}
use Rattle.jd_precedence.specs.Depths.{held_parts}
use Rattle.jd_precedence.proofs.Nested.{held_profile}
use Rattle.jd_precedence.proofs.depth.in_rows.Goals as goal

pub returns : goal.returns
returns c = λ a h.
    let r = c.args.rows.now in
    let hold = rows r.opens (plain_first r.atoms) (plain_atoms r.atoms) r.pending in
    c.round_profile.ensures (held_parts hold (height a)) (omega (arith, r.atoms.measured)) ∙ ap capped (sym (held_profile hold a))

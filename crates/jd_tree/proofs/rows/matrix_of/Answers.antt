use Rattle.std.proofs.Common.{max, sym, ap, ◌∙◌}
use Rattle.jd_grammar.specs.Depth.{height, height_cells}
use Rattle.jd_tree.specs.Measures.{measure}
use Rattle.jd_tree.specs.Code.{plain_first, plain_atoms}
use Rattle.jd_tree.proofs.Trees.{matrix_whole}
use Rattle.jd_tree.proofs.rows.matrix_of.Goals as goal

pub invariant_of-result : goal.invariant_of-result
invariant_of-result c = record {
  measured =
      c.round_profile-profile.ensures (max (height (plain_first c.args.atoms)) (height_cells (plain_atoms c.args.atoms))) c.args.atoms.measured
      ∙ ap measure (sym (matrix_whole c.args.opens c.args.atoms.first c.args.atoms.items c.args.closes c.in_ok-matrix.matrix c.in_ok-matrix.ensures));
}

pub returns : goal.returns
returns c = matrix_whole c.args.opens c.args.atoms.first c.args.atoms.items c.args.closes c.in_ok-matrix.matrix c.in_ok-matrix.ensures

use Rattle.std.proofs.Common.{sym, ap, ◌∙◌}
use Rattle.jd_tree.specs.Measures.{measure}
use Rattle.jd_tree.specs.Plain.{plain}
use Rattle.jd_tree.proofs.Trees.{binary_whole}
use Rattle.jd_tree.proofs.build.binary_of.Goals as goal

pub invariant_of-result : goal.invariant_of-result
invariant_of-result c = record {
  measured =
      c.binary_profile-profile.ensures (plain c.args.left.expr) (plain c.args.operand.expr) c.args.left.measured c.args.operand.measured
      ∙ ap measure (sym (binary_whole c.in-Ok.first c.in-Ok.operations c.in_ok-last-in-Ok.last c.args.left.expr c.args.operator c.args.operand.expr c.in-Ok.ensures c.in_ok-last-in-Ok.ensures));
}

pub returns-in_ok-last-in-Ok : goal.returns-in_ok-last-in-Ok
returns-in_ok-last-in-Ok c = binary_whole c.in-Ok.first c.in-Ok.operations c.in_ok-last-in-Ok.last c.args.left.expr c.args.operator c.args.operand.expr c.in-Ok.ensures c.in_ok-last-in-Ok.ensures

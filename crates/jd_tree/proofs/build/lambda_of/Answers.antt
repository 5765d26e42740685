use Rattle.std.proofs.Common.{sym, ap, ◌∙◌}
use Rattle.jd_tree.specs.Measures.{measure}
use Rattle.jd_tree.specs.Plain.{plain}
use Rattle.jd_tree.proofs.Levels.{plain_lambda}
use Rattle.jd_tree.proofs.build.lambda_of.Goals as goal

pub invariant_of-result : goal.invariant_of-result
invariant_of-result c = record {
  measured =
      c.lambda_profile-profile.ensures (plain c.in_ok-names.names) (plain c.in_ok-names.body) c.args.arrow
      (c.args.names.measured ∙ ap (λ x. measure (plain x)) (sym c.in_ok-names.ensures.one))
      (c.args.body.measured ∙ ap (λ x. measure (plain x)) (sym c.in_ok-names.ensures.other))
      ∙ ap measure (sym (plain_lambda c.in_ok-names.names c.args.arrow c.in_ok-names.body));
}

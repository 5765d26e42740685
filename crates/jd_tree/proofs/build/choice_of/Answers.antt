use Rattle.std.proofs.Common.{sym, ap, ◌∙◌}
use Rattle.jd_tree.specs.declared.tree.Application.TheViews as view
use Rattle.jd_tree.specs.Measures.{measure}
use Rattle.jd_tree.specs.Plain.{plain}
use Rattle.jd_tree.proofs.Levels.{plain_choice_of}
use Rattle.jd_tree.proofs.build.choice_of.Goals as goal

pub invariant_of-result : goal.invariant_of-result
invariant_of-result c = record {
  measured =
      c.choice_profile-profile.ensures (plain c.args.condition.expr) (plain c.args.chosen.expr) (plain c.args.other.expr) c.args.question c.args.colon
      c.args.condition.measured c.args.chosen.measured c.args.other.measured
      ∙ ap measure (sym (plain_choice_of c.args.condition.expr c.args.question c.args.chosen.expr c.args.colon c.args.other.expr))
      ∙ ap (λ x. measure (plain (view.Choice x))) (sym c.in_ok-choice.ensures);
}

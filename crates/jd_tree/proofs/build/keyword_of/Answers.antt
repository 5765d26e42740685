use Rattle.std.proofs.Common.{sym, ap, ◌∙◌}
use Rattle.jd_tree.specs.declared.tree.Application.TheViews as view
use Rattle.jd_tree.specs.Measures.{measure}
use Rattle.jd_tree.specs.Plain.{plain}
use Rattle.jd_tree.proofs.Levels.{plain_keyword_of}
use Rattle.jd_tree.proofs.build.keyword_of.Goals as goal

pub invariant_of-result : goal.invariant_of-result
invariant_of-result c = record {
  measured =
      c.keyword_profile-profile.ensures (plain c.args.value.expr) c.args.name c.args.assign c.args.value.measured
      ∙ ap measure (sym (plain_keyword_of c.args.name c.args.assign c.args.value.expr))
      ∙ ap (λ x. measure (plain (view.Keyword x))) (sym c.in_ok-keyword.ensures);
}

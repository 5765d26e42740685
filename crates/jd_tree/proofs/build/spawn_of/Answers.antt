use Rattle.std.proofs.Common.{sym, ap, ◌∙◌}
use Rattle.jd_tree.specs.Measures.{measure}
use Rattle.jd_tree.specs.Plain.{plain}
use Rattle.jd_tree.proofs.Levels.{plain_spawn}
use Rattle.jd_tree.proofs.build.spawn_of.Goals as goal

pub invariant_of-result : goal.invariant_of-result
invariant_of-result c = record {
  measured =
      c.spawn_profile-profile.ensures (plain c.in_ok-place.place) (plain c.in_ok-place.body) c.args.word
      (c.args.place.measured ∙ ap (λ x. measure (plain x)) (sym c.in_ok-place.ensures.one))
      (c.args.body.measured ∙ ap (λ x. measure (plain x)) (sym c.in_ok-place.ensures.other))
      ∙ ap measure (sym (plain_spawn c.args.word c.in_ok-place.place c.in_ok-place.body));
}

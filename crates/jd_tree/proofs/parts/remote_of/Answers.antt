use Rattle.std.proofs.Common.{◌+◌, max, sym, ap, ◌∙◌, arith}
use Rattle.jd_grammar.specs.Depth.{height}
use Rattle.jd_tree.specs.declared.tree.Expr.TheVariants as variant
use Rattle.jd_tree.specs.Measures.{measure}
use Rattle.jd_tree.specs.Plain.{plain}
use Rattle.jd_tree.proofs.Measuring.{fields}
use Rattle.jd_tree.proofs.Levels.{plain_remote_of}
use Rattle.jd_tree.proofs.parts.remote_of.Goals as goal

pub invariant_of-result : goal.invariant_of-result
invariant_of-result c = record {
  measured =
      c.round_profile-profile.ensures (max (2 + height (plain c.args.size.expr)) (height (plain c.args.place.expr)))
      (let f = fields c.args.size.profile (plain c.args.size.expr) c.args.size.measured in let g = fields c.args.place.profile (plain c.args.place.expr) c.args.place.measured in omega arith)
      ∙ ap measure (sym (plain_remote_of c.args.channel c.args.signs.element c.args.signs.shut c.args.signs.opens c.args.size.expr c.args.signs.closes c.args.signs.comma c.args.place.expr c.args.signs.last))
      ∙ ap (λ x. measure (plain (variant.Remote x))) (sym c.in_ok-remote.ensures);
}

pub returns : goal.returns
returns c = ap (λ x. plain (variant.Remote x)) c.in_ok-remote.ensures
    ∙ plain_remote_of c.args.channel c.args.signs.element c.args.signs.shut c.args.signs.opens c.args.size.expr c.args.signs.closes c.args.signs.comma c.args.place.expr c.args.signs.last

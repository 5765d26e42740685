use Rattle.std.proofs.Common.{max, sym, ap, ◌∙◌, arith}
use Rattle.jd_grammar.specs.Depth.{height, height_generators}
use Rattle.jd_tree.specs.Measures.{measure}
use Rattle.jd_tree.specs.Plain.{plain}
use Rattle.jd_tree.specs.Code.{plain_generators}
use Rattle.jd_tree.proofs.Measuring.{fields}
use Rattle.jd_tree.proofs.Trees.{comprehension_whole}
use Rattle.jd_tree.proofs.parts.comprehension_of.Goals as goal

pub invariant_of-result : goal.invariant_of-result
invariant_of-result c = record {
  measured =
      c.round_profile-profile.ensures (max (height (plain c.args.element.expr)) (height_generators (plain_generators c.args.generators)))
      (let f = fields c.args.element.profile (plain c.args.element.expr) c.args.element.measured in omega arith)
      ∙ ap measure (sym (comprehension_whole c.args.opens c.args.element.expr c.args.generators.items c.args.closes c.in_ok-comprehension.comprehension c.in_ok-comprehension.ensures));
}

pub returns : goal.returns
returns c = comprehension_whole c.args.opens c.args.element.expr c.args.generators.items c.args.closes c.in_ok-comprehension.comprehension c.in_ok-comprehension.ensures

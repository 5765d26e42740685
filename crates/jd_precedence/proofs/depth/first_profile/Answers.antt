use Rattle.std.proofs.Common.{sym, ap, ◌∙◌}
use Rattle.jd_grammar.specs.Profile.{profile}
use Rattle.jd_tree.specs.Measures.{capped}
use Rattle.jd_precedence.specs.Depths.{first_parts}
use Rattle.jd_precedence.proofs.Nested.{first_profile}
use Rattle.jd_precedence.proofs.depth.first_profile.Goals as goal

pub returns : goal.returns
returns c = λ o e h. c.round_profile.ensures (first_parts (profile e)) (c.first_parts_of.ensures (profile e) h) ∙ ap capped (sym (first_profile o e))

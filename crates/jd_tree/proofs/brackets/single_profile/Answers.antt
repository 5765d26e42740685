use Rattle.std.proofs.Common.{sym, ap, ◌∙◌}
use Rattle.jd_grammar.specs.Trees.{bracket, none, just}
use Rattle.jd_tree.specs.Measures.{measure}
use Rattle.jd_tree.specs.Code.{plain_bracket}
use Rattle.jd_tree.proofs.brackets.single_profile.Goals as goal

pub returns-in-Grouped : goal.returns-in-Grouped
returns-in-Grouped c = λ e d h. c.group_profile.ensures e c.args.opens d h ∙ ap (λ b. measure (bracket (plain_bracket b) c.args.opens none (just e) d)) (sym c.in-Grouped.is)

use Rattle.std.proofs.Common.{max, sym, ap, ◌∙◌, arith}
use Rattle.jd_grammar.specs.Trees.{bracket}
use Rattle.jd_grammar.specs.Depth.{height_items, height_maybe}
use Rattle.jd_tree.specs.Measures.{measure, capped}
use Rattle.jd_tree.specs.Code.{plain_bracket, plain_measured}
use Rattle.jd_tree.proofs.Measuring.{several_called, several_grouped}
use Rattle.jd_tree.proofs.brackets.several_profile.Goals as goal

pub returns-in-Grouped : goal.returns-in-Grouped
returns-in-Grouped c = λ o es last d h k. c.round_profile.ensures (max 0 (max (height_items es) (height_maybe last))) (omega arith)
    ∙ ap capped (sym (several_grouped o es last d h)) ∙ ap (λ b. measure (bracket (plain_bracket b) o es last d)) (sym c.in-Grouped.is)

pub returns-in-Called : goal.returns-in-Called
returns-in-Called c = λ o es last d h k. c.call_profile.ensures (plain_measured c.in-Called.callee) (max (height_items es) (height_maybe last)) c.in-Called.callee.measured k
    ∙ ap capped (sym (several_called (plain_measured c.in-Called.callee) o es last d h)) ∙ ap (λ b. measure (bracket (plain_bracket b) o es last d)) (sym c.in-Called.is)

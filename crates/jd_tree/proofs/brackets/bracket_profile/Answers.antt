use Rattle.std.proofs.Common.{◌≡◌, [], sym, ap, ◌∙◌, arith}
use Rattle.jd_grammar.specs.Trees.{bracket, just}
use Rattle.jd_tree.specs.Measures.{measure}
use Rattle.jd_tree.specs.Code.{plain_measured, plain_bracket, plain_maybe, plain_arguments}
use Rattle.jd_tree.proofs.Measuring.{fields}
use Rattle.jd_tree.proofs.Lists.{not_one}
use Rattle.jd_tree.proofs.brackets.bracket_profile.Goals as goal

pub returns-else-is_empty : goal.returns-else-is_empty
returns-else-is_empty c = λ d.
    let f = fields c.in-Some.last.profile (plain_measured c.in-Some.last) c.in-Some.last.measured in
    let several : c.args.most.now.items ≡ [] → ⊥ = λ e. let t = c.is_empty.ensures.1 e in cc in
    c.several_profile-else-is_empty.ensures c.args.opens (plain_arguments c.args.most.now) (just (plain_measured c.in-Some.last)) d
    (not_one c.args.most.now.items (plain_measured c.in-Some.last) several) (omega arith)
    ∙ ap (λ l. measure (bracket (plain_bracket c.args.bracket.now) c.args.opens (plain_arguments c.args.most.now) (plain_maybe l) d)) (sym c.in-Some.is)

use Rattle.std.proofs.Common.{sym, ap, ◌∙◌}
use Rattle.jd_grammar.specs.Trees.{bracket}
use Rattle.jd_tree.specs.Measures.{measure}
use Rattle.jd_tree.specs.Plain.{Inside, plain_listing}
use Rattle.jd_tree.specs.Code.{plain_bracket}
use Rattle.jd_tree.proofs.brackets.bracket_of.Goals as goal

pub invariant_of-result : goal.invariant_of-result
invariant_of-result c = record {
  measured = c.bracket_profile-profile.ensures c.args.closes
      ∙ ap measure (sym (c.in_ok-expr-in-Ok.ensures ∙ ap (λ (i : Inside). bracket (plain_bracket c.args.bracket) i.opens i.most i.last i.closes) (ap plain_listing c.in-Ok.ensures ∙ c.listing_of.ensures)));
}

pub returns-in_ok-expr-in-Ok : goal.returns-in_ok-expr-in-Ok
returns-in_ok-expr-in-Ok c = c.in_ok-expr-in-Ok.ensures ∙ ap (λ (i : Inside). bracket (plain_bracket c.args.bracket) i.opens i.most i.last i.closes) (ap plain_listing c.in-Ok.ensures ∙ c.listing_of.ensures)

use Rattle.jd_grammar.specs.declared.token.Kind.TheVariants.{CloseParen}
use Rattle.jd_grammar.specs.Shortest.{token}
use Rattle.jd_precedence.proofs.depth.single_profile.Goals as goal

pub returns-in-Grouped : goal.returns-in-Grouped
returns-in-Grouped c = λ e h. rw c.in-Grouped.is (c.group_profile.ensures e c.args.opens (token CloseParen) h)

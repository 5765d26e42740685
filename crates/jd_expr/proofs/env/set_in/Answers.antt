use Rattle.std.proofs.Common.{ap, sym, ◌∙◌}
use Rattle.jd_expr.specs.Entries.{variables}
use Rattle.jd_expr.proofs.Mapped.{written_in}
use Rattle.jd_expr.proofs.env.set_in.Goals as goal

pub returns-in-Some-clause-ok : goal.returns-in-Some-clause-ok
returns-in-Some-clause-ok c =
    ap (λ value. variables (c.get_mut.follows.lender value).entries) c.put.ensures
    ∙ ap variables (c.get_mut.follows.holds c.args.value).0
    ∙ written_in c.args.name.now c.args.value c.in-Some.held.now c.args.values.now.entries (sym c.in-Some.ensures.value)

use Rattle.std.proofs.Common.{ap, ◌∙◌}
use Rattle.jd_expr.specs.Entries.{variables}
use Rattle.jd_expr.proofs.Mapped.{added_in}
use Rattle.jd_expr.proofs.env.add.Goals as goal

pub returns-clause-ok : goal.returns-clause-ok
returns-clause-ok c = ap variables c.in_ok-insert.ensures.entries ∙ added_in c.args.name c.args.value c.args.values.now.entries

use Rattle.std.proofs.Common.{ap, ◌∙◌}
use Rattle.jd_expr.specs.Entries.{variables}
use Rattle.jd_expr.specs.Variables.{value_of, without}
use Rattle.jd_expr.proofs.Mapped.{value_in, without_in}
use Rattle.jd_expr.proofs.env.Env.unset.Goals as goal

pub returns-clause-value : goal.returns-clause-value
returns-clause-value c =
    c.shift_remove.ensures.value ∙ value_in c.args.name.now c.self.inside.values.entries ∙ ap (value_of c.args.name.now) c.self.view_is

pub returns-clause-rest : goal.returns-clause-rest
returns-clause-rest c =
    ap variables c.shift_remove.ensures.entries ∙ without_in c.args.name.now c.self.inside.values.entries ∙ ap (without c.args.name.now) c.self.view_is

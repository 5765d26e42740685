use Rattle.std.proofs.Common.{ap, ◌∙◌}
use Rattle.jd_expr.specs.Variables.{value_of}
use Rattle.jd_expr.proofs.Mapped.{value_in}
use Rattle.jd_expr.proofs.env.Env.get.Goals as goal

pub returns : goal.returns
returns c =
    c.get.ensures.value ∙ value_in c.args.name.now c.self.inside.values.entries ∙ ap (value_of c.args.name.now) c.self.view_is

use Rattle.std.proofs.Common.{◌∙◌}
use Rattle.jd_plain.specs.State.{state_of}
use Rattle.jd_plain.proofs.Given.{looked_as}
use Rattle.jd_plain.proofs.plain.Plain.give_local.Goals as goal

pub returns : goal.returns
returns c = c.in_ok-give_from.ensures ∙ looked_as (state_of c.args.self.now) c.args.task

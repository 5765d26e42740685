use Rattle.jd_tree.specs.Code.{plain_measured}
use Rattle.jd_precedence.proofs.depth.in_choice.Goals as goal

pub returns : goal.returns
returns c = λ q t e h. c.choice_profile.ensures (plain_measured c.args.condition.now) (plain_measured c.args.chosen.now) e q t c.args.condition.now.measured c.args.chosen.now.measured h

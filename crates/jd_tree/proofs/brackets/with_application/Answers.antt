use Rattle.std.proofs.Common.{map, ap, ◌∙◌}
use Rattle.jd_tree.specs.Plain.{plain, applied, plain_application}
use Rattle.jd_tree.proofs.Trees.{application_end}
use Rattle.jd_tree.proofs.brackets.with_application.Goals as goal

pub returns : goal.returns
returns c = ap (λ os. applied (plain c.args.first) (map plain_application os)) c.in_ok-push.ensures.ok ∙ application_end (plain c.args.first) c.args.applications c.args.last

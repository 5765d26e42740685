use Rattle.std.proofs.Common.{rules, not}
use Rattle.std.proofs.lemmas.Fn.{filter_same}
use Rattle.jd_model.specs.Machine.{is_task}
use Rattle.jd_plain.proofs.want.remove.Goals as goal

pub returns : goal.returns
returns c = filter_same _ (λ u. not (is_task c.args.task u)) _ (λ x b f' k. search rules) _ _ c.retain.ensures.filtered

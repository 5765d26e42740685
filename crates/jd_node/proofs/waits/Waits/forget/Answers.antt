use Rattle.std.proofs.Common.{rules, not}
use Rattle.std.proofs.lemmas.Fn.{filter_same}
use Rattle.jd_model.specs.Machine.{is_same}
use Rattle.jd_model.specs.Node.{Waiting}
use Rattle.jd_node.specs.Waits.{waits_of}
use Rattle.jd_node.proofs.waits.Waits.forget.Goals as goal

pub returns : goal.returns
unfolding waits_of
returns c = filter_same _ (λ (w : Waiting). not (is_same c.args.cell w.cell)) _ (λ x b f k. search rules) _ _ c.retain.ensures.filtered

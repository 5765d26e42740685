use Rattle.std.proofs.Common.{ap, ◌∙◌}
use Rattle.jd_tree.specs.Plain.{plain}
use Rattle.jd_tree.specs.Peeling.{is_tight_chain}
use Rattle.jd_tree.proofs.peel.take_negative.Goals as goal

pub take_number-requires : goal.take_number-requires
take_number-requires c = ap (λ e. is_tight_chain (plain e)) c.into_inner.ensures ∙ c.requires

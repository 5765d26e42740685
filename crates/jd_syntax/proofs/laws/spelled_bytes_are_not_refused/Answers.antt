use Rattle.jd_syntax.proofs.Refusals.{not_both}
use Rattle.jd_syntax.proofs.laws.spelled_bytes_are_not_refused.Goals as goal

pub returns : goal.returns
returns c = not_both

use Rattle.jd_syntax.proofs.Total.{spelled_or_refused}
use Rattle.jd_syntax.proofs.laws.bytes_are_spelled_or_refused.Goals as goal

pub returns : goal.returns
returns c = spelled_or_refused

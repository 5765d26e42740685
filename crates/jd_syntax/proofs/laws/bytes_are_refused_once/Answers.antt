use Rattle.jd_syntax.proofs.Refusals.{refused_once}
use Rattle.jd_syntax.proofs.laws.bytes_are_refused_once.Goals as goal

pub returns : goal.returns
returns c = refused_once

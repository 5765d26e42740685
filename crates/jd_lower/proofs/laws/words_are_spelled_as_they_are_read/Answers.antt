use Rattle.jd_lower.proofs.Spelling.{as_read}
use Rattle.jd_lower.proofs.laws.words_are_spelled_as_they_are_read.Goals as goal

pub returns : goal.returns
returns c = as_read

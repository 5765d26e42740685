use Rattle.jd_laws.proofs.Numbers as lemmas
use Rattle.jd_laws.proofs.laws.counts_within.Goals as goal

pub returns : goal.returns
returns c = lemmas.counts_within

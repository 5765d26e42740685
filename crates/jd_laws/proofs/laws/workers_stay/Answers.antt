use Rattle.jd_laws.proofs.Numbers as lemmas
use Rattle.jd_laws.proofs.laws.workers_stay.Goals as goal

pub returns : goal.returns
returns c = lemmas.workers_stay

use Rattle.jd_laws.proofs.Standing as lemmas
use Rattle.jd_laws.proofs.laws.arrive_stands.Goals as goal

pub returns : goal.returns
returns c = lemmas.arrive_stands

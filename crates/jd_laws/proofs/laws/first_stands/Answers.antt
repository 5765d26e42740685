use Rattle.jd_laws.proofs.Standing as lemmas
use Rattle.jd_laws.proofs.laws.first_stands.Goals as goal

pub returns : goal.returns
returns c = lemmas.first_stands

use Rattle.jd_laws.proofs.Quiet as lemmas
use Rattle.jd_laws.proofs.laws.ended_is_ending.Goals as goal

pub returns : goal.returns
returns c = lemmas.ended_is_ending

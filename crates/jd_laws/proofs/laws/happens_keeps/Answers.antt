use Rattle.jd_laws.proofs.Standing as lemmas
use Rattle.jd_laws.proofs.laws.happens_keeps.Goals as goal

pub returns : goal.returns
returns c = lemmas.happens_keeps

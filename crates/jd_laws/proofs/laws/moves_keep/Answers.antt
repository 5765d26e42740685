use Rattle.jd_laws.proofs.Standing as lemmas
use Rattle.jd_laws.proofs.laws.moves_keep.Goals as goal

pub returns : goal.returns
returns c = lemmas.moves_keep

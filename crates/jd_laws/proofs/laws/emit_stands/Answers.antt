use Rattle.jd_laws.proofs.Standing as lemmas
use Rattle.jd_laws.proofs.laws.emit_stands.Goals as goal

pub returns : goal.returns
returns c = lemmas.emit_stands

use Rattle.jd_laws.proofs.Marks as lemmas
use Rattle.jd_laws.proofs.laws.marks_keep_soundness.Goals as goal

pub returns : goal.returns
returns c = lemmas.marks_keep_soundness

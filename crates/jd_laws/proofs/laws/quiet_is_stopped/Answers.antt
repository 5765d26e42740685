use Rattle.jd_laws.proofs.Quiet as lemmas
use Rattle.jd_laws.proofs.laws.quiet_is_stopped.Goals as goal

pub returns : goal.returns
returns c = lemmas.quiet_is_stopped

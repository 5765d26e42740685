use Rattle.jd_laws.proofs.Quiet as lemmas
use Rattle.jd_laws.proofs.laws.ready_runs.Goals as goal

pub returns : goal.returns
returns c = lemmas.ready_runs

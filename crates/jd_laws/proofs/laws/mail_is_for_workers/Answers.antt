use Rattle.jd_laws.proofs.Numbers as lemmas
use Rattle.jd_laws.proofs.laws.mail_is_for_workers.Goals as goal

pub returns : goal.returns
returns c = lemmas.mail_is_for_workers

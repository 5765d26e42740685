use Rattle.jd_laws.proofs.Prefix as lemmas
use Rattle.jd_laws.proofs.laws.prefix_replays.Goals as goal

pub returns : goal.returns
returns c = lemmas.prefix_replays

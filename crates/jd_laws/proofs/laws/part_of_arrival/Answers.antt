use Rattle.jd_laws.proofs.Numbers as lemmas
use Rattle.jd_laws.proofs.laws.part_of_arrival.Goals as goal

pub returns : goal.returns
returns c = lemmas.part_of_arrival

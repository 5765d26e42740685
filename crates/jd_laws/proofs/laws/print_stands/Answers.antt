use Rattle.jd_laws.proofs.Standing as lemmas
use Rattle.jd_laws.proofs.laws.print_stands.Goals as goal

pub returns : goal.returns
returns c = lemmas.print_stands

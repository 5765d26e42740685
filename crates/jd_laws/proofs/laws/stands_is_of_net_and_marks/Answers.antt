use Rattle.jd_laws.proofs.Keeps as lemmas
use Rattle.jd_laws.proofs.laws.stands_is_of_net_and_marks.Goals as goal

pub returns : goal.returns
returns c = lemmas.stands_is_of_net_and_marks

use Rattle.jd_desk.proofs.Order.{turns_keep_places_rising as law}
use Rattle.jd_desk.proofs.laws.turns_keep_places_rising.Goals as goal

pub returns : goal.returns
returns g c = law

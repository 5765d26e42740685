use Rattle.jd_desk.proofs.Order.{one_seats_kind_keeps_its_order as law}
use Rattle.jd_desk.proofs.laws.one_seats_kind_keeps_its_order.Goals as goal

pub returns : goal.returns
returns g c = law

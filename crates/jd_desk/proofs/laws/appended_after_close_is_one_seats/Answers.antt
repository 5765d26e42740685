use Rattle.jd_desk.proofs.Order.{appended_after_close_is_one_seats as law}
use Rattle.jd_desk.proofs.laws.appended_after_close_is_one_seats.Goals as goal

pub returns : goal.returns
returns g c = law

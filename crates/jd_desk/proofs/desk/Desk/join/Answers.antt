use Rattle.std.proofs.Common.{rules}
use Rattle.jd_desk.proofs.Moves.{joins_all}
use Rattle.jd_desk.proofs.desk.Desk.join.Goals as goal

pub join_seat-requires : goal.join_seat-requires
join_seat-requires g c = (search rules, search rules, search rules, search rules, joins_all _ _ _ _)

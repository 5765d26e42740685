use Rattle.std.proofs.Common.{rules}
use Rattle.jd_desk.proofs.Moves.{splits_all}
use Rattle.jd_desk.proofs.desk.UnnamedDesk.named.Goals as goal

pub split_seat-first-requires : goal.split_seat-first-requires
split_seat-first-requires g c = (search rules, search rules, splits_all _ _)

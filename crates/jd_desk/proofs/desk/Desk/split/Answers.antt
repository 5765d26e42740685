use Rattle.std.proofs.Common.{◌≤◌, sym, subst, rules}
use Rattle.jd_desk.proofs.Moves.{splits_share}
use Rattle.jd_desk.proofs.desk.Desk.split.Goals as goal

pub split_seat-pass-requires : goal.split_seat-pass-requires
split_seat-pass-requires g c = (search rules, search rules, splits_share _ _ (subst (λ s. 2 ≤ s.shares) (sym c.seat.view_is) c.requires))

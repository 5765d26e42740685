use Rattle.jd_expr.proofs.Fuel.{same_meaning}
use Rattle.jd_expr.proofs.laws.more_fuel_changes_nothing.Goals as goal

pub returns : goal.returns
returns c = same_meaning

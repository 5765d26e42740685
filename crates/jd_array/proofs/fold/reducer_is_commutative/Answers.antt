use Rattle.jd_array.proofs.Reducers.{commutes}
use Rattle.jd_array.proofs.fold.reducer_is_commutative.Goals as goal

pub returns : goal.returns
returns c = commutes c.args._op

use Rattle.jd_array.proofs.Inside.{outside_by_length}
use Rattle.jd_array.proofs.index.is_inside.Goals as goal

pub returns-then-dims-index : goal.returns-then-dims-index
returns-then-dims-index c = ((λ never. Prim.cc), λ inside. absurd (outside_by_length c.args.dims.now c.args.index.now c.if-dims-index.true inside))

use Rattle.jd_array.proofs.Picked.{other_length}
use Rattle.jd_array.proofs.slices.are_inside.Goals as goal

pub returns-then-dims-picks : goal.returns-then-dims-picks
returns-then-dims-picks c = ((λ never. Prim.cc), λ inside. absurd (other_length c.args.dims.now c.args.picks.now c.if-dims-picks.true inside))

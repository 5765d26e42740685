use Rattle.jd_layout.proofs.Indexes.{other_length}
use Rattle.jd_layout.proofs.parts.is_index.Goals as goal

pub returns-then-dims-index : goal.returns-then-dims-index
returns-then-dims-index c = ((λ never. Prim.cc), λ valid. absurd (other_length c.args.dims.now c.args.index.now c.if-dims-index.true valid))

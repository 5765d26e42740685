use Rattle.jd_layout.proofs.Whole.{is_partition}
use Rattle.jd_layout.proofs.laws.layout_is_partition.Goals as goal

pub returns : goal.returns
returns c = let h = c.dims in is_partition c.args.layout.now.dims c.args.layout.now.dist h.ensures.valid.dist.lengths h.ensures.valid.dist.counts
